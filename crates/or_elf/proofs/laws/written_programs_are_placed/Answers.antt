use Rattle.or_elf.proofs.WrittenFault.{no_fault}
use Rattle.or_elf.proofs.WrittenPlaces.{pieces_placed, words_placed, zeros_placed, length-placed_text}
use Rattle.or_elf.proofs.laws.written_programs_are_placed.Goals as goal

pub returns : goal.returns
returns c = record { accepted = no_fault; bytes = pieces_placed; words = words_placed; zeros = zeros_placed; size = length-placed_text }
