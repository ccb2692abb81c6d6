-- How the command `dis` ends on an image that was loaded.
use Rattle.std.specs.Prelude.{◌≡◌, ℕ, List, Some, None}
use Rattle.or_words.specs.declared.limits.TheConstants.{MOST_RAM_BYTES}
use Rattle.or_elf.specs.Fault.{elf_fault}
use Rattle.or_host.specs.HostState.{HostState}
use Rattle.or_host.specs.Calls.{dash}
use Rattle.or_command.specs.Ends.{CommandEnd, done, unread, too_long, refused, unwritten, no_memory}
use Rattle.or_command.specs.Pieces.{Wrote, WroteUntilFault, WroteUntilLack}
use Rattle.or_command_source.specs.Listing.{listing, fault_check}

abbrev pub DisEnds : List ℕ → List ℕ → CommandEnd → HostState → HostState → Type 0
DisEnds name image done old new = (elf_fault image MOST_RAM_BYTES ≡ None) × Wrote (listing image) old new
DisEnds name image (unwritten out) old new = (elf_fault image MOST_RAM_BYTES ≡ None) × (out ≡ dash) × WroteUntilFault (listing image) old new
DisEnds name image (refused fault) old new = (fault_check name (elf_fault image MOST_RAM_BYTES) ≡ Some fault) × (new ≡ old)
DisEnds name image no_memory old new = (elf_fault image MOST_RAM_BYTES ≡ None) × WroteUntilLack (listing image) old new
DisEnds name image (unread file) old new = ⊥
DisEnds name image (too_long file limit) old new = ⊥
