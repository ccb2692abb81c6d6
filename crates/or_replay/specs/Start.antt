-- The board before its first turn.
use Rattle.std.specs.Prelude.{ℕ, List}
use Rattle.or_words.specs.declared.Config.{Config}
use Rattle.or_words.specs.Settings.{ram_bytes}
use Rattle.or_elf.specs.Placed.{placed}
use Rattle.or_model.specs.World.{new_world}
use Rattle.or_model.specs.Turn.{Board, reset_cores}

-- all cores at reset, the image placed in RAM, the input left whole
unfoldable pub start : Config → List ℕ → List ℕ → Board
start config image input = record { cores = reset_cores config config.cores; world = new_world (placed image (ram_bytes config)) config.cores input }
