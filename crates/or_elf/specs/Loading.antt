-- What loading a file depends on, and which programs can be loaded from their files.
use Rattle.std.specs.Prelude.{◌≡◌, ℕ, ◌+◌, ◌*◌, ◌<◌, ◌≤◌, List, length, take, drop}
use Rattle.std.specs.List.{All, AllPairs}
use Rattle.or_words.specs.declared.limits.TheConstants.{MOST_SEGMENTS, MOST_PROGRAM_WORDS}
use Rattle.or_elf.specs.Header.{table_start, header_count, segments}
use Rattle.or_elf.specs.Text.{Piece, piece_size, word_count}

-- so many bytes from an offset on
abbrev pub part : List ℕ → ℕ → ℕ → List ℕ
part bytes start size = take size (drop start bytes)

-- two files of the same length that agree in the ELF header, in the program headers and in the bytes of each segment
pub record LoadsAlike (bytes others : List ℕ) : Type 0 where
  pub size : length bytes ≡ length others
  pub header : part bytes 0 52 ≡ part others 0 52
  pub table : part bytes (table_start bytes) (32 * header_count bytes) ≡ part others (table_start bytes) (32 * header_count bytes)
  pub parts : All (λ segment. part bytes segment.offset segment.filesz ≡ part others segment.offset segment.filesz) (segments bytes)

-- one of the bytes of a piece stands at this address
pub record Covers (piece : Piece) (address : ℕ) : Type 0 where
  pub from : piece.0 ≤ address
  pub below : address < piece.0 + piece_size piece

abbrev pub ShareNoAddress : Piece → Piece → Type 0
ShareNoAddress piece other = (address : ℕ) → Covers piece address → Covers other address → ⊥

-- a program of some pieces inside so many bytes of RAM, no two of which share an address
pub record IsLoadable (ram : ℕ) (program : List Piece) : Type 0 where
  pub some : 0 < length program
  pub few : length program ≤ MOST_SEGMENTS
  pub inside : All (λ piece. piece.0 + piece_size piece ≤ ram) program
  pub apart : AllPairs ShareNoAddress program
  pub small : word_count program ≤ MOST_PROGRAM_WORDS
