use Rattle.std.proofs.Common.{◌≡◌, ◌+◌, ◌*◌, ◌%◌, ◌^◌, refl, arith}
use Rattle.std.proofs.lemmas.Int.{ints}
use Rattle.std.specs.Prelude.{ℤ, pos, negsuc, ◌*ℤ◌}
use Rattle.std.specs.Int.{cast_unsigned, w32}
use Rattle.or_words.specs.Word.{word_of}
use Rattle.or_isa.specs.Fits.{IsSigned}

-- so many pages are as many bytes, modulo 2 ^ 32
pub page_bytes : (n : ℤ) → IsSigned 20 n → cast_unsigned w32 n * 8192 % 2 ^ 32 ≡ word_of (n *ℤ pos 8192)
page_bytes (pos k) fits = refl
page_bytes (negsuc k) fits = let e : (negsuc k *ℤ pos 8192) ≡ negsuc (k * 8192 + 8191) = omega (arith, ints) in rw e (omega arith)
