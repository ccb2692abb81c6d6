-- The four lines of a head, and what stands behind them.
use Rattle.std.specs.Prelude.{◌≡◌, ℕ, ◌≤◌, List, ◌∷◌, ◌++◌, codes, decimal, Bool, true, ◌⊎◌}
use Rattle.or_words.specs.declared.limits.TheConstants.{MOST_CORES, MOST_BUDGET, MOST_RAM}
use Rattle.or_text.specs.Hexadecimal.{digest_text}
use Rattle.or_sched.specs.HeadText.{form_text}
use Rattle.or_sched.specs.declared.head.Known.{Known}
use Rattle.or_sched.specs.HeadPlaces.{AreDigests}

-- the lines, each from what may change on
abbrev pub input_text : Known → List ℕ → List ℕ
input_text final end = codes "input " ++ (digest_text final.input ++ 10 ∷ end)

abbrev pub image_text : Known → List ℕ → List ℕ
image_text final end = codes "image " ++ (digest_text final.image ++ 10 ∷ input_text final end)

abbrev pub ram_text : Bool → Known → List ℕ → List ℕ
ram_text latched final end = decimal final.ram ++ (form_text latched ++ 10 ∷ image_text final end)

abbrev pub budget_text : Known → List ℕ → List ℕ
budget_text final end = decimal final.budget ++ (codes " ram " ++ ram_text final.latched final end)

abbrev pub cores_text : Known → List ℕ → List ℕ
cores_text final end = decimal final.cores ++ (codes " budget " ++ budget_text final end)

abbrev pub known_text : Known → List ℕ → List ℕ
known_text final end = codes "orsched " ++ (decimal final.version ++ 10 ∷ (codes "cores " ++ cores_text final end))

-- settings and digests that fit, and that the version can say
pub record KnownFits (known : Known) : Type 0 where
  pub version : (known.version ≡ 1) ⊎ (known.version ≡ 2)
  pub cores : (1 ≤ known.cores) × (known.cores ≤ MOST_CORES)
  pub budget : (1 ≤ known.budget) × (known.budget ≤ MOST_BUDGET)
  pub ram : (1 ≤ known.ram) × (known.ram ≤ MOST_RAM)
  pub latched : known.latched ≡ true → known.version ≡ 2
  pub digests : AreDigests known

pub record IsHeadText (final : Known) (end rest : List ℕ) : Type 0 where
  pub text : rest ≡ known_text final end
  pub fits : KnownFits final
