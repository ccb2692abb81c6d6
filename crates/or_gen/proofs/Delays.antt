-- The delays, one core at a time.
use Rattle.std.proofs.Common.{◌≡◌, ◌∙◌, ℕ, zero, suc, ◌-◌, ◌/◌, ◌^◌, ◌<◌, List, ◌++◌, ap, arith, sym, append_assoc}
use Rattle.or_gen.specs.Workload.{next_number, delay_text, delays_text}

delays_step : (x cores : ℕ) → 0 < cores → delays_text x cores ≡ delay_text (next_number x / 2 ^ 30) ++ delays_text (next_number x) (cores - 1)
delays_step x zero some = absurd (omega arith)
delays_step x (suc cores) some =
    let less : cores ≡ suc cores - 1 = omega arith in ap (λ n. delay_text (next_number x / 2 ^ 30) ++ delays_text (next_number x) n) less

-- the word of one core, and then those of the others
pub one_more : (x next cores : ℕ) (old mid new : List ℕ) → 0 < cores → next ≡ next_number x → mid ≡ old ++ delay_text (next / 2 ^ 30)
    → new ≡ mid ++ delays_text next (cores - 1) → new ≡ old ++ delays_text x cores
one_more x next cores old mid new some is first rest =
    rest ∙ ap (λ m. m ++ delays_text next (cores - 1)) first ∙ append_assoc old (delay_text (next / 2 ^ 30)) (delays_text next (cores - 1))
    ∙ ap (λ n. old ++ (delay_text (n / 2 ^ 30) ++ delays_text n (cores - 1))) is ∙ ap (λ t. old ++ t) (sym (delays_step x cores some))
