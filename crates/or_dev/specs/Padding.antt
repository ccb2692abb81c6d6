-- The status words give back the eight words that keep them.
use Rattle.std.proofs.Common.{◌≡◌, ◌∙◌, sym, ap, ℕ, ◌-◌, List, ◌++◌, length, take, replicate, arith}
use Rattle.std.proofs.lemmas.List.{length-take-le, take-append-drop}
use Rattle.or_dev.specs.declared.controller.Ompic.TheInside.{Inside}
use Rattle.or_dev.specs.Controller.{IsPadded}

-- the words of the cores, and zeros up to eight
abbrev pub inside_of : List ℕ → Inside
inside_of statuses = record { words = statuses ++ replicate (8 - length statuses) 0; cores = length statuses }

pub inside_of_ok : (a : Inside) → IsPadded a.words a.cores → inside_of (take a.cores a.words) ≡ a
inside_of_ok a h =
    let len : length (take a.cores a.words) ≡ a.cores = length-take-le a.cores a.words (omega (arith, h.few, h.eight)) in
    let words : take a.cores a.words ++ replicate (8 - length (take a.cores a.words)) 0 ≡ a.words =
    ap (λ n. take a.cores a.words ++ replicate (8 - n) 0) len ∙ ap (λ r. take a.cores a.words ++ r) (sym h.rest) ∙ take-append-drop a.cores a.words in
    let e : ◌≡◌ {A = Inside} (record { words = take a.cores a.words ++ replicate (8 - length (take a.cores a.words)) 0; cores = length (take a.cores a.words) }) (record { words = a.words; cores = a.cores }) = cc in e
