-- What is kept of a list behind two appends, and what holds where a call fails.
use Rattle.std.proofs.Common.{◌≡◌, ◌∙◌, refl, sym, ap, ◌≤◌, List, ◌++◌, length, take, length-take, arith}
use Rattle.std.proofs.lemmas.List.{take-take, take_at}
use Rattle.std.specs.Prelude.{Result, Ok, Err, OnErr}
use Rattle.or_text.specs.Keeps.{Keeps}

pub kept_on : {X : Type 0} (old mid new : List X) → Keeps old mid → Keeps mid new → Keeps old new
kept_on old mid new first second =
    let long = sym (length-take (length old) mid) ∙ ap length first in
    sym (take-take (length old) (length mid) new (omega (arith, long))) ∙ (ap (take (length old)) second ∙ first)

pub kept_behind : {X : Type 0} (old text mid new : List X) → mid ≡ old ++ text → Keeps mid new → Keeps old new
kept_behind old text mid new is = kept_on old mid new (ap (take (length old)) is ∙ take_at old text (length old) refl)

pub on_err_always : {T E P : Type 0} (r : Result T E) → P → OnErr r P
on_err_always (Ok x) p = tt
on_err_always (Err e) p = p
