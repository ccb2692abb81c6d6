-- What holds where a result has a value.
use Rattle.std.specs.Prelude.{Result, Ok, Err, OnOk}

-- from two facts that hold there
pub on_ok_both : {T E P Q S : Type 0} (r : Result T E) → (P → Q → S) → OnOk r P → OnOk r Q → OnOk r S
on_ok_both (Ok x) f p q = f p q
on_ok_both (Err e) f p q = tt
