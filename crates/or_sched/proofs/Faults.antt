-- Laws of faults.
use Rattle.std.proofs.Common.{◌≡◌, ◌∙◌, sym, ap, subst, ℕ, List, ◌++◌, ◌+◌, ◌≤◌, ◌<◌, append_assoc, arith, refl, length, length-take, take, drop, inl, inr, ◌⊎◌}
use Rattle.std.proofs.lemmas.Bool.{cases_lt}
use Rattle.std.proofs.lemmas.Bool.Decides.{nat_tests}
use Rattle.std.proofs.lemmas.List.{take-take, take-append-drop, take-append-le, take_at}
use Rattle.or_sched.specs.declared.recording.RecFault.TheVariants.{BadHead, BadRun}
use Rattle.or_sched.specs.Recording.{IsRecording, Begins, FaultAt, line_feeds, fault_name}

pub begins_front : (n : ℕ) (bytes : List ℕ) → Begins bytes → Begins (take n bytes)
begins_front n bytes b = record {
  rest = drop n bytes ++ b.rest;
  head = b.head;
  turns = b.turns;
  marks = b.marks;
  is = subst (λ t. IsRecording t b.head b.turns b.marks) (ap (λ t. t ++ b.rest) (sym (take-append-drop n bytes)) ∙ append_assoc (take n bytes) (drop n bytes) b.rest) b.is;
}

pub begins_before : (front rest : List ℕ) → Begins (front ++ rest) → Begins front
begins_before front rest b = subst Begins (take_at front rest (length front) refl) (begins_front (length front) (front ++ rest) b)

not_later : (bytes : List ℕ) (p q : ℕ) → FaultAt bytes p → FaultAt bytes q → p < q → ⊥
not_later bytes p q one two lt =
    one.here (subst Begins (take-take (p + 1) q bytes (omega arith)) (begins_front (p + 1) (take q bytes) two.before))

-- a text has one fault at most
pub one_fault : (bytes : List ℕ) (p q : ℕ) → FaultAt bytes p → FaultAt bytes q → p ≡ q
one_fault bytes p q one two = go (cases_lt p q) (cases_lt q p)
  where
    go : (p < q) ⊎ (q ≤ p) → (q < p) ⊎ (p ≤ q) → p ≡ q
    go (inl lt) other = absurd (not_later bytes p q one two lt)
    go (inr le) (inl lt) = absurd (not_later bytes q p two one lt)
    go (inr le) (inr ge) = omega arith

-- and a beginning of a recording has none
pub no_fault : (bytes : List ℕ) (p : ℕ) → Begins bytes → FaultAt bytes p → ⊥
no_fault bytes p begins fault = fault.here (begins_front (p + 1) bytes begins)

-- texts that agree up to and including the place have the same fault
pub same_fault : (bytes others : List ℕ) (p : ℕ) → FaultAt bytes p → take (p + 1) others ≡ take (p + 1) bytes → FaultAt others p
same_fault bytes others p fault same = record {
  within = omega (arith, ap length same, length-take (p + 1) others, length-take (p + 1) bytes, fault.within);
  before = subst Begins (sym (take-take p (p + 1) bytes (omega arith)) ∙ ap (take p) (sym same) ∙ take-take p (p + 1) others (omega arith)) fault.before;
  here = subst (λ t. Begins t → ⊥) (sym same) fault.here;
}

-- a fault stays where it is, whatever follows
pub fault_more : (bytes more : List ℕ) (p : ℕ) → FaultAt bytes p → FaultAt (bytes ++ more) p
fault_more bytes more p fault = same_fault bytes (bytes ++ more) p fault (take-append-le (p + 1) bytes more (omega (arith, fault.within)))

-- and, before it, is that of a beginning
pub fault_less : (bytes more : List ℕ) (p : ℕ) → FaultAt (bytes ++ more) p → p < length bytes → FaultAt bytes p
fault_less bytes more p fault lt = record {
  within = lt;
  before = subst Begins (take-append-le p bytes more (omega arith)) fault.before;
  here = subst (λ t. Begins t → ⊥) (take-append-le (p + 1) bytes more (omega arith)) fault.here;
}

pub name_head : (front : List ℕ) → line_feeds front < 4 → fault_name front ≡ BadHead (line_feeds front + 1)
name_head front few = grind (arith, nat_tests)

pub name_run : (front : List ℕ) → 4 ≤ line_feeds front → fault_name front ≡ BadRun (length front)
name_run front many = grind (arith, nat_tests)
