-- What leads to each place.
use Rattle.std.proofs.Common.{◌≡◌, ◌∙◌, sym, ap, subst, ℕ, zero, suc, List, ◌++◌, ◌∷◌, [], ◌-◌, ◌≤◌, ◌<◌, append-nil, arith, refl, length, min, Option, Some, None, inl, inr}
use Rattle.std.proofs.lemmas.Bool.Decides.{nat_tests}
use Rattle.or_sched.specs.declared.recording.Mark.{Mark}
use Rattle.or_sched.specs.declared.places.Limits.{Limits}
use Rattle.or_sched.specs.declared.places.Block.{Block}
use Rattle.or_sched.specs.declared.places.Place.{Place}
use Rattle.or_sched.specs.declared.places.Place.TheVariants.{Line, Word, Done}
use Rattle.or_sched.specs.Runs.{lines_text}
use Rattle.or_sched.specs.RunRests.{AtLine, AtEnd}
use Rattle.or_sched.proofs.RunPlaces.{AtRun}
use Rattle.or_sched.specs.Blocks.{Item, mark_line}
use Rattle.or_sched.specs.BlockRests.{Later, items, later_items, Behind, behind_of}
use Rattle.or_sched.specs.Places.{Decoded, Marked, Onward, AreLimits, Leads}
use Rattle.or_sched.proofs.Steps.{opened, letter_back}

-- behind a block that lacks turns, or behind which no mark comes, stands nothing
pub nothing_behind : (limits : Limits) (behind : Option ℕ) (left : ℕ) (text : List ℕ) (later : Later) → 0 < left
    → Behind limits behind left text later → (text ≡ []) × (later ≡ [])
nothing_behind limits None left text later some b = b
nothing_behind limits (Some total) zero text later some b = absurd (omega arith)
nothing_behind limits (Some total) (suc left) text later some b = b

pub is_nothing_behind : (limits : Limits) (behind : Option ℕ) (left : ℕ) → 0 < left → Behind limits behind left [] []
is_nothing_behind limits None left some = (refl, refl)
is_nothing_behind limits (Some total) zero some = absurd (omega arith)
is_nothing_behind limits (Some total) (suc left) some = (refl, refl)

pub behind_whole : (limits : Limits) (total : ℕ) → limits.block ≤ total → behind_of limits total ≡ Some (total - limits.block)
behind_whole limits total whole = grind (arith, nat_tests)

pub behind_part : (limits : Limits) (total : ℕ) → total < limits.block → behind_of limits total ≡ None
behind_part limits total part = grind (arith, nat_tests)

-- the same of the block behind a mark
pub nothing_onward : (limits : Limits) (total : ℕ) (text : List ℕ) (later : Later) → AreLimits limits
    → Behind limits (behind_of limits total) (min total limits.block) text later → (text ≡ []) × (later ≡ [])
nothing_onward limits zero text later are b =
    let none : behind_of limits 0 ≡ None = behind_part limits 0 (omega (arith, are.block)) in
    subst (λ o. Behind limits o (min 0 limits.block) text later) none b
nothing_onward limits (suc total) text later are b =
    nothing_behind limits (behind_of limits (suc total)) (min (suc total) limits.block) text later (omega (arith, are.block)) b

pub is_nothing_onward : (limits : Limits) (total : ℕ) → AreLimits limits → Behind limits (behind_of limits total) (min total limits.block) [] []
is_nothing_onward limits zero are =
    let none : behind_of limits 0 ≡ None = behind_part limits 0 (omega (arith, are.block)) in
    subst (λ o. Behind limits o (min 0 limits.block) [] []) (sym none) (refl, refl)
is_nothing_onward limits (suc total) are =
    is_nothing_behind limits (behind_of limits (suc total)) (min (suc total) limits.block) (omega (arith, are.block))

-- a mark behind a whole block
pub record MarkComes (limits : Limits) (total : ℕ) (text : List ℕ) (decoded : List Item) : Type 0 where
  pub mark : Mark
  pub more : List ℕ
  pub line : text ≡ mark_line mark ++ more
  pub marked : Marked limits total decoded mark more

pub mark_comes : (limits : Limits) (total : ℕ) (text : List ℕ) (later : Later) → AreLimits limits
    → Behind limits (Some total) 0 text later → MarkComes limits total text (later_items later)
mark_comes limits total text [] are b = absurd b
mark_comes limits total text ((mark, []) ∷ later) are b = record {
  mark = mark;
  more = [];
  line = b.0 ∙ sym (append-nil (mark_line mark));
  marked = record { all = []; later = []; parts = ap (λ k. inr mark ∷ later_items k) b.3; writes = b.1; console = b.2; onward = inl (refl, is_nothing_onward limits total are) };
}
mark_comes limits total text ((mark, run ∷ others) ∷ later) are b = record {
  mark = mark;
  more = lines_text 16 (run ∷ others) ++ b.0;
  line = b.1;
  marked = record {
    all = run ∷ others;
    later = later;
    parts = refl;
    writes = b.2;
    console = b.3;
    onward = inr (opened (Behind limits (behind_of limits total)) limits.cores limits.cores 15 (min total limits.block)
        (lines_text 16 (run ∷ others) ++ b.0) b.0 run others later refl b.4 b.5);
  };
}

pub record ComesBack (limits : Limits) (total : ℕ) (text : List ℕ) (decoded : List Item) : Type 0 where
  pub later : Later
  pub parts : decoded ≡ later_items later
  pub behind : Behind limits (Some total) 0 text later

block_back : (limits : Limits) (total : ℕ) (text more : List ℕ) (decoded : List Item) (mark : Mark) (all : List (ℕ × ℕ)) (later : Later)
    → 0 < length all → decoded ≡ inr mark ∷ items all later → text ≡ mark_line mark ++ more → mark.writes ≤ limits.turns - total → mark.console ≤ limits.turns - total
    → AtRun (Behind limits (behind_of limits total)) limits.cores limits.cores 16 (min total limits.block) more all later → ComesBack limits total text decoded
block_back limits total text more decoded mark [] later some parts line writes console at = absurd (omega arith)
block_back limits total text more decoded mark (run ∷ others) later some parts line writes console at = record {
  later = (mark, run ∷ others) ∷ later;
  parts = parts;
  behind = (at.after, line ∙ ap (λ t. mark_line mark ++ t) at.text, writes, console, at.follow, at.behind);
}

pub mark_back : (limits : Limits) (total : ℕ) (text more : List ℕ) (decoded : List Item) (mark : Mark) (all : List (ℕ × ℕ)) (later : Later) → AreLimits limits
    → decoded ≡ inr mark ∷ items all later → text ≡ mark_line mark ++ more → mark.writes ≤ limits.turns - total → mark.console ≤ limits.turns - total
    → Onward limits total more all later → ComesBack limits total text decoded
mark_back limits total text more decoded mark all later are parts line writes console (inl e) =
    let none : (more ≡ []) × (later ≡ []) = nothing_onward limits total more later are e.1 in
    record {
      later = (mark, []) ∷ [];
      parts = parts ∙ ap (λ k. inr mark ∷ items k later) e.0 ∙ ap (λ k. inr mark ∷ items [] k) none.1;
      behind = (line ∙ ap (λ t. mark_line mark ++ t) none.0 ∙ append-nil (mark_line mark), writes, console, refl);
    }
mark_back limits total text more decoded mark all later are parts line writes console (inr r) =
    block_back limits total text more decoded mark all later (omega (arith, ap length r.run.parts)) parts line writes console
    (letter_back (Behind limits (behind_of limits total)) limits.cores limits.cores 15 (min total limits.block) more all later r)

-- a mark's line comes behind a whole block
pub end_word : (limits : Limits) (total left : ℕ) → AreLimits limits → left ≡ 0
    → Leads limits (Word 0 total) (λ rest all later. AtEnd (Behind limits (Some total)) left rest all later)
end_word limits total (suc left) are none = absurd (omega arith)
end_word limits total zero are none = record {
  there = λ rest all later e.
      let comes : MarkComes limits total rest (later_items later) = mark_comes limits total rest later are e.1 in
      (comes.mark, comes.more, comes.line, subst (λ k. Marked limits total (items k later) comes.mark comes.more) (sym e.0) comes.marked);
  back = λ rest decoded r.
      let comes : ComesBack limits total rest decoded =
      mark_back limits total rest r.1 decoded r.0 r.3.all r.3.later are r.3.parts r.2 r.3.writes r.3.console r.3.onward in
      record { all = []; later = comes.later; parts = comes.parts; holds = (refl, comes.behind) };
}

-- nothing comes
pub end_done : (limits : Limits) (behind : Option ℕ) (left : ℕ)
    → ((text : List ℕ) (later : Later) → Behind limits behind left text later → (text ≡ []) × (later ≡ [])) → Behind limits behind left [] []
    → Leads limits Done (λ rest all later. AtEnd (Behind limits behind) left rest all later)
end_done limits behind left only is = record {
  there = λ rest all later e.
      let none : (rest ≡ []) × (later ≡ []) = only rest later e.1 in
      (none.0, ap (λ k. items k later) e.0 ∙ ap (λ k. items [] k) none.1);
  back = λ rest decoded r. record { all = []; later = []; parts = r.1; holds = (refl, subst (λ t. Behind limits behind left t []) (sym r.0) is) };
}

pub end_none : (limits : Limits) (left : ℕ) → Leads limits Done (λ rest all later. AtEnd (Behind limits None) left rest all later)
end_none limits left = end_done limits None left (λ text later b. b) (refl, refl)

pub end_part : (limits : Limits) (behind : Option ℕ) (left : ℕ) → 0 < left → Leads limits Done (λ rest all later. AtEnd (Behind limits behind) left rest all later)
end_part limits behind left some = end_done limits behind left (λ text later b. nothing_behind limits behind left text later some b) (is_nothing_behind limits behind left some)

-- a full line behind which no turn is left
pub line_end : (limits : Limits) (core : ℕ) (behind : Option ℕ) (left : ℕ) (place : Place) → left ≡ 0
    → Leads limits place (λ rest all later. AtEnd (Behind limits behind) left rest all later)
    → Leads limits place (λ rest all later. AtLine (Behind limits behind) limits.cores core left rest all later)
line_end limits core behind left place none leads = record {
  there = λ rest all later e. leads.there rest all later (only rest all later e);
  back = λ rest decoded r.
      let t : Decoded decoded (λ all later. AtEnd (Behind limits behind) left rest all later) = leads.back rest decoded r in
      record { all = t.all; later = t.later; parts = t.parts; holds = inl t.holds };
}
  where
    only : (rest : List ℕ) (all : List (ℕ × ℕ)) (later : Later) → AtLine (Behind limits behind) limits.cores core left rest all later → AtEnd (Behind limits behind) left rest all later
    only rest all later (inl e) = e
    only rest all later (inr r) = absurd (omega (arith, r.run.some, r.run.fits))

pub line_stays : (limits : Limits) (core : ℕ) (block : Block)
    → Leads limits (Line core block) (λ rest all later. AtLine (Behind limits block.behind) limits.cores core block.left rest all later)
line_stays limits core block = record {
  there = λ rest all later e. record { all = all; later = later; parts = refl; holds = e };
  back = λ rest decoded r. r;
}

pub onward_line : (limits : Limits) (total : ℕ) (block : Block) → block.behind ≡ behind_of limits total → block.left ≡ min total limits.block
    → Leads limits (Line limits.cores block) (λ rest all later. Onward limits total rest all later)
onward_line limits total block behind left = record {
  there = λ rest all later e. record {
    all = all;
    later = later;
    parts = refl;
    holds = subst (λ o. AtLine (Behind limits o) limits.cores limits.cores block.left rest all later) (sym behind)
        (subst (λ k. AtLine (Behind limits (behind_of limits total)) limits.cores limits.cores k rest all later) (sym left) e);
  };
  back = λ rest decoded r. record {
    all = r.all;
    later = r.later;
    parts = r.parts;
    holds = subst (λ o. AtLine (Behind limits o) limits.cores limits.cores (min total limits.block) rest r.all r.later) behind
        (subst (λ k. AtLine (Behind limits block.behind) limits.cores limits.cores k rest r.all r.later) left r.holds);
  };
}

pub onward_whole : (limits : Limits) (total : ℕ) → limits.block ≤ total
    → Leads limits (Line limits.cores (record { left = limits.block; behind = Some (total - limits.block) })) (λ rest all later. Onward limits total rest all later)
onward_whole limits total whole = onward_line limits total (record { left = limits.block; behind = Some (total - limits.block) }) (sym (behind_whole limits total whole)) (omega arith)

pub onward_part : (limits : Limits) (total : ℕ) → total < limits.block
    → Leads limits (Line limits.cores (record { left = total; behind = None })) (λ rest all later. Onward limits total rest all later)
onward_part limits total part = onward_line limits total (record { left = total; behind = None }) (sym (behind_part limits total part)) (omega arith)

pub onward_done : (limits : Limits) (total : ℕ) → AreLimits limits → total ≡ 0 → Leads limits Done (λ rest all later. Onward limits total rest all later)
onward_done limits (suc total) are none = absurd (omega arith)
onward_done limits zero are none =
    line_end limits limits.cores (behind_of limits 0) (min 0 limits.block) Done (omega arith)
    (end_done limits (behind_of limits 0) (min 0 limits.block) (λ text later b. nothing_onward limits 0 text later are b) (is_nothing_onward limits 0 are))
