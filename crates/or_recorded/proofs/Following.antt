-- A schedule that is followed one turn further, with its traces.
use Rattle.std.proofs.Common.{◌≡◌, ◌∙◌, refl, sym, ap, subst, ℕ, List, [], ◌∷◌, ◌++◌, Option, Some, None}
use Rattle.or_model.specs.Turn.{Board, board_turned, and_then, replay}
use Rattle.or_prof.specs.Text.{Appends}
use Rattle.or_prof.specs.Profile.{Addition}
use Rattle.or_recorded.specs.Traces.{addition_of, where_made, traces}

pub then_some : (first : Option Board) (next : Board → Option Board) (last : Board) → and_then first next ≡ Some last → (middle : Board) × (first ≡ Some middle) × (next middle ≡ Some last)
then_some None next last is = absurd (let b : ⊥ = cc in b)
then_some (Some middle) next last is = (middle, refl, is)

-- the traces behind a turn that was made
pub traces_made : (board next : Board) (c : ℕ) (later : List ℕ) → board_turned board c ≡ Some next → traces board (c ∷ later) ≡ addition_of board c ∷ traces next later
traces_made board next c later is = ap (λ (o : Option Board). where_made o (λ middle. addition_of board c ∷ traces middle later)) is

-- the traces of one turn more
pub traces_longer : (start now next : Board) (turns : List ℕ) (c : ℕ) → replay start turns ≡ Some now → board_turned now c ≡ Some next
    → traces start (turns ++ c ∷ []) ≡ traces start turns ++ addition_of now c ∷ []
traces_longer start now next [] c reached turned =
    let e : start ≡ now = cc in
    subst (λ (b : Board). traces b (c ∷ []) ≡ addition_of now c ∷ []) (sym e) (traces_made now next c [] turned)
traces_longer start now next (t ∷ turns) c reached turned =
    let then = then_some (board_turned start t) (λ middle. replay middle turns) now reached in
    traces_made start then.0 t (turns ++ c ∷ []) then.1
    ∙ ap (λ (l : List Addition). addition_of start t ∷ l) (traces_longer then.0 now next turns c then.2 turned)
    ∙ ap (λ (l : List Addition). l ++ addition_of now c ∷ []) (sym (traces_made start then.0 t turns then.1))

-- a text that was appended to none
pub text_alone : (IsText : List ℕ → Type 0) (old new : List ℕ) → old ≡ [] → Appends IsText old new → IsText new
text_alone IsText old new empty appends = subst IsText (sym (appends.appended ∙ ap (λ (l : List ℕ). l ++ appends.text) empty)) appends.is_text
