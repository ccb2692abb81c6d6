-- `of` makes a value of no bytes, whose ghost field is what the slice shows.
use Rattle.atomic_table.proofs.Names.{◌≡◌, [], ◌∷◌, refl, Val, SProp, emp, ‵, raw, ◌⊛◌, ◌$◌, ◌∵◌, !, qed, by, keep, split, fjoin, use0, no_more, and_then, returns, enter, alloc_all, pass_all, free_all, look_at, get, sets, agg, tables, RattleType, owns, types_at, nothing, alive, Stays, stay_dropped, Goes-dropped, walk_of, fact, fact_i, named, plain, yes, vstruct, vcons, vnil, ent, sem, Logic, Ura, makes_shadow}
use Rattle.atomic_table.proofs.Walks.{proved, leaves}
use denote.Builtin.{u8, SliceRefOf}
use denote.Slice.{shr_slice_vals, shr_slice_Tells}
use denote.Struct.Struct.{Struct}
use denote.Struct.Owning.{shape}
use Rattle.or_ghost_bytes.specs.contracts.GhostBytes as shown
use Rattle.or_ghost_bytes.specs.contracts.GhostBytes.of.{ended, clauses}
use Rattle.or_ghost_bytes.specs.contracts.GhostBytes.of.Key.{name as #self}
use Rattle.or_ghost_bytes.proofs.GhostBytes.of.Statement.{statement}
use Rattle.or_ghost_bytes.proofs.GhostBytes.of.Code as code

abbrev token_val : Val
token_val = vstruct (vcons (vstruct vnil) vnil)

abbrev Token : RattleType
Token = Struct (shape shown.the_type)

token_made : {M : Type 1} {𝓤 : Ura M} (𝓛 : Logic 𝓤) → ent 𝓤 (emp 𝓤) (sem 𝓛 (Token.own_val (tt, tt) (token_val ∷ [])))
token_made 𝓛 = makes_shadow 𝓛 (Token.own_val (tt, tt) (token_val ∷ [])) (λ vss. (tt, ((λ uss. (tt, tt)), tt))) ((vstruct vnil ∷ [], tt), (refl, ((tt, (refl, tt)), tt)))

pub of_spec : {M : Type 1} → statement M
of_spec 𝓤 𝓛 𝓜 𝓡 wired =
    let H = 𝓛.H in let 𝓣 = tables 𝓤 H 𝓜 𝓡 𝓡.env in let c = clauses 𝓛 𝓜.mem 𝓡.returns in let fn = code.function in
    let hs : Stays ended.signature.params ended.kept = (stay_dropped (SliceRefOf (0 ∷ []) tt (plain (λ _. u8)) (λ _. tt)) yes, tt) in
    proved 𝓛 ended hs c 𝓜 𝓡 (Goes-dropped 𝓛 1 (SliceRefOf (0 ∷ []) tt (plain (λ _. u8)) (λ _. tt)) yes (λ κs x f. refl), tt) #self fn (code.unfolded 𝓤 H 𝓜 𝓡 wired)
    (λ κs. (shr_slice_vals, tt)) (λ κs. (shr_slice_Tells (named 0) κs.0 u8, tt)) (λ κs qs bounds a gh are.
    let r : shown.the_row.Denot = record { marker = record {}; bytes = a.0.now } in let count = are.0.0.1.0 in
    let Told : Type 0 = r.bytes ≡ a.0.now in let y : (walk_of 𝓛 ended hs c).Ghost = ((κs, qs, bounds, a, (shr_slice_vals a.0, tt)), gh) in let Post : Val → SProp 𝓤 = (walk_of 𝓛 ended hs c).post y in
    qed 𝓛 ((raw (alive 𝓛 ended.signature κs qs) ⊛ ‵ (owns (types_at ended.signature.params κs) a y.0.4)) ∷ raw ((c κs a).requires gh) ∷ []) ∵
    split ! $ keep ! (0 ∷ []) $ nothing ! $ use0 𝓛 (‵ (Token.own_val (tt, tt) (token_val ∷ []))) (token_made 𝓛) $ fjoin ! $
    enter ! 𝓣.C 𝓣.Λ fn _ Post $ alloc_all ! (λ l. pass_all ! refl ((tt, (tt, (record { fits = count }, tt))), tt) $
    sets ! (agg ! (no_more !)) refl (tt, tt) $ sets ! (agg ! (and_then ! (get ! refl) (no_more !))) refl (tt, (tt, tt)) $
    use0 𝓛 (raw (fact 𝓤 Told)) (fact_i 𝓤 Told (emp 𝓤) refl) $ nothing ! $ nothing ! $ fjoin ! $
    returns ! (look_at ! 0 refl) $ free_all ! refl $ keep ! (3 ∷ 0 ∷ 2 ∷ 1 ∷ []) $ by ! (leaves 𝓛 ended hs c y token_val r (tt, tt) (tt, tt))))
