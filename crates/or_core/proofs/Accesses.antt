-- What the bus's answers say of an access to RAM; misplaced instructions and instruction lines have no part in one.
use Rattle.std.proofs.Common.{◌≡◌, ℕ, Bool, true, false, cond, refl, ap, sym, subst, ◌∙◌, rules}
use Rattle.std.specs.Prelude.{List, Option, Some, None, Ok, Err, ◌&&◌, option_map}
use Rattle.or_words.specs.declared.Width.TheVariants.{Word}
use Rattle.or_isa.specs.declared.Insn.{Insn}
use Rattle.or_isa.specs.declared.Insn.TheVariants.{Load, LoadLinked, Store, StoreConditional}
use Rattle.or_model.specs.Core.{Core}
use Rattle.or_parts.specs.Memory.{value_at}
use Rattle.or_parts.specs.Lines.{line_bytes}
use Rattle.or_model.specs.declared.Fetched.{Fetched}
use Rattle.or_model.specs.World.{World, after_load, marked, stands}
use Rattle.or_model.specs.Bus.{Answer, in_ram, fetch, load_linked, store_conditional, after_conditional}
use Rattle.or_model.specs.Routes.{data_route}
use Rattle.or_model.specs.Step.{is_misplaced, with_line}
use Rattle.or_bus.specs.declared.BusError.{BusError}
use Rattle.or_bus.specs.State.{BusState}
use Rattle.or_bus.specs.Represents.{Represents}
use Rattle.or_bus.specs.Answers.{IsAnswer}
use Rattle.or_core.specs.Access.{memory_operand, access_of_word, word_fetched}

-- an instruction that may not stand where it does, or not in its mode, goes nowhere in memory
pub misplaced_none : (core : Core) (insn : Insn) → is_misplaced core insn ≡ true → memory_operand insn ≡ None
unfolding is_misplaced
misplaced_none core (Load width extended d a i) bad = absurd (search rules)
misplaced_none core (LoadLinked d a i) bad = absurd (search rules)
misplaced_none core (Store width a b i) bad = absurd (search rules)
misplaced_none core (StoreConditional a b i) bad = absurd (search rules)
misplaced_none core _ bad = refl

-- a line that is kept changes no access
pub access_of_word-line : (core : Core) (world : World) (pa : ℕ) (line : Option (List ℕ)) (word : ℕ) → access_of_word (with_line core pa line) world word ≡ access_of_word core world word
unfolding access_of_word data_route
access_of_word-line core world pa None word = refl
access_of_word-line core world pa (Some line) word = refl

-- the bus loads a linked word exactly where RAM answers
pub linked-in_ram : (world : World) (c pa : ℕ) (cached : Bool) (value : ℕ) (bus : BusState) → IsAnswer (load_linked world c pa cached) (Ok value) bus → in_ram world pa ≡ true
unfolding load_linked
linked-in_ram world c pa cached value bus =
    elim (in_ram world pa) as (λ b. IsAnswer (cond b (Some (record { value = value_at world.ram pa Word; after = marked (after_load world c pa cached) c pa })) None) (Ok value) bus → b ≡ true)
    [ true ↦ λ told. refl | false ↦ λ told. absurd told ]

pub linked-outside : (world : World) (c pa : ℕ) (cached : Bool) (error : BusError) (bus : BusState) → IsAnswer (load_linked world c pa cached) (Err error) bus → in_ram world pa ≡ false
unfolding load_linked
linked-outside world c pa cached error bus =
    elim (in_ram world pa) as (λ b. IsAnswer (cond b (Some (record { value = value_at world.ram pa Word; after = marked (after_load world c pa cached) c pa })) None) (Err error) bus → b ≡ false)
    [ true ↦ λ told. absurd told | false ↦ λ told. refl ]

-- so with a conditional store, which it makes exactly where the core is linked and its reservation stands
pub conditional-in_ram : (world : World) (c pa v : ℕ) (cached linked : Bool) (made : Bool) (bus : BusState) → IsAnswer (store_conditional world c pa v cached linked) (Ok made) bus
    → (in_ram world pa ≡ true) × (made ≡ (linked && stands world c pa))
unfolding store_conditional
conditional-in_ram world c pa v cached linked made bus =
    elim (in_ram world pa) as (λ b. IsAnswer (cond b (Some (record { value = linked && stands world c pa; after = after_conditional world c pa v cached (linked && stands world c pa) })) None) (Ok made) bus → (b ≡ true) × (made ≡ (linked && stands world c pa)))
    [ true ↦ λ told. (refl, told.0) | false ↦ λ told. absurd told ]

pub conditional-outside : (world : World) (c pa v : ℕ) (cached linked : Bool) (error : BusError) (bus : BusState) → IsAnswer (store_conditional world c pa v cached linked) (Err error) bus → in_ram world pa ≡ false
unfolding store_conditional
conditional-outside world c pa v cached linked error bus =
    elim (in_ram world pa) as (λ b. IsAnswer (cond b (Some (record { value = linked && stands world c pa; after = after_conditional world c pa v cached (linked && stands world c pa) })) None) (Err error) bus → b ≡ false)
    [ true ↦ λ told. absurd told | false ↦ λ told. refl ]

-- a fetch that is answered brings its word, and leaves the world as it is
pub record IsFetched (world : World) (pa : ℕ) (cached : Bool) (value : Fetched) (bus : BusState) : Type 0 where
  pub word : word_fetched world pa cached ≡ Some value.word
  pub represents : Represents bus world

-- what a fetch from RAM answers
abbrev ram_answer : World → ℕ → Bool → Option (Answer Fetched)
ram_answer world pa cached = Some (record { value = record { word = value_at world.ram pa Word; line = cond cached (Some (line_bytes world.ram pa)) None }; after = world })

pub fetched : (world : World) (pa : ℕ) (cached : Bool) (value : Fetched) (bus : BusState) → IsAnswer (fetch world pa cached) (Ok value) bus → IsFetched world pa cached value bus
unfolding fetch
fetched world pa cached value bus told = by_place (in_ram world pa) refl
  where
    by_place : (inside : Bool) → in_ram world pa ≡ inside → IsFetched world pa cached value bus
    by_place true is =
        let found : fetch world pa cached ≡ ram_answer world pa cached = rw is in
        let answered : IsAnswer (ram_answer world pa cached) (Ok value) bus = subst (λ o. IsAnswer o (Ok value) bus) found told in
        record { word = ap (option_map (λ a. a.value.word)) found ∙ ap (λ f. Some f.word) (sym answered.0); represents = answered.1 }
    by_place false is =
        let found : fetch world pa cached ≡ None = rw is in
        absurd (subst (λ o. IsAnswer o (Ok value) bus) found told)
