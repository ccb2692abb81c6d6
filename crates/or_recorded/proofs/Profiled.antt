-- A schedule of which one turn more is counted.
use Rattle.std.proofs.Common.{◌≡◌, ◌∙◌, refl, sym, ap, subst, ℕ, ◌+◌, ◌<◌, Bool, List, [], ◌∷◌, ◌++◌, length, take, None, Result, Ok, Err, add-one, arith}
use Rattle.std.specs.Prelude.{slice_index, IfOk, OnOk}
use Rattle.std.proofs.Math.Seq.{take-suc}
use Rattle.std.proofs.lemmas.List.{take_all}
use Rattle.or_words.specs.declared.Config.{Config}
use Rattle.or_words.specs.Settings.{Fits}
use Rattle.or_model.specs.Core.{Core}
use Rattle.or_model.specs.Turn.{Board, board_turned, replay}
use Rattle.or_bus.specs.State.{BusState}
use Rattle.or_replay.specs.Board.{IsBoard, IsTurned}
use Rattle.or_replay.specs.declared.board.Refused.{Refused}
use Rattle.or_replay.specs.Start.{start}
use Rattle.or_replay.proofs.Replaying.{replay_one_more}
use Rattle.or_elf.specs.Symbols.{SymbolTable, symbols_of}
use Rattle.or_prof.specs.Profile.{Addition, Profiled, IsProfile}
use Rattle.or_prof.specs.Text.{IsProfText}
use Rattle.or_recorded.specs.declared.refused.OwnFault.{OwnFault}
use Rattle.or_recorded.specs.Command.{Run, start_of}
use Rattle.or_recorded.specs.Prof.{prof_fault, MakesProfile}
use Rattle.or_recorded.specs.Profiling.{IsLevel, IsCounted, SeesProfile, HasSymbols}
use Rattle.or_recorded.specs.Traces.{addition_of, traces}
use Rattle.or_recorded.proofs.Following.{traces_longer}
use Rattle.or_recorded.proofs.Levels.{level_at_start}
use Rattle.or_recorded.proofs.Raced.{made_next, start-length}

-- a watcher that has a profile
pub counted_of : (counted : Result Profiled OwnFault) (profile : Profiled) (start : Board) (turns : List ℕ) (n : ℕ) (cores : List Core) (bus : BusState)
    → counted ≡ Ok profile → SeesProfile counted start turns n cores bus → IsCounted start turns n profile cores bus
counted_of counted profile start turns n cores bus is seen =
    subst (λ (r : Result Profiled OwnFault). SeesProfile r start turns n cores bus) is seen

-- the turn at a place is made, and counted
pub counted_on : {T : Type 0} (done : T) (start : Board) (turns : List ℕ) (n : ℕ) (old new : Profiled) (cores new_cores : List Core) (bus new_bus : BusState)
    → n < length turns → IsCounted start turns n old cores bus
    → ((board : Board) → IsBoard cores bus board → IsTurned (board_turned board (slice_index turns n)) (Ok done) new_cores new_bus)
    → IsLevel new new_cores new_bus → length new.cores ≡ length old.cores
    → ((additions : List Addition) (now : Board) → IsBoard cores bus now → IsProfile old additions → IsProfile new (additions ++ addition_of now (slice_index turns n) ∷ []))
    → IsCounted start turns (n + 1) new new_cores new_bus
counted_on done start turns n old new cores new_cores bus new_bus inside is turned level many added =
    let c = slice_index turns n in
    let made = made_next (board_turned is.now c) done new_cores new_bus (turned is.now is.is) in
    let longer : take (n + 1) turns ≡ take n turns ++ c ∷ [] = ap (λ k. take k turns) (add-one n) ∙ take-suc turns n 0 inside in
    record {
      now = made.0;
      reached = ap (replay start) longer ∙ replay_one_more start is.now made.0 (take n turns) c is.reached made.1;
      is = made.2;
      level = level;
      many = many ∙ is.many;
      profile_is = subst (IsProfile new) (sym (ap (traces start) longer ∙ traces_longer start is.now made.0 (take n turns) c is.reached made.1))
          (added (traces start (take n turns)) is.now is.is is.profile_is);
    }

-- before the first turn
pub none_counted : (config : Config) (image input turns : List ℕ) (profile : Profiled) (cores : List Core) (bus : BusState) → Fits config
    → length profile.cores ≡ config.cores → IsProfile profile [] → IsBoard cores bus (start config image input)
    → IsCounted (start config image input) turns 0 profile cores bus
none_counted config image input turns profile cores bus fits many none is = record {
  now = start config image input;
  reached = refl;
  is = is;
  level = level_at_start config image input profile cores bus fits many none is;
  many = many ∙ sym (start-length config image input);
  profile_is = none;
}

-- a profile that is opened, or not
pub opened_sees : (config : Config) (image input turns : List ℕ) (counted : Result Profiled OwnFault) (cores : List Core) (bus : BusState) → Fits config
    → IfOk counted (λ profile. length profile.cores ≡ config.cores) → IfOk counted (λ profile. IsProfile profile []) → IsBoard cores bus (start config image input)
    → SeesProfile counted (start config image input) turns 0 cores bus
opened_sees config image input turns (Ok profile) cores bus fits many none is = none_counted config image input turns profile cores bus fits many none is
opened_sees config image input turns (Err own) cores bus fits many none is = tt

-- the text that is written behind the last turn
pub profile_made : (hot : Bool) (run : Run) (counted : Result Profiled OwnFault) (profile : Profiled) (cores : List Core) (bus : BusState) (report console : List ℕ) → counted ≡ Ok profile
    → SeesProfile counted (start_of run) run.turns (length run.turns) cores bus → HasSymbols hot counted run.files.image
    → ((additions : List Addition) → IsProfile profile additions → IsProfText profile.hot (length profile.cores) profile.symbols additions console)
    → (prof_fault run ≡ None) × MakesProfile hot run report console
profile_made hot run counted profile cores bus report console is seen kept text =
    let counts = counted_of counted profile (start_of run) run.turns (length run.turns) cores bus is seen in
    let has : HasSymbols hot (Ok profile) run.files.image = subst (λ (r : Result Profiled OwnFault). HasSymbols hot r run.files.image) is kept in
    let whole : take (length run.turns) run.turns ≡ run.turns = take_all (length run.turns) run.turns (omega arith) in
    let all = traces (start_of run) run.turns in
    let made = text all (subst (λ (t : List ℕ). IsProfile profile (traces (start_of run) t)) whole counts.profile_is) in
    let many : length profile.cores ≡ run.head.config.cores = counts.many ∙ start-length run.head.config run.files.image run.files.input in (
      has.0,
      subst (λ (h : Bool). IsProfText h run.head.config.cores (symbols_of run.files.image) all console) has.2
          (subst (λ (s : SymbolTable). IsProfText profile.hot run.head.config.cores s all console) has.1 (subst (λ (n : ℕ). IsProfText profile.hot n profile.symbols all console) many made)),
    )
