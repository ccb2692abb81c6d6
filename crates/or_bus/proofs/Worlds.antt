-- How each change of a bus follows the change of the world, and why a bus stays sound.
use Rattle.std.proofs.Common.{◌≡◌, ℕ, ◌+◌, ◌%◌, ◌<◌, ◌≤◌, Bool, true, false, eqb, List, [], ◌∷◌, map, Some, None, length, ◌≢◌, subst, refl, ap, sym, ◌∙◌, arith, length-append}
use Rattle.std.specs.Prelude.{Option, is_some, slice_index_or, slice_set, slice_range, replicate, zero, suc}
use Rattle.std.proofs.lemmas.Bool.Decides.{nat_tests}
use Rattle.std.proofs.lemmas.Bool.{eqb-true, eqb-false, true≢false}
use Rattle.std.proofs.lemmas.List.{get_or-set_other, get_or-set_same, get_or-replicate, length-replicate}
use Rattle.std.proofs.Math.ListN.{get_or-map, length-set, length-map}
use Rattle.or_words.specs.declared.Width.{Width}
use Rattle.or_parts.specs.declared.Line.{Line}
use Rattle.or_parts.specs.Memory.{stored, bytes_of, word_address}
use Rattle.or_parts.specs.Lines.{index_of, line_of, line_at_index, line_bytes, no_lines, held_word, line_filled, line_dropped}
use Rattle.or_parts.specs.Reservation.{ReservationMark, stands_by}
use Rattle.or_parts.specs.Devices.{Devices, reset_devices, served_cores}
use Rattle.or_model.specs.declared.Counts.{Counts}
use Rattle.or_model.specs.World.{World, Access, after_load, after_store, after_drop, marked, unmarked, new_world, stands}
use Rattle.or_model.specs.World.Kind.{Loads}
use Rattle.or_model.specs.Caches.{held}
use Rattle.or_mem.specs.Caches.{cache_of, address_and_bytes}
use Rattle.or_reservations.specs.Slots.{is_for, after_write}
use Rattle.or_bus.specs.State.{BusState, counted_up, counts_of, no_counts, with_read, with_hit, with_miss}
use Rattle.or_bus.specs.Lines.{is_line, holds, IsLineTold}
use Rattle.or_bus.specs.Coherence.{IsLineOf, IsCoherent, IsSound, AreSound}
use Rattle.or_bus.specs.Writing.{own_lines_after, AreWritten, IsWritten}
use Rattle.or_bus.specs.Represents.{Represents}
use Rattle.or_bus.proofs.Caches.{coherent-filled, coherent-dropped, coherent-dropped_stored, coherent-updated, length-filled, length-dropped, length-updated}
use Rattle.or_bus.proofs.Tracks.{holds-held_word, load_of, store_of, drop_of, IsAsTold, IsCount, told-hit, told-miss, told-other_load, told-own_store, told-other_store, told-own_drop, told-other_drop, count-hit, count-miss, count-other, count-same}
use Rattle.or_reservations.proofs.Histories.{IsSlotOf, slot-marked, slot-wrote}

none_is_some : {X : Type 0} {x : X} → ◌≡◌ {A = Option X} None (Some x) → ⊥
none_is_some e = cc

each_by : (P : ℕ → Type 0) (c d : ℕ) (same : Bool) → eqb c d ≡ same → P d → (c ≢ d → P c) → P c
each_by P c d true test here there = subst P (sym (eqb-true c d test)) here
each_by P c d false test here there = there (eqb-false c d test)

-- a fact for each core: it holds of core d, and of the others
each_core : (P : ℕ → Type 0) (d : ℕ) → P d → ((c : ℕ) → c ≢ d → P c) → (c : ℕ) → P c
each_core P d here there c = each_by P c d (eqb c d) refl here (there c)

-- a fact for each core, of a list in which what stands for core d is new
each_set : {X : Type 0} (P : ℕ → X → Type 0) (xs : List X) (d : ℕ) (x e : X) → d < length xs → P d x → ((c : ℕ) → c ≢ d → P c (slice_index_or xs c e)) → (c : ℕ) → P c (slice_index_or (slice_set xs d x) c e)
each_set P xs d x e inside here there = each_core (λ c. P c (slice_index_or (slice_set xs d x) c e)) d
    (subst (P d) (sym (get_or-set_same xs d x e inside)) here)
    (λ c ne. subst (P c) (sym (get_or-set_other xs d c x e ne)) (there c ne))

line_of_base : (pa : ℕ) → line_of pa % 32 ≡ 0
line_of_base pa = omega arith

-- A BUS STAYS SOUND

sound-filled : (cores : ℕ) (ram : List ℕ) (caches : List (List (Option Line))) (slots : List (Option ℕ)) (counts : List Counts) (devices : Devices) (d pa : ℕ) → AreSound cores ram caches slots counts devices → d < cores → line_of pa + 32 ≤ length ram
    → AreSound cores ram (slice_set caches d (line_filled (cache_of caches d) pa (line_bytes ram pa))) slots counts devices
sound-filled cores ram caches slots counts devices d pa sound known inside = record {
  few = sound.few;
  all_caches = length-set caches d _ ∙ sound.all_caches;
  all_slots = sound.all_slots;
  all_counts = sound.all_counts;
  all_served = sound.all_served;
  all_lines = each_set (λ c lines. c < cores → length lines ≡ 128) caches d _ [] (omega (arith, sound.all_caches))
      (λ k. length-filled (cache_of caches d) pa (line_bytes ram pa) ∙ sound.all_lines d k)
      (λ c ne k. sound.all_lines c k);
  coherent = each_set (λ c lines. c < cores → IsCoherent ram lines) caches d _ [] (omega (arith, sound.all_caches))
      (λ k. coherent-filled ram (cache_of caches d) pa (sound.all_lines d k) (sound.coherent d k) inside)
      (λ c ne k. sound.coherent c k);
}

pub sound-kept : (cores : ℕ) (ram : List ℕ) (caches new : List (List (Option Line))) (slots : List (Option ℕ)) (counts : List Counts) (devices : Devices) (d pa : ℕ) → AreSound cores ram caches slots counts devices → d < cores → line_of pa + 32 ≤ length ram
    → new ≡ slice_set caches d (line_filled (cache_of caches d) pa (line_bytes ram pa)) → AreSound cores ram new slots counts devices
sound-kept cores ram caches new slots counts devices d pa sound known inside is =
    subst (λ caches. AreSound cores ram caches slots counts devices) (sym is) (sound-filled cores ram caches slots counts devices d pa sound known inside)

sound-drop : (cores : ℕ) (ram : List ℕ) (caches : List (List (Option Line))) (slots : List (Option ℕ)) (counts : List Counts) (devices : Devices) (d pa : ℕ) → d < cores → AreSound cores ram caches slots counts devices → AreSound cores ram (slice_set caches d (line_dropped (cache_of caches d) pa)) slots counts devices
sound-drop cores ram caches slots counts devices d pa known sound = record {
  few = sound.few;
  all_caches = length-set caches d _ ∙ sound.all_caches;
  all_slots = sound.all_slots;
  all_counts = sound.all_counts;
  all_served = sound.all_served;
  all_lines = each_set (λ c lines. c < cores → length lines ≡ 128) caches d _ [] (omega (arith, sound.all_caches)) (λ k. length-dropped (cache_of caches d) pa ∙ sound.all_lines d k) (λ c ne k. sound.all_lines c k);
  coherent = each_set (λ c lines. c < cores → IsCoherent ram lines) caches d _ [] (omega (arith, sound.all_caches)) (λ k. coherent-dropped ram (cache_of caches d) pa (sound.all_lines d k) (sound.coherent d k)) (λ c ne k. sound.coherent c k);
}

pub sound-dropped : (cores : ℕ) (ram : List ℕ) (caches new : List (List (Option Line))) (slots : List (Option ℕ)) (counts : List Counts) (devices : Devices) (d pa : ℕ) → AreSound cores ram caches slots counts devices → d < cores
    → new ≡ slice_set caches d (line_dropped (cache_of caches d) pa) → AreSound cores ram new slots counts devices
sound-dropped cores ram caches new slots counts devices d pa sound known is =
    subst (λ b. AreSound cores ram b slots counts devices) (sym is) (sound-drop cores ram caches slots counts devices d pa known sound)

sound-here : (ram : List ℕ) (lines : List (Option Line)) (pa v : ℕ) (width : Width) (cached : Bool) → pa % bytes_of width ≡ 0 → length lines ≡ 128 → IsCoherent ram lines → IsCoherent (stored ram pa width v) (own_lines_after lines pa width v cached)
sound-here ram lines pa v width true aligned len is = coherent-updated ram lines pa v width len aligned is
sound-here ram lines pa v width false aligned len is = coherent-dropped_stored ram lines pa v width len aligned is

length-here : (lines : List (Option Line)) (pa v : ℕ) (width : Width) (cached : Bool) → length (own_lines_after lines pa width v cached) ≡ length lines
length-here lines pa v width true = length-updated lines pa v width
length-here lines pa v width false = length-dropped lines pa

sound-store : (cores : ℕ) (ram : List ℕ) (caches new : List (List (Option Line))) (slots : List (Option ℕ)) (counts : List Counts) (devices : Devices) (d pa v : ℕ) (width : Width) (cached : Bool) → d < cores → pa % bytes_of width ≡ 0 → AreSound cores ram caches slots counts devices → AreWritten caches d pa v width cached new
    → AreSound cores (stored ram pa width v) new (map (after_write (word_address pa)) slots) counts devices
sound-store cores ram caches new slots counts devices d pa v width cached known aligned sound change = record {
  few = sound.few;
  all_caches = change.same_length ∙ sound.all_caches;
  all_slots = simp length-map sound.all_slots;
  all_counts = sound.all_counts;
  all_served = sound.all_served;
  all_lines = each_core (λ c. c < cores → length (cache_of new c) ≡ 128) d
      (λ k. ap length change.own ∙ length-here (cache_of caches d) pa v width cached ∙ sound.all_lines d k)
      (λ c ne k. ap length (change.others c (omega (arith, sound.all_caches)) ne) ∙ length-dropped (cache_of caches c) pa ∙ sound.all_lines c k);
  coherent = each_core (λ c. c < cores → IsCoherent (stored ram pa width v) (cache_of new c)) d
      (λ k. subst (IsCoherent (stored ram pa width v)) (sym change.own) (sound-here ram (cache_of caches d) pa v width cached aligned (sound.all_lines d k) (sound.coherent d k)))
      (λ c ne k. subst (IsCoherent (stored ram pa width v)) (sym (change.others c (omega (arith, sound.all_caches)) ne)) (coherent-dropped_stored ram (cache_of caches c) pa v width (sound.all_lines c k) aligned (sound.coherent c k)));
}

-- after a store each valid line is again what RAM holds
pub sound-written : (cores : ℕ) (ram after : List ℕ) (caches new : List (List (Option Line))) (slots left : List (Option ℕ)) (counts : List Counts) (devices : Devices) (d pa v : ℕ) (width : Width) (cached : Bool) → AreSound cores ram caches slots counts devices → d < cores → pa % bytes_of width ≡ 0 → AreWritten caches d pa v width cached new
    → after ≡ stored ram pa width v → left ≡ map (after_write (word_address pa)) slots → AreSound cores after new left counts devices
sound-written cores ram after caches new slots left counts devices d pa v width cached sound known aligned change is_after is_left =
    subst (λ l. AreSound cores after new l counts devices) (sym is_left)
    (subst (λ r. AreSound cores r new (map (after_write (word_address pa)) slots) counts devices) (sym is_after)
    (sound-store cores ram caches new slots counts devices d pa v width cached known aligned sound change))

-- A LOAD

represents-hit : (bus : BusState) (world : World) (d pa : ℕ) → d < bus.cores → IsSound bus → holds (cache_of bus.caches d) (line_of pa) ≡ true → Represents bus world
    → Represents (record bus { counts = slice_set bus.counts d (with_hit (counts_of bus.counts d)) }) (after_load world d pa true)
unfolding after_load stands
represents-hit bus world d pa known sound hit is = record {
  ram = is.ram;
  devices = is.devices;
  valid = record { marks = is.valid.marks; reached = is.valid.reached; devices = is.valid.devices };
  writes = is.writes;
  lines = λ c line h base. each_core (λ c. c < bus.cores → holds (cache_of bus.caches c) line ≡ held (load_of d (line_of pa) ∷ world.accesses) c line) d
      (λ k. told-hit world.accesses d (line_of pa) (cache_of bus.caches d) hit (λ l b. is.lines d l k b) line base)
      (λ c ne k. told-other_load world.accesses c d (line_of pa) (cache_of bus.caches c) ne (λ l b. is.lines c l k b) line base)
      c h;
  coherent = is.coherent;
  reserved = is.reserved;
  counted = each_set (λ c counts. c < bus.cores → IsCount (load_of d (line_of pa) ∷ world.accesses) c counts) bus.counts d _ no_counts (omega (arith, sound.few, sound.all_counts))
      (λ k. count-hit world.accesses d (line_of pa) _ (sym (is.lines d (line_of pa) k (line_of_base pa)) ∙ hit) (is.counted d k))
      (λ c ne k. count-other world.accesses c d (line_of pa) _ ne (is.counted c k));
}

-- a cached load whose line is held
pub track-hit : (bus new : BusState) (world : World) (d pa word : ℕ) → IsSound bus → d < bus.cores → held_word (cache_of bus.caches d) pa ≡ Some word
    → new ≡ record bus { counts = slice_set bus.counts d (with_hit (counts_of bus.counts d)) } → Represents bus world → Represents new (after_load world d pa true)
track-hit bus new world d pa word sound known found is before =
    subst (λ bus. Represents bus (after_load world d pa true)) (sym is)
    (represents-hit bus world d pa known sound (holds-held_word (cache_of bus.caches d) pa ∙ ap is_some found) before)

represents-miss : (bus : BusState) (world : World) (d pa reads : ℕ) → d < bus.cores → IsSound bus → line_of pa + 32 ≤ length bus.ram → holds (cache_of bus.caches d) (line_of pa) ≡ false → Represents bus world
    → Represents (record bus { reads = reads; caches = slice_set bus.caches d (line_filled (cache_of bus.caches d) pa (line_bytes bus.ram pa)); counts = slice_set bus.counts d (with_miss (counts_of bus.counts d)) }) (after_load world d pa true)
unfolding after_load stands
represents-miss bus world d pa reads known sound inside miss is = record {
  ram = is.ram;
  devices = is.devices;
  valid = record { marks = is.valid.marks; reached = is.valid.reached; devices = is.valid.devices };
  writes = is.writes;
  lines = λ c line h base. each_set (λ c lines. c < bus.cores → holds lines line ≡ held (load_of d (line_of pa) ∷ world.accesses) c line) bus.caches d _ [] (omega (arith, sound.all_caches))
      (λ k. told-miss world.accesses d pa (line_bytes bus.ram pa) (cache_of bus.caches d) (sound.all_lines d k) (λ l b. is.lines d l k b) line base)
      (λ c ne k. told-other_load world.accesses c d (line_of pa) (cache_of bus.caches c) ne (λ l b. is.lines c l k b) line base)
      c h;
  coherent = (sound-filled bus.cores bus.ram bus.caches bus.slots bus.counts bus.devices d pa sound known inside).coherent;
  reserved = is.reserved;
  counted = each_set (λ c counts. c < bus.cores → IsCount (load_of d (line_of pa) ∷ world.accesses) c counts) bus.counts d _ no_counts (omega (arith, sound.few, sound.all_counts))
      (λ k. count-miss world.accesses d (line_of pa) _ (sym (is.lines d (line_of pa) k (line_of_base pa)) ∙ miss) (is.counted d k))
      (λ c ne k. count-other world.accesses c d (line_of pa) _ ne (is.counted c k));
}

-- a cached load whose line is not held
pub track-miss : (bus new : BusState) (world : World) (d pa : ℕ) → IsSound bus → d < bus.cores → line_of pa + 32 ≤ length bus.ram → held_word (cache_of bus.caches d) pa ≡ None
    → new ≡ record bus { reads = counted_up bus.reads; caches = slice_set bus.caches d (line_filled (cache_of bus.caches d) pa (line_bytes bus.ram pa)); counts = slice_set bus.counts d (with_miss (counts_of bus.counts d)) } → Represents bus world → Represents new (after_load world d pa true)
track-miss bus new world d pa sound known inside lacking is before =
    subst (λ bus. Represents bus (after_load world d pa true)) (sym is)
    (represents-miss bus world d pa (counted_up bus.reads) known sound inside (holds-held_word (cache_of bus.caches d) pa ∙ ap is_some lacking) before)

represents-plain_load : (bus : BusState) (world : World) (d pa reads : ℕ) → Represents bus world → Represents (record bus { reads = reads }) (after_load world d pa false)
unfolding after_load stands
represents-plain_load bus world d pa reads is = record {
  ram = is.ram;
  devices = is.devices;
  valid = record { marks = is.valid.marks; reached = is.valid.reached; devices = is.valid.devices };
  writes = is.writes;
  lines = is.lines;
  coherent = is.coherent;
  reserved = is.reserved;
  counted = λ c h. count-same world.accesses (record { core = d; kind = Loads; line = line_of pa; cached = false }) c _ refl (is.counted c h);
}

-- a load past the caches
pub track-plain_load : (bus new : BusState) (world : World) (d pa : ℕ) → new ≡ with_read bus → Represents bus world → Represents new (after_load world d pa false)
track-plain_load bus new world d pa is before = subst (λ b. Represents b (after_load world d pa false)) (sym is) (represents-plain_load bus world d pa (counted_up bus.reads) before)

-- whether a word is found is what `held` says
pub found-held : (bus : BusState) (world : World) (d pa : ℕ) → d < bus.cores → Represents bus world → is_some (held_word (cache_of bus.caches d) pa) ≡ held world.accesses d (line_of pa)
found-held bus world d pa known is = sym (holds-held_word (cache_of bus.caches d) pa) ∙ is.lines d (line_of pa) known (line_of_base pa)

-- A CHANGE THAT NO WORLD TELLS

represents-untold : (bus : BusState) (world : World) (reads : ℕ) (last : Option _) → Represents bus world → Represents (record bus { reads = reads; last = last }) world
represents-untold bus world reads last is = record { ram = is.ram; devices = is.devices; valid = is.valid; writes = is.writes; lines = is.lines; coherent = is.coherent; reserved = is.reserved; counted = is.counted }

pub track-read : (bus new : BusState) (world : World) → new ≡ with_read bus → Represents bus world → Represents new world
track-read bus new world is before = subst (λ b. Represents b world) (sym is) (represents-untold bus world (counted_up bus.reads) bus.last before)

-- however often RAM was read
pub track-reads : (bus new : BusState) (world : World) → new ≡ record bus { reads = new.reads } → Represents bus world → Represents new world
track-reads bus new world is before = subst (λ b. Represents b world) (sym is) (represents-untold bus world new.reads bus.last before)

pub track-noted : (bus new : BusState) (world : World) (last : Option _) → new ≡ record bus { last = last } → Represents bus world → Represents new world
track-noted bus new world last is before = subst (λ b. Represents b world) (sym is) (represents-untold bus world bus.reads last before)

pub ruleset reads = (track-read, track-plain_load)

-- A STORE

told-store_here : (accesses : List Access) (d pa v : ℕ) (width : Width) (cached : Bool) (lines : List (Option Line)) → length lines ≡ 128 → IsAsTold accesses d lines → IsAsTold (store_of d (line_of pa) cached ∷ accesses) d (own_lines_after lines pa width v cached)
told-store_here accesses d pa v width true lines len told = told-own_store accesses d pa v width lines len told
told-store_here accesses d pa v width false lines len told = told-other_store accesses d d pa false lines len (λ e. absurd (true≢false (sym e))) told

abbrev written : BusState → ℕ → ℕ → Width → ℕ → List (List (Option Line)) → BusState
written bus reads pa width v caches = record bus { ram = stored bus.ram pa width v; reads = reads; caches = caches; slots = map (after_write (word_address pa)) bus.slots; writes = counted_up bus.writes }

represents-store : (bus : BusState) (world : World) (d pa v reads : ℕ) (width : Width) (cached : Bool) (caches : List (List (Option Line))) → d < bus.cores → pa % bytes_of width ≡ 0 → IsSound bus → AreWritten bus.caches d pa v width cached caches → Represents bus world
    → Represents (written bus reads pa width v caches) (after_store world d pa width v cached)
unfolding after_store stands
represents-store bus world d pa v reads width cached caches known aligned sound change is = record {
  ram = ap (λ ram. stored ram pa width v) is.ram;
  devices = is.devices;
  valid = record { marks = is.valid.marks; reached = λ c word k e. simp length-append (omega (arith, is.valid.reached c word k e)); devices = is.valid.devices };
  writes = simp length-append (omega (arith, is.writes));
  lines = λ c line h base. each_core (λ c. c < bus.cores → holds (cache_of caches c) line ≡ held (store_of d (line_of pa) cached ∷ world.accesses) c line) d
      (λ k. ap (λ lines. holds lines line) change.own ∙ told-store_here world.accesses d pa v width cached (cache_of bus.caches d) (sound.all_lines d k) (λ l b. is.lines d l k b) line base)
      (λ c ne k. ap (λ lines. holds lines line) (change.others c (omega (arith, sound.all_caches)) ne) ∙ told-other_store world.accesses c d pa cached (cache_of bus.caches c) (sound.all_lines c k) (λ e. ne) (λ l b. is.lines c l k b) line base)
      c h;
  coherent = (sound-store bus.cores bus.ram bus.caches caches bus.slots bus.counts bus.devices d pa v width cached known aligned sound change).coherent;
  reserved = λ c word h. ap (is_for word) (get_or-map (after_write (word_address pa)) bus.slots c None)
      ∙ slot-wrote world.writes d (word_address pa) (slice_index_or world.marks c None) (slice_index_or bus.slots c None) (λ w k e. is.valid.reached c w k e) (λ w. is.reserved c w h) word;
  counted = λ c h. count-same world.accesses (store_of d (line_of pa) cached) c _ refl (is.counted c h);
}

pub track_store : (bus new : BusState) (world : World) (d pa v : ℕ) (width : Width) (cached : Bool) → d < bus.cores → pa % bytes_of width ≡ 0 → IsSound bus → IsWritten bus d pa v width cached new → Represents bus world → Represents new (after_store world d pa width v cached)
track_store bus new world d pa v width cached known aligned sound change is =
    let same : new ≡ written bus new.reads pa width v new.caches = written-is bus new pa v width change.same_cores change.ram_after change.slots_after change.writes_after change.same_counts change.same_devices change.same_spare change.same_last in
    subst (λ b. Represents b (after_store world d pa width v cached)) (sym same) (represents-store bus world d pa v new.reads width cached new.caches known aligned sound change.caches_after is)
  where
    written-is : (bus new : BusState) (pa v : ℕ) (width : Width) → new.cores ≡ bus.cores → new.ram ≡ stored bus.ram pa width v → new.slots ≡ map (after_write (word_address pa)) bus.slots → new.writes ≡ counted_up bus.writes → new.counts ≡ bus.counts → new.devices ≡ bus.devices → new.spare ≡ bus.spare → new.last ≡ bus.last → new ≡ written bus new.reads pa width v new.caches
    written-is bus new pa v width e1 e2 e3 e4 e5 e6 e7 e8 = let e : ◌≡◌ {A = BusState} (record { cores = new.cores; ram = new.ram; reads = new.reads; caches = new.caches; slots = new.slots; counts = new.counts; writes = new.writes; devices = new.devices; spare = new.spare; last = new.last }) (written bus new.reads pa width v new.caches) = cc in e

-- MARKS

abbrev place_in : Option ReservationMark → ℕ
place_in None = 0
place_in (Some mark) = mark.1

-- core d's mark and slot change together
marks_change : (bus : BusState) (world : World) (d : ℕ) (mark : Option ReservationMark) (slot : Option ℕ) → d < bus.cores → IsSound bus → Represents bus world
    → ((w k : ℕ) → mark ≡ Some (w, k) → k ≤ length world.writes) → IsSlotOf world.writes mark slot
    → Represents (record bus { slots = slice_set bus.slots d slot }) (record world { marks = slice_set world.marks d mark })
unfolding stands
marks_change bus world d mark slot known sound is reached of = record {
  ram = is.ram;
  devices = is.devices;
  valid = record {
    marks = length-set world.marks d _ ∙ is.valid.marks;
    reached = each_set (λ c mark. (w k : ℕ) → mark ≡ Some (w, k) → k ≤ length world.writes) world.marks d mark None (omega (arith, is.valid.marks)) reached (λ c ne. is.valid.reached c);
    devices = is.valid.devices;
  };
  writes = is.writes;
  lines = is.lines;
  coherent = is.coherent;
  reserved = λ c w h. each_core (λ c. c < bus.cores → is_for w (slice_index_or (slice_set bus.slots d slot) c None) ≡ stands_by world.writes w (slice_index_or (slice_set world.marks d mark) c None)) d
      (λ k. ap (is_for w) (get_or-set_same bus.slots d slot None (omega (arith, sound.all_slots, sound.few)))
      ∙ of w
      ∙ sym (ap (stands_by world.writes w) (get_or-set_same world.marks d mark None (omega (arith, is.valid.marks)))))
      (λ c ne k. ap (is_for w) (get_or-set_other bus.slots d c slot None ne)
      ∙ is.reserved c w k
      ∙ sym (ap (stands_by world.writes w) (get_or-set_other world.marks d c mark None ne)))
      c h;
  counted = is.counted;
}

represents-marked : (bus : BusState) (world : World) (d word : ℕ) → d < bus.cores → IsSound bus → Represents bus world → Represents (record bus { slots = slice_set bus.slots d (Some word) }) (marked world d word)
unfolding marked
represents-marked bus world d word known sound is =
    marks_change bus world d (Some (word, length world.writes)) (Some word) known sound is
    (λ w k e. let same : length world.writes ≡ k = ap place_in e in omega arith) (slot-marked world.writes word)

-- a word is reserved
pub track-marked : (bus new : BusState) (world : World) (d word : ℕ) → d < bus.cores → IsSound bus → new ≡ record bus { slots = slice_set bus.slots d (Some word) } → Represents bus world → Represents new (marked world d word)
track-marked bus new world d word known sound is before = subst (λ b. Represents b (marked world d word)) (sym is) (represents-marked bus world d word known sound before)

represents-unmarked : (bus : BusState) (world : World) (d : ℕ) → d < bus.cores → IsSound bus → Represents bus world → Represents (record bus { slots = slice_set bus.slots d None }) (unmarked world d)
unfolding unmarked
represents-unmarked bus world d known sound is =
    marks_change bus world d None None known sound is (λ w k e. absurd (none_is_some e)) (λ w. refl)

-- no word is reserved any more
pub track-unmarked : (bus new : BusState) (world : World) (d : ℕ) → d < bus.cores → IsSound bus → new ≡ record bus { slots = slice_set bus.slots d None } → Represents bus world → Represents new (unmarked world d)
track-unmarked bus new world d known sound is before = subst (λ b. Represents b (unmarked world d)) (sym is) (represents-unmarked bus world d known sound before)

-- A LINE IS DROPPED

represents-drop : (bus : BusState) (world : World) (d pa : ℕ) → d < bus.cores → IsSound bus → Represents bus world → Represents (record bus { caches = slice_set bus.caches d (line_dropped (cache_of bus.caches d) pa) }) (after_drop world d pa)
unfolding after_drop stands
represents-drop bus world d pa known sound is = record {
  ram = is.ram;
  devices = is.devices;
  valid = record { marks = is.valid.marks; reached = is.valid.reached; devices = is.valid.devices };
  writes = is.writes;
  lines = λ c line h base. each_set (λ c lines. c < bus.cores → holds lines line ≡ held (drop_of d (line_of pa) ∷ world.accesses) c line) bus.caches d _ [] (omega (arith, sound.all_caches))
      (λ k. told-own_drop world.accesses d pa (cache_of bus.caches d) (sound.all_lines d k) (λ l b. is.lines d l k b) line base)
      (λ c ne k. told-other_drop world.accesses c d (line_of pa) (cache_of bus.caches c) ne (λ l b. is.lines c l k b) line base)
      c h;
  coherent = (sound-drop bus.cores bus.ram bus.caches bus.slots bus.counts bus.devices d pa known sound).coherent;
  reserved = is.reserved;
  counted = λ c h. count-same world.accesses (drop_of d (line_of pa)) c _ refl (is.counted c h);
}

pub track-drop : (bus new : BusState) (world : World) (d pa : ℕ) → d < bus.cores → IsSound bus → new ≡ record bus { caches = slice_set bus.caches d (line_dropped (cache_of bus.caches d) pa) } → Represents bus world → Represents new (after_drop world d pa)
track-drop bus new world d pa known sound is before = subst (λ b. Represents b (after_drop world d pa)) (sym is) (represents-drop bus world d pa known sound before)

-- THE DEVICES

represents-devices : (bus : BusState) (world : World) (devices : Devices) (spare : ℕ) → served_cores devices ≡ bus.cores → Represents bus world → Represents (record bus { devices = devices; spare = spare }) (record world { devices = devices })
unfolding stands
represents-devices bus world devices spare all is = record {
  ram = is.ram;
  devices = refl;
  valid = record { marks = is.valid.marks; reached = is.valid.reached; devices = all };
  writes = is.writes;
  lines = is.lines;
  coherent = is.coherent;
  reserved = is.reserved;
  counted = is.counted;
}

-- the devices of the bus change as those of the world
pub track-devices : (bus new : BusState) (world : World) (change : Devices → Devices) (spare : ℕ) → IsSound new → new ≡ record bus { devices = change bus.devices; spare = spare } → Represents bus world → Represents new (record world { devices = change world.devices })
track-devices bus new world change spare sound is before =
    let all : served_cores (change bus.devices) ≡ bus.cores = subst (λ (b : BusState). served_cores b.devices ≡ b.cores) is sound.all_served in
    subst (λ b. Represents b (record world { devices = change world.devices })) (sym is)
    (subst (λ d. Represents (record bus { devices = change bus.devices; spare = spare }) (record world { devices = change d })) before.devices
    (represents-devices bus world (change bus.devices) spare all before))

pub sound-devices : (cores : ℕ) (ram : List ℕ) (caches : List (List (Option Line))) (slots : List (Option ℕ)) (counts : List Counts) (devices new : Devices) → AreSound cores ram caches slots counts devices → served_cores new ≡ served_cores devices → AreSound cores ram caches slots counts new
sound-devices cores ram caches slots counts devices new sound same = record {
  few = sound.few;
  all_caches = sound.all_caches;
  all_slots = sound.all_slots;
  all_counts = sound.all_counts;
  all_served = same ∙ sound.all_served;
  all_lines = sound.all_lines;
  coherent = sound.coherent;
}

-- AT THE START

none_at : {X : Type 0} (n place : ℕ) → slice_index_or {A = Option X} (replicate n None) place None ≡ None
none_at zero place = refl
none_at (suc n) zero = refl
none_at (suc n) (suc place) = none_at n place

cache_at : (cores c : ℕ) → c < cores → cache_of (replicate cores no_lines) c ≡ no_lines
cache_at cores c h = get_or-replicate cores c no_lines [] h

coherent-start : (cores : ℕ) (ram : List ℕ) (caches : List (List (Option Line))) → caches ≡ replicate cores no_lines → (c : ℕ) → c < cores → IsCoherent ram (cache_of caches c)
coherent-start cores ram caches no_caches c h =
    subst (λ b. IsCoherent ram (cache_of b c)) (sym no_caches) (subst (IsCoherent ram) (sym (cache_at cores c h)) (λ index line k is. absurd (none_is_some (sym (none_at 128 index) ∙ is))))

pub served-reset : (cores : ℕ) (input : List ℕ) (devices : Devices) → devices ≡ reset_devices cores input → served_cores devices ≡ cores
unfolding reset_devices
served-reset cores input devices is = ap served_cores is ∙ length-replicate cores 0

pub sound-start : (cores : ℕ) (ram : List ℕ) (caches : List (List (Option Line))) (slots : List (Option ℕ)) (counts : List Counts) (devices : Devices) → cores ≤ 8 → caches ≡ replicate cores no_lines → slots ≡ replicate 8 None → length counts ≡ 8 → served_cores devices ≡ cores → AreSound cores ram caches slots counts devices
sound-start cores ram caches slots counts devices few no_caches no_slots eight all = record {
  few = few;
  all_caches = ap length no_caches ∙ length-replicate cores no_lines;
  all_slots = ap length no_slots;
  all_counts = eight;
  all_served = all;
  all_lines = λ c h. ap (λ b. length (cache_of b c)) no_caches ∙ ap length (cache_at cores c h);
  coherent = coherent-start cores ram caches no_caches;
}

pub represents-start : (bus : BusState) (input : List ℕ) → bus.caches ≡ replicate bus.cores no_lines → bus.slots ≡ replicate 8 None → bus.counts ≡ replicate 8 no_counts → bus.writes ≡ 0 → bus.devices ≡ reset_devices bus.cores input → Represents bus (new_world bus.ram bus.cores input)
unfolding new_world reset_devices stands holds
represents-start bus input no_caches no_slots no_hits no_writes reset = record {
  ram = refl;
  devices = reset;
  valid = record { marks = length-replicate bus.cores None; reached = λ c word k e. absurd (none_is_some (sym (none_at bus.cores c) ∙ e)); devices = length-replicate bus.cores 0 };
  writes = no_writes;
  lines = λ c line h base. ap (λ b. is_line line (slice_index_or (cache_of b c) (index_of line) None)) no_caches
      ∙ ap (λ b. is_line line (slice_index_or b (index_of line) None)) (cache_at bus.cores c h) ∙ ap (is_line line) (none_at 128 (index_of line));
  coherent = coherent-start bus.cores bus.ram bus.caches no_caches;
  reserved = λ c word h. ap (λ s. is_for word (slice_index_or s c None)) no_slots ∙ ap (is_for word) (none_at 8 c) ∙ sym (ap (stands_by [] word) (none_at bus.cores c));
  counted = λ c h. ap (λ n. counts_of n c) no_hits ∙ counts_at 8 c;
}
  where
    counts_at : (n c : ℕ) → counts_of (replicate n no_counts) c ≡ no_counts
    counts_at zero c = refl
    counts_at (suc n) zero = refl
    counts_at (suc n) (suc c) = counts_at n c

-- WHAT STANDS AT AN INDEX

told_by : (bus : BusState) (world : World) (c index : ℕ) (here : Option Line) → Represents bus world → c < bus.cores → index < 128 → line_at_index (cache_of bus.caches c) index ≡ here → IsLineTold world c index (address_and_bytes here)
unfolding holds
told_by bus world c index None is known inside at =
    λ line base same. sym (is.lines c line known base) ∙ ap (λ i. is_line line (slice_index_or (cache_of bus.caches c) i None)) same ∙ ap (is_line line) at
told_by bus world c index (Some line) is known inside at =
    let kept : IsLineOf bus.ram index line = is.coherent c known index line inside at in (
      kept.aligned,
      kept.indexed,
      sym (is.lines c line.address known kept.aligned) ∙ ap (λ i. is_line line.address (slice_index_or (cache_of bus.caches c) i None)) kept.indexed ∙ ap (is_line line.address) at ∙ grind (arith, nat_tests),
      kept.same ∙ ap (λ ram. slice_range ram line.address (line.address + 32)) is.ram,
    )

pub told : (bus : BusState) (world : World) (c index : ℕ) (here : Option (ℕ × List ℕ)) → Represents bus world → c < bus.cores → index < 128 → here ≡ address_and_bytes (line_at_index (cache_of bus.caches c) index) → IsLineTold world c index here
told bus world c index here is known inside e = subst (IsLineTold world c index) (sym e) (told_by bus world c index (line_at_index (cache_of bus.caches c) index) is known inside refl)
