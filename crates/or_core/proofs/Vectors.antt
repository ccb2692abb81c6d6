-- Worked examples: the definitions give these accesses and traces by computation.
use Rattle.std.specs.Prelude.{◌≡◌, ℕ, true, false, [], Option, Some, None, refl, replicate, slice_set}
use Rattle.or_isa.specs.Decode.{decode_of}
use Rattle.or_isa.specs.Fields.{a_of, b_of, d_of, i_of, k_of, n_of, split_i_of, split_k_of}
use Rattle.or_model.specs.Core.{Core, reset_core}
use Rattle.or_model.specs.World.{World, new_world, marked, stands}
use Rattle.or_model.specs.Routes.{data_route}
use Rattle.or_bus.specs.declared.access.Access.{Access}
use Rattle.or_bus.specs.declared.access.AccessKind.TheVariants.{Load, Store, Linked, Conditional}
use Rattle.or_core.specs.Access.{access_of_word}

-- a core with an address in r3, and RAM of zeros in which it has reserved the word at 00000010
at_address : ℕ → Core
at_address address = let core = reset_core (record { cores = 1; budget = 1000; ram = 1; latched = false }) 0 in record core { registers = slice_set core.registers 3 address }

reserved : World
reserved = marked (new_world (replicate 32 0) 1 []) 0 0x10

-- the access that a word makes with the address in r3
made : ℕ → ℕ → Option Access
made address word = access_of_word (at_address address) reserved word

-- l.lbz r4,0(r3), l.sh 0(r3),r4 and l.lwa r4,0(r3) in RAM: the access is to their word
accesses_are_told : (made 0x13 0x8C830000 ≡ Some (record { core = 0; word = 0x10; kind = Load })) × (made 0x16 0xDC032000 ≡ Some (record { core = 0; word = 0x14; kind = Store })) × (made 0x18 0x6C830000 ≡ Some (record { core = 0; word = 0x18; kind = Linked }))
unfolding made at_address reserved access_of_word decode_of a_of b_of d_of i_of k_of n_of split_i_of split_k_of reset_core new_world marked data_route
accesses_are_told = (refl, refl, refl)

-- none at an address that is not aligned, behind RAM or of a device, and none by l.nop
other_accesses : (made 0x15 0xDC032000 ≡ None) × (made 0x20 0x8C830000 ≡ None) × (made 0x90000000 0x8C830000 ≡ None) × (made 0x10 0x15000000 ≡ None)
unfolding made at_address reserved access_of_word decode_of a_of b_of d_of i_of k_of n_of split_i_of split_k_of reset_core new_world marked data_route
other_accesses = (refl, refl, refl, refl)

-- l.swa 0(r3),r4 is an access where the link is set and its word is reserved
conditional : ℕ → Option Access
conditional address = access_of_word (record (at_address address) { linked = true }) reserved 0xCC032000

conditional_accesses : (conditional 0x10 ≡ Some (record { core = 0; word = 0x10; kind = Conditional })) × (conditional 0x14 ≡ None) × (made 0x10 0xCC032000 ≡ None)
unfolding conditional made at_address reserved access_of_word decode_of a_of b_of d_of i_of k_of n_of split_i_of split_k_of reset_core new_world marked stands data_route
conditional_accesses = (refl, refl, refl)
