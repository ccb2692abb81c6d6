-- Files in memory, by name.
use Rattle.std.specs.Prelude.{ℕ, List, Vec, String, vec_capacity}
use Rattle.std.specs.declared.alloc.Global.{Global}
use Rattle.std.specs.Option.{option_map, option_map_or}
use Rattle.std.specs.BTreeMap.{BTreeMap, get_by_text}
use Rattle.or_host.specs.Told.{Content}

-- what a name holds
abbrev pub content_of : BTreeMap (String Global) (Vec ℕ Global) → List ℕ → Content
content_of files name = option_map (λ bytes. bytes.items) (get_by_text files name)

-- how many bytes a name can hold before its file takes more memory
abbrev pub room_of : BTreeMap (String Global) (Vec ℕ Global) → List ℕ → ℕ
room_of files name = option_map_or (λ bytes. vec_capacity bytes) (get_by_text files name) 0
