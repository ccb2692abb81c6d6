-- Parts that are read or written one after another make a whole.
use Rattle.std.proofs.Common.{◌≡◌, ◌∙◌, ◌≤◌, sym, ap, subst, refl, ℕ, List, [], ◌++◌, ◌-◌, length, take, drop, Option, Some, None, take-append-drop, append_assoc, append-nil, arith}
use Rattle.std.specs.Prelude.{IfSome}
use Rattle.std.specs.Option.{option_map}
use Rattle.std.specs.Io.KnownBytes.{Consumes, IsAtEnd}
use Rattle.std.proofs.lemmas.List.{take_rest}
use Rattle.or_host.specs.Bytes.{IsPrefix}
use Rattle.or_host.specs.Told.{Content, TellsStep, TellsSame, IsPrefixOfFile, AddsToFile, AddsPrefixToFile}

-- a file of which these bytes may be known
abbrev pub file_of : Option (List ℕ) → Option Content
file_of known = option_map (λ x. let c : Content = Some x in c) known

-- the next bytes move from the rest to what is done
pub moves_on : (bytes first rest : List ℕ) (n : ℕ) → bytes ≡ first ++ rest → bytes ≡ (first ++ take n rest) ++ take (length rest - n) (drop n rest)
moves_on bytes first rest n e =
    e ∙ ap (λ l. first ++ l) (sym (take-append-drop n rest)) ∙ sym (append_assoc first (take n rest) (drop n rest)) ∙ ap (λ l. (first ++ take n rest) ++ l) (sym (take_rest rest n))

-- with no rest all is done
pub all_done : (bytes first rest : List ℕ) → bytes ≡ first ++ rest → rest ≡ [] → first ≡ bytes
all_done bytes first rest e none = sym (e ∙ ap (λ l. first ++ l) none ∙ append-nil first)

pub same_refl : (told : Option Content) → TellsSame told told
same_refl None = tt
same_refl (Some file) = refl

pub same_trans : {T : Type 0} (old mid new : Option T) → TellsSame old mid → TellsSame mid new → TellsSame old new
same_trans old mid None p q = tt
same_trans old None (Some new) p q = absurd q
same_trans None (Some mid) (Some new) p q = absurd p
same_trans (Some old) (Some mid) (Some new) p q = q ∙ p

more_in_file : (old mid new : Content) (a b : List ℕ) → AddsToFile a old mid → AddsToFile b mid new → AddsToFile (a ++ b) old new
more_in_file None None new a b p q = cc
more_in_file None (Some mid) new a b p q = cc
more_in_file (Some old) None new a b p q = cc
more_in_file (Some old) (Some mid) new a b p q = grind (arith, append_assoc)

-- a file grows by one part and then by another
pub adds_more : (old mid new : Option Content) (a b : List ℕ) → TellsStep (AddsToFile a) old mid → TellsStep (AddsToFile b) mid new → TellsStep (AddsToFile (a ++ b)) old new
adds_more old mid None a b p q = tt
adds_more old None (Some new) a b p q = absurd q
adds_more None (Some mid) (Some new) a b p q = absurd p
adds_more (Some old) (Some mid) (Some new) a b p q = more_in_file old mid new a b p q

-- a file grows, and then stays
pub adds_kept : (old mid new : Option Content) (a : List ℕ) → TellsStep (AddsToFile a) old mid → TellsSame mid new → TellsStep (AddsToFile a) old new
adds_kept old mid None a p q = tt
adds_kept old None (Some new) a p q = absurd q
adds_kept None (Some mid) (Some new) a p q = absurd p
adds_kept (Some old) (Some mid) (Some new) a p q = subst (λ (x : Content). AddsToFile a old x) (sym q) p

prefix_in_file : (old new : Content) (first bytes : List ℕ) → IsPrefix first bytes → AddsToFile first old new → AddsPrefixToFile bytes old new
prefix_in_file None None first bytes is p = tt
prefix_in_file None (Some new) first bytes is p = let same : first ≡ new = cc in subst (λ (x : List ℕ). IsPrefix x bytes) same is
prefix_in_file (Some old) None first bytes is p = cc
prefix_in_file (Some old) (Some new) first bytes is p = record { first = first; is_prefix = is; added = cc }

-- a file that grew by a prefix
pub adds_prefix : (old new : Option Content) (first bytes : List ℕ) → IsPrefix first bytes → TellsStep (AddsToFile first) old new → TellsStep (AddsPrefixToFile bytes) old new
adds_prefix old None first bytes is p = tt
adds_prefix None (Some new) first bytes is p = absurd p
adds_prefix (Some old) (Some new) first bytes is p = prefix_in_file old new first bytes is p

same_in_file : (old new : Content) (bytes : List ℕ) → new ≡ old → AddsPrefixToFile bytes old new
same_in_file None None bytes e = tt
same_in_file None (Some new) bytes e = cc
same_in_file (Some old) None bytes e = cc
same_in_file (Some old) (Some new) bytes e = record { first = []; is_prefix = record { rest = bytes; parts = refl }; added = let same : new ≡ old = cc in same ∙ sym (append-nil old) }

-- a file that stays grew by no bytes
pub adds_none : (old new : Option Content) (bytes : List ℕ) → TellsSame old new → TellsStep (AddsPrefixToFile bytes) old new
adds_none old None bytes p = tt
adds_none None (Some new) bytes p = absurd p
adds_none (Some old) (Some new) bytes p = same_in_file old new bytes p

-- what was read is a prefix of the file
pub reads_prefix : (known left : Option (List ℕ)) (into : List ℕ) → Consumes known left into → IfSome (file_of known) (IsPrefixOfFile into)
reads_prefix None left into p = tt
reads_prefix (Some file) None into p = absurd p
reads_prefix (Some file) (Some left) into p = record { rest = left; parts = p }

-- what was read up to the end is the file
pub reads_all : (known left : Option (List ℕ)) (into : List ℕ) → Consumes known left into → IsAtEnd left → IfSome (file_of known) (λ file. file ≡ Some into)
reads_all None left into p end = tt
reads_all (Some file) None into p end = absurd p
reads_all (Some file) (Some left) into p end = ap (λ (x : List ℕ). let c : Content = Some x in c) (p ∙ ap (λ l. into ++ l) end ∙ append-nil into)

-- a list that stays empty holds a prefix of any file
pub takes_nothing_of : (told : Option Content) (max : ℕ) (into : List ℕ) → into ≡ [] → (length into ≤ max) × IfSome told (IsPrefixOfFile into)
takes_nothing_of None max into none = let zero : length into ≡ 0 = ap length none in (omega arith, tt)
takes_nothing_of (Some None) max into none = let zero : length into ≡ 0 = ap length none in (omega arith, none)
takes_nothing_of (Some (Some file)) max into none =
    let zero : length into ≡ 0 = ap length none in
    (omega arith, record { rest = file; parts = ap (λ (l : List ℕ). l ++ file) (sym none) })
