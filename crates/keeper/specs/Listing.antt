-- The entries of a list, from keys in some order and a bracket for each key. Assumes nothing.
use Rattle.std.specs.Prelude.{◌≡◌, ℕ, ◌+◌, Bool, false, if◌then◌else◌, not, List, [], ◌∷◌, ◌++◌, map, flat_map, length, Some, None, filter, Option, nat_le, take, drop, All}
use Rattle.std.specs.List.{list_any}
use Rattle.tally.specs.declared.rows.Row.{Row}
use Rattle.tally.specs.Slots.{over}
use Rattle.keeper.specs.declared.entry.Entry.{Entry}

-- the entry of a key with its bracket
abbrev pub entry_of : {K : Type 0} → K → ℕ × ℕ → Entry K
entry_of k bracket = record { key = k; floor = bracket.0; ceiling = bracket.1 }

-- the keys in rows, and in rows that lie in pieces
abbrev pub keys_in : {K : Type 0} → List (Row K) → List K
keys_in rows = map (λ row. row.key) rows

abbrev pub all_keys : {K : Type 0} → List (List (Row K)) → List K
all_keys pieces = flat_map keys_in pieces

-- whether rows are the piece of this number
abbrev pub IsPiece : {K : Type 0} → List (List (Row K)) → ℕ → List (Row K) → Type 0
IsPiece pieces number rows = pieces ≡ take number pieces ++ rows ∷ drop (number + 1) pieces

-- a list with as many of these written over its front as it has places for
abbrev pub written_over : {X : Type 0} → List X → List X → List X
written_over entries list = over (take (length list) entries) list

-- the bracket in an entry
abbrev pub bracket_in : {K : Type 0} → Entry K → ℕ × ℕ
bracket_in e = (e.floor, e.ceiling)

module _ {K : Type 0} (alike : K → K → Bool) where
  -- no two keys are alike
  abbrev pub Apart : List K → Type 0
  Apart [] = Unit {0}
  Apart (k ∷ ks) = All (λ other. alike k other ≡ false) ks × Apart ks

  -- whether some key of a list is alike to k
  abbrev pub among : List K → K → Bool
  among keys k = list_any (λ x. alike x k) keys

  -- rows end the piece of this number, and no key of the earlier pieces and of the rows before is alike to k
  pub record IsFirstFrom (pieces : List (List (Row K))) (number : ℕ) (rows : List (Row K)) (k : K) : Type 0 where
    pub before : List (Row K)
    pub piece : IsPiece pieces number (before ++ rows)
    pub first : among (all_keys (take number pieces) ++ keys_in before) k ≡ false

  -- the keys of a list by their first places: a key is passed over where one before it is alike
  abbrev pub firsts : List K → List K
  firsts [] = []
  firsts (k ∷ ks) = k ∷ filter (λ other. not (alike k other)) (firsts ks)

  -- the entries for those keys that may count `threshold` or more
  abbrev pub listed : (K → ℕ × ℕ) → ℕ → List K → List (Entry K)
  listed bracket threshold keys = map (λ k. entry_of k (bracket k)) (filter (λ k. nat_le threshold (bracket k).1) (firsts keys))

  -- the entry that one key more adds, behind the keys `before`
  abbrev pub named_after : (K → ℕ × ℕ) → ℕ → List K → K → Option (Entry K)
  named_after bracket threshold before k =
      if among before k then None
      else if nat_le threshold (bracket k).1 then Some (entry_of k (bracket k))
      else None
