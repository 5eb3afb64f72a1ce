-- The Misra-Gries tally of a list of keys; `alike` says which keys count as one. Assumes nothing.
use Rattle.std.specs.Prelude.{ℕ, ◌+◌, ◌-◌, min, Bool, if◌then◌else◌, List, [], ◌∷◌, ◌++◌, map, length, fold, filter, Option, nat_lt, position, find, is_some}
use Rattle.std.specs.Option.{option_map_or}
use Rattle.tally.specs.declared.rows.Row.{Row}

-- rows of keys with their counts, oldest first, and how often all counts fell
pub record Summary (K : Type 0) : Type 0 where
  pub rows : List (Row K)
  pub lost : ℕ

-- the tally of no keys
abbrev pub empty : {K : Type 0} → Summary K
empty = record { rows = []; lost = 0 }

-- a number of 32 bits one higher; the highest stays
abbrev pub up : ℕ → ℕ
up n = min (n + 1) 4294967295

-- the row of a key that enters
abbrev pub entered : {K : Type 0} → K → Row K
entered k = record { key = k; count = 1 }

-- a row one higher, under its own key
abbrev pub raised : {K : Type 0} → Row K → Row K
raised row = record { key = row.key; count = up row.count }

-- a row one lower; a count of 0 stays 0
abbrev pub lowered : {K : Type 0} → Row K → Row K
lowered row = record { key = row.key; count = row.count - 1 }

-- where the first row stands that is alike to k, if one does; the places count from 0
abbrev pub place : {K : Type 0} → (K → K → Bool) → List (Row K) → K → Option ℕ
place alike rows k = position (λ row. alike row.key k) rows

-- whether some row is alike to k
abbrev pub known : {K : Type 0} → (K → K → Bool) → List (Row K) → K → Bool
known alike rows k = is_some (place alike rows k)

-- the count of the first row alike to k; without one, 0
abbrev pub count_in : {K : Type 0} → (K → K → Bool) → List (Row K) → K → ℕ
count_in alike rows k = option_map_or (λ row. row.count) (find (λ row. alike row.key k) rows) 0

-- one more is counted in the first row that is alike to k, and its key stays
abbrev pub risen : {K : Type 0} → (K → K → Bool) → List (Row K) → K → List (Row K)
risen alike [] k = []
risen alike (row ∷ rows) k = if alike row.key k then (raised row ∷ rows) else (row ∷ risen alike rows k)

-- one is taken off every count, and rows that are left with 0 are given up
abbrev pub fallen : {K : Type 0} → List (Row K) → List (Row K)
fallen rows = filter (λ row. nat_lt 0 row.count) (map lowered rows)

-- what a key does that is alike to a row
abbrev pub rise : {K : Type 0} → (K → K → Bool) → Summary K → K → Summary K
rise alike t k = record { rows = risen alike t.rows k; lost = t.lost }

-- what a key does that is alike to none, where there is room
abbrev pub enter : {K : Type 0} → Summary K → K → Summary K
enter t k = record { rows = t.rows ++ entered k ∷ []; lost = t.lost }

-- what it does where there is none: it is not kept
abbrev pub fall : {K : Type 0} → Summary K → Summary K
fall t = record { rows = fallen t.rows; lost = up t.lost }

-- one key comes to a tally of at most `room` rows
abbrev pub step : {K : Type 0} → (K → K → Bool) → ℕ → Summary K → K → Summary K
step alike room t k = if known alike t.rows k then rise alike t k else (if nat_lt (length t.rows) room then enter t k else fall t)

-- the tally of a list of keys, oldest first
abbrev pub run : {K : Type 0} → (K → K → Bool) → ℕ → List K → Summary K
run alike room keys = fold (step alike room) empty keys
