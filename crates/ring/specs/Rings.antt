-- What a ring's record and rows mean; the record is seen as its figures. Assumes nothing.
use Rattle.std.specs.Prelude.{◌≡◌, ℕ, zero, suc, ◌+◌, ◌-◌, ◌%◌, ◌^◌, Bool, List, [], ◌++◌, map, take, drop, slice_set}
use Rattle.keeper.specs.declared.entry.Entry.{Entry}
use Rattle.keeper.specs.declared.lengths.Lengths.{Lengths}
use Rattle.keeper.specs.Figures.{Figures}
use Rattle.keeper.specs.Listing.{listed}
use Rattle.likeness.specs.Counts.{true_count}
use Rattle.tally.specs.declared.rows.Head.{Head}
use Rattle.tally.specs.declared.rows.Row.{Row}

-- a row for each key that the longest window has, and no heads
abbrev pub need_of : ℕ → ℕ → Lengths
need_of a k = record { rows = 2 ^ k; heads = 0 }

-- the key in row i; none, where there is no such row
abbrev pub key_in : {K : Type 0} → List (Row K) → ℕ → List K
key_in rows i = map (λ row. row.key) (take 1 (drop i rows))

-- the keys of n puts from put number `from` on, where put m lies in row m mod `rounds`
abbrev pub keys_from : {K : Type 0} → List (Row K) → ℕ → ℕ → ℕ → List K
keys_from rows rounds from zero = []
keys_from rows rounds from (suc n) = key_in rows (from % rounds) ++ keys_from rows rounds (from + 1) n

-- the window as the rows have it: the keys of the last puts, as many as it holds, oldest first
abbrev pub window_of : {K : Type 0} → Figures → List (Row K) → List K
window_of s rows = keys_from rows (2 ^ s.span) (s.puts - s.size) s.size

-- the ring is true to the window that its rows have, whatever the heads hold and whatever keys came before
abbrev pub HoldsWindow : {K : Type 0} → Figures → List (Row K) → List Head → List K → List K → Type 0
HoldsWindow s rows heads past window = window_of s rows ≡ window

-- floor and ceiling are one: how many keys of the window are alike
abbrev pub exactly : {K : Type 0} → (K → K → Bool) → List K → K → ℕ × ℕ
exactly alike window k = (true_count alike window k, true_count alike window k)

-- a list names the window's keys by their first places, if they count enough
abbrev pub listing_of : {K : Type 0} → (K → K → Bool) → List K → ℕ → List (Entry K)
listing_of alike window threshold = listed alike (exactly alike window) threshold window

-- the rows after a put that was accepted: only the row of this put is written
abbrev pub stored : {K : Type 0} → Figures → List (Row K) → K → List (Row K)
stored s rows k = slice_set rows (s.puts % 2 ^ s.span) (record { key = k; count = 1 })
