-- What a tally tells of the keys that came. Assumes nothing.
use Rattle.std.specs.Prelude.{◌≡◌, ℕ, ◌+◌, ◌*◌, ◌^◌, ◌<◌, ◌≤◌, Bool, true, false, List, [], ◌∷◌, ◌++◌, length, Some, None, sum_by, Option, All, Contains}
use Rattle.std.specs.List.{HoldsAt, AllWithin}
use Rattle.likeness.specs.Counts.{true_count}
use Rattle.tally.specs.declared.rows.Row.{Row}
use Rattle.tally.specs.declared.rows.Head.{Head}
use Rattle.tally.specs.Slots.{held, room}
use Rattle.tally.specs.Steps.{Summary, count_in}

-- no two rows are alike
abbrev pub Unlike : {K : Type 0} → (K → K → Bool) → List (Row K) → Type 0
Unlike alike [] = Unit {0}
Unlike alike (row ∷ rows) = All (λ other. alike row.key other.key ≡ false) rows × Unlike alike rows

-- what it means that a search found r: the row there is alike to k and none before it is, or no row is
abbrev pub FirstAlike : {K : Type 0} → (K → K → Bool) → List (Row K) → K → Option ℕ → Type 0
FirstAlike alike rows k None = All (λ row. alike row.key k ≡ false) rows
FirstAlike alike rows k (Some i) = (i < length rows) × HoldsAt (λ row. alike row.key k ≡ true) rows i × AllWithin (λ row. alike row.key k ≡ false) rows 0 i

-- t is true to `keys`, as a tally of at most `room` rows
pub record Tells {K : Type 0} (alike : K → K → Bool) (room : ℕ) (keys : List K) (t : Summary K) : Type 0 where
  -- each key is in a count, or went in a fall, together with one from each of `room` rows
  pub whole : length keys ≡ sum_by (λ row. row.count) t.rows + t.lost * (room + 1)
  -- the count of a key and what was lost bracket how often it came
  pub floor : (k : K) → count_in alike t.rows k ≤ true_count alike keys k
  pub ceiling : (k : K) → true_count alike keys k ≤ count_in alike t.rows k + t.lost
  pub few : length t.rows ≤ room
  pub unlike : Unlike alike t.rows
  pub counted : All (λ row. 1 ≤ row.count) t.rows
  -- the key of each row is one of the keys
  pub came : All (λ row. Contains keys row.key) t.rows
  -- alike keys have equal counts
  pub same : (k other : K) → alike k other ≡ true → count_in alike t.rows k ≡ count_in alike t.rows other

-- a slot and its head, before and after a key came: if they told of some keys, they tell of these with the key behind them
abbrev pub StillTells : {K : Type 0} → (K → K → Bool) → K → List (Row K) → Head → List (Row K) → Head → Type 0
StillTells {K} alike key slot head slot' head' =
    (keys : List K) → length keys + 1 < 2 ^ 32 → Tells alike (room slot) keys (held slot head) → Tells alike (room slot) (keys ++ key ∷ []) (held slot' head')
