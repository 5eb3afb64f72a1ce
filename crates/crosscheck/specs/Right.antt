-- When the ladder's answers are right, beside those of the ring, which counts exactly. Assumes nothing.
use Rattle.std.specs.Prelude.{◌≡◌, ℕ, ◌-◌, ◌*◌, ◌^◌, ◌<◌, ◌≤◌}
use Rattle.keeper.specs.declared.entry.Entry.{Entry}
use Rattle.keeper.specs.Listing.{bracket_in}
use Rattle.keeper.specs.Rules.{Bracket}
use Rattle.crosscheck.specs.declared.counted.Counted.{Counted}

-- a count: the ring is sure of it, and the ladder's bracket is one that a keeper may answer
pub record IsRight (a : ℕ) (c : Counted) : Type 0 where
  pub sure : c.exact.0 ≡ c.exact.1
  pub bracket : Bracket a c.size c.exact.0 c.bracket

-- an entry of a list at a threshold, by the counts of its key: it has the bracket of the ladder's count, and its key stands in the window and is not far below the threshold
pub record IsRightEntry {K : Type 0} (a threshold : ℕ) (c : Counted) (e : Entry K) : Type 0 where
  pub count : IsRight a c
  pub same : bracket_in e ≡ c.bracket
  pub stands : 1 ≤ c.exact.0
  pub near : 2 ^ a * (threshold - c.exact.0) < c.size
