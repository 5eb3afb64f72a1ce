-- A window as the tallies of its cover have it. Assumes nothing.
use Rattle.std.specs.Prelude.{ℕ, ◌+◌, Bool, List, map, sum_by, take}
use Rattle.tally.specs.declared.rows.Row.{Row}
use Rattle.tally.specs.Steps.{count_in}
use Rattle.ladder.specs.declared.sketch.Sketch.{Sketch}
use Rattle.ladder.specs.Sums.{capped}

-- the rows in use of its blocks' slots, oldest block first
abbrev pub pieces_seen : {K : Type 0} → Sketch K → List (List (Row K))
pieces_seen s = map (λ rows. rows.now) (take s.count s.pieces)

-- what the slots count of a key
abbrev pub counted_seen : {K : Type 0} → (K → K → Bool) → Sketch K → K → ℕ
counted_seen alike s k = sum_by (λ rows. count_in alike rows k) (pieces_seen s)

-- the bracket of a key
abbrev pub bracket_seen : {K : Type 0} → (K → K → Bool) → Sketch K → K → ℕ × ℕ
bracket_seen alike s k = (capped (counted_seen alike s k), capped (counted_seen alike s k + s.uncounted))
