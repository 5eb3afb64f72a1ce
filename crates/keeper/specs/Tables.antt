-- How long the lent tables are, and how long they have to be. Assumes nothing.
use Rattle.std.specs.Prelude.{ℕ, Bool, ◌||◌, List, length, nat_lt}
use Rattle.tally.specs.declared.rows.Head.{Head}
use Rattle.tally.specs.declared.rows.Row.{Row}
use Rattle.keeper.specs.declared.lengths.Lengths.{Lengths}
use Rattle.keeper.specs.Figures.{Figures}

-- the lengths of a row table and a head table
abbrev pub lengths : {K : Type 0} → List (Row K) → List Head → Lengths
lengths rows heads = record { rows = length rows; heads = length heads }

-- what a keeper needs of its tables follows from its accuracy and its span
abbrev pub needed : {S : Type 0} → (S → Figures) → (ℕ → ℕ → Lengths) → S → Lengths
needed figures need s = need (figures s).accuracy (figures s).span

-- the lent tables are too short
abbrev pub short : Lengths → Lengths → Bool
short need lent = nat_lt lent.rows need.rows || nat_lt lent.heads need.heads
