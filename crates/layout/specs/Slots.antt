-- Where the slots of a ladder lie in its two tables. Assumes nothing.
--
-- `top` is the number of a scale's last level: the accuracy and 3 more. Scales are counted from 0: scale i answers for windows of up to 2^(top + i) keys, and its smallest blocks hold 2^i arrivals each.
use Rattle.std.specs.Prelude.{ℕ, zero, suc, ◌+◌, ◌-◌, ◌*◌, ◌^◌}
use Rattle.layout.specs.declared.place.Place.{Place}

-- the levels and scales of a ladder
pub record Shape : Type 0 where
  pub top : ℕ
  pub scales : ℕ

-- the shape at accuracy a and span k: a scale each for windows of up to 2^(a + 3), .., 2^k keys
abbrev pub shape_of : ℕ → ℕ → Shape
shape_of a k = record { top = a + 3; scales = k - (a + 2) }

-- one level of one scale
pub record Rung : Type 0 where
  pub top : ℕ
  pub scale : ℕ
  pub number : ℕ

-- the arrivals in a block of level j of scale i
abbrev pub block_size : ℕ → ℕ → ℕ
block_size i j = 2 ^ (i + j)

-- the slots of level j: one more than the blocks of that level in the scale's longest window
abbrev pub slots_at : ℕ → ℕ → ℕ
slots_at top j = 2 ^ (top - j) + 1

-- the rows of each of them
abbrev pub rows_at : ℕ → ℕ → ℕ
rows_at top j = 2 ^ j * (top + 1) - 1

-- the rows and the heads of one scale
abbrev pub scale_rows : ℕ → ℕ
scale_rows top = (top + 1) ^ 2 * 2 ^ top + top * 2 ^ (top + 1) - (2 * top + 1)

abbrev pub scale_heads : ℕ → ℕ
scale_heads top = 2 ^ (top + 1) + top

-- what the levels below j take of a table, where each slot of a level takes so many cells: level after level, and in each slot after slot
abbrev pub cells_below : (ℕ → ℕ) → ℕ → ℕ → ℕ
cells_below each top zero = 0
cells_below each top (suc j) = cells_below each top j + slots_at top j * each j

-- the rows and the heads of the levels below j of one scale: a slot has one head
abbrev pub rows_below : ℕ → ℕ → ℕ
rows_below top j = cells_below (rows_at top) top j

abbrev pub heads_below : ℕ → ℕ → ℕ
heads_below top j = cells_below (λ j. 1) top j

-- slot s of level j of scale i
abbrev pub slot_at : ℕ → ℕ → ℕ → ℕ → Place
slot_at top i j s = record {
  start = i * scale_rows top + rows_below top j + s * rows_at top j;
  rows = rows_at top j;
  head = i * scale_heads top + heads_below top j + s;
}

-- the rows and the heads of all scales
abbrev pub all_rows : Shape → ℕ
all_rows shape = shape.scales * scale_rows shape.top

abbrev pub all_heads : Shape → ℕ
all_heads shape = shape.scales * scale_heads shape.top
