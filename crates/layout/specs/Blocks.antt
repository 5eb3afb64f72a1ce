-- The blocks of arrivals, and those that an arrival falls into. Assumes nothing.
--
-- Arrivals are numbered from 0, in the order in which they came. Block b of a level holds as many arrivals in a row as a block of that level does, b such blocks having come before it.
use Rattle.std.specs.Prelude.{ℕ, ◌+◌, ◌-◌, ◌*◌, ◌/◌, ◌%◌, if◌then◌else◌, List, [], ◌++◌, map, flat_map, nat_lt}
use Rattle.std.specs.List.{range_with_len}
use Rattle.layout.specs.declared.place.Place.{Place}
use Rattle.layout.specs.Slots.{Shape, block_size, slots_at, slot_at}

-- a block of a level of a scale, in a ladder whose last level is `top`
pub record Stretch : Type 0 where
  pub top : ℕ
  pub scale : ℕ
  pub level : ℕ
  pub number : ℕ

-- how many arrivals it holds, and the first of them
abbrev pub size : Stretch → ℕ
size b = block_size b.scale b.level

abbrev pub first : Stretch → ℕ
first b = b.number * size b

-- the slot that it uses: a level's blocks take its slots in turn
abbrev pub slot_of : Stretch → Place
slot_of b = slot_at b.top b.scale b.level (b.number % slots_at b.top b.level)

-- the block of level j of scale i that arrival m falls into
abbrev pub block_of : ℕ → ℕ → ℕ → ℕ → Stretch
block_of top m i j = record { top = top; scale = i; level = j; number = m / block_size i j }

-- those of n levels, from j on
abbrev pub blocks_from : ℕ → ℕ → ℕ → ℕ → ℕ → List Stretch
blocks_from top m i j n = map (block_of top m i) (range_with_len j n)

-- those of all levels of n scales, from i on
abbrev pub scales_from : ℕ → ℕ → ℕ → ℕ → List Stretch
scales_from top m i n = flat_map (λ i. blocks_from top m i 0 (top + 1)) (range_with_len i n)

-- the blocks that arrival m falls into: one at each level of each scale, by scale and then by level
abbrev pub visits_of : Shape → ℕ → List Stretch
visits_of shape m = scales_from shape.top m 0 shape.scales

-- those that are left of them, from level j of scale i on
abbrev pub visits_left : ℕ → ℕ → ℕ → ℕ → ℕ → List Stretch
visits_left top scales m i j =
    if nat_lt i scales then blocks_from top m i j (top + 1 - j) ++ scales_from top m (i + 1) (scales - (i + 1))
    else []
