-- What is always so of the numbers inside a layout, a block and the two walks over blocks. Assumes nothing.
use Rattle.std.specs.Prelude.{◌≡◌, ℕ, ◌+◌, ◌*◌, ◌%◌, ◌^◌, ◌<◌, ◌≤◌}
use Rattle.settings.specs.Chosen.{least_accuracy, most_accuracy, most_span}
use Rattle.layout.specs.Slots.{block_size, scale_rows, scale_heads, rows_below, heads_below}

-- a layout: its last level follows from an accuracy, and the last of its scales from a span
pub record IsShape (top scales : ℕ) : Type 0 where
  pub lowest : least_accuracy + 3 ≤ top
  pub highest : top ≤ most_accuracy + 3
  pub some : 1 ≤ scales
  pub few : top + scales ≤ most_span + 1

-- all its slots take so many rows and heads
pub record Takes (top scales r h : ℕ) : Type 0 where
  pub rows : scales * scale_rows top ≡ r
  pub heads : scales * scale_heads top ≡ h

-- a level j and a scale i of a ladder whose last level is t
pub record IsLevel (t i j : ℕ) : Type 0 where
  pub lowest : least_accuracy + 3 ≤ t
  pub highest : t ≤ most_accuracy + 3
  pub scale : t + i ≤ most_span
  pub level : j ≤ t

-- the slots of that level begin at this row and at this head
pub record Begins (t i j r h : ℕ) : Type 0 where
  pub row : i * scale_rows t + rows_below t j ≡ r
  pub head : i * scale_heads t + heads_below t j ≡ h

-- block b of a level: the number of its first arrival has 32 bits
pub record IsStretch (t i j b : ℕ) : Type 0 where
  pub there : IsLevel t i j
  pub first : b * block_size i j < 2 ^ 32

-- of the blocks of an arrival, those from level j of scale i on are left, of n scales
pub record AreLeft (t n i j : ℕ) : Type 0 where
  pub shape : IsShape t n
  pub scale : i ≤ n
  pub level : j ≤ t

-- a walk from p to q at scale i: both are multiples of its smallest block
pub record IsWalk (t i p q : ℕ) : Type 0 where
  pub there : IsLevel t i 0
  pub ordered : p ≤ q
  pub start : p % 2 ^ i ≡ 0
  pub end : q % 2 ^ i ≡ 0
