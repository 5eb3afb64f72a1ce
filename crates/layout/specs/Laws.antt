-- What the layout and the cover are good for. Assumes nothing.
use Rattle.std.specs.Prelude.{◌≡◌, ℕ, ◌+◌, ◌-◌, ◌*◌, ◌%◌, ◌^◌, ◌<◌, ◌≤◌, List, [], ◌∷◌, length, sum_by, All}
use Rattle.layout.specs.declared.place.Place.{Place}
use Rattle.layout.specs.Slots.{Shape, block_size, rows_at}
use Rattle.layout.specs.Blocks.{Stretch, size, first, slot_of}
use Rattle.layout.specs.Covers.{scale_of, start_of, end_of}

-- a block of one of the scales and levels that there are
pub record IsBlock (shape : Shape) (b : Stretch) : Type 0 where
  pub top : b.top ≡ shape.top
  pub scale : b.scale < shape.scales
  pub level : b.level ≤ shape.top

-- cell x of a table is one of a slot's, which has `each` cells from `start` on
pub record HasCell (start each : Place → ℕ) (x : ℕ) (place : Place) : Type 0 where
  pub from : start place ≤ x
  pub below : x < start place + each place

-- the blocks' slots fill so many cells: each cell is in a slot, slots that share one are the same, and none goes beyond them
pub record Fill (start each : Place → ℕ) (shape : Shape) (cells : ℕ) : Type 0 where
  pub filled : (x : ℕ) → x < cells → (b : Stretch) × (IsBlock shape b × HasCell start each x (slot_of b))
  pub apart : (x : ℕ) (b c : Stretch) → IsBlock shape b → IsBlock shape c → HasCell start each x (slot_of b) → HasCell start each x (slot_of c) → slot_of b ≡ slot_of c
  pub within : (b : Stretch) → IsBlock shape b → start (slot_of b) + each (slot_of b) ≤ cells

-- they fill so many rows, and so many heads
abbrev pub FillRows : Shape → ℕ → Type 0
FillRows shape rows = Fill (λ p. p.start) (λ p. p.rows) shape rows

abbrev pub FillHeads : Shape → ℕ → Type 0
FillHeads shape heads = Fill (λ p. p.head) (λ p. 1) shape heads

-- a block that arrival m falls into
pub record IsVisit (shape : Shape) (m : ℕ) (b : Stretch) : Type 0 where
  pub there : IsBlock shape b
  pub from : first b ≤ m
  pub below : m < first b + size b

-- how many keys the longest windows have
abbrev pub longest : Shape → ℕ
longest shape = 2 ^ (shape.top + (shape.scales - 1))

-- the newest n of m arrivals can be a window
pub record IsWindow (shape : Shape) (m n : ℕ) : Type 0 where
  pub come : n ≤ m
  pub short : n ≤ longest shape

-- scale i is for windows of n keys, and no smaller scale is
pub record IsScaleFor (shape : Shape) (n i : ℕ) : Type 0 where
  pub there : i < shape.scales
  pub long : n ≤ 2 ^ (shape.top + i)
  pub least : (h : ℕ) → h < i → 2 ^ (shape.top + h) < n

-- p is the first multiple of a smallest block of scale i from where the newest n of m arrivals begin, and q the last up to where they end
pub record AreEnds (i m n p q : ℕ) : Type 0 where
  pub ordered : p ≤ q
  pub from : m - n ≤ p
  pub near : p < m - n + 2 ^ i
  pub to : q ≤ m
  pub close : m < q + 2 ^ i
  pub start : p % 2 ^ i ≡ 0
  pub end : q % 2 ^ i ≡ 0

-- blocks one behind the other, from arrival p to arrival q
abbrev pub Adjacent : ℕ → ℕ → List Stretch → Type 0
Adjacent p q [] = p ≡ q
Adjacent p q (b ∷ bs) = (first b ≡ p) × Adjacent (p + size b) q bs

-- a block can answer for the newest n of m arrivals: it lies inside them, all its arrivals have come, and no block that began later has taken its slot
pub record CanAnswer (shape : Shape) (m n : ℕ) (b : Stretch) : Type 0 where
  pub inside : m - n ≤ first b
  pub complete : first b + size b ≤ m
  pub kept : (c : Stretch) → IsBlock shape c → slot_of c ≡ slot_of b → first c < m → first c ≤ first b

-- no larger block could have started in its place and ended by arrival q
abbrev pub IsLargest : ℕ → Stretch → Type 0
IsLargest q b = (j : ℕ) → b.level < j → j ≤ b.top → first b % block_size b.scale j ≡ 0 → q < first b + block_size b.scale j

-- blocks from p to q, and so many ignored arrivals, are a cover of the newest n of m arrivals
pub record IsCoverFrom (shape : Shape) (m n p q : ℕ) (blocks : List Stretch) (ignored : ℕ) : Type 0 where
  pub ends : AreEnds (scale_of shape n) m n p q
  pub adjacent : Adjacent p q blocks
  pub there : All (IsBlock shape) blocks
  pub one_scale : All (λ b. b.scale ≡ scale_of shape n) blocks
  pub answer : All (CanAnswer shape m n) blocks
  pub largest : All (IsLargest q) blocks
  pub few : length blocks ≤ 2 * (shape.top + 1)
  pub whole : ignored + sum_by size blocks ≡ n

-- from where a cover begins to where it ends
abbrev pub IsCover : Shape → ℕ → ℕ → List Stretch → ℕ → Type 0
IsCover shape m n blocks ignored = IsCoverFrom shape m n (start_of (scale_of shape n) m n) (end_of (scale_of shape n) m) blocks ignored

-- a block lost at most one for each R + 1 of its arrivals, where R is the rows of its slot
abbrev pub LosesLittle : (Stretch → ℕ) → Stretch → Type 0
LosesLittle lost b = lost b * (rows_at b.top b.level + 1) ≤ size b

-- how far a count can be off: by what the cover ignores, and by what its blocks lost
pub record IsNear (shape : Shape) (n : ℕ) (blocks : List Stretch) (ignored : ℕ) : Type 0 where
  -- less than n / 2^a, at the accuracy a
  pub near : (a : ℕ) → shape.top ≡ a + 3 → (lost : Stretch → ℕ) → All (LosesLittle lost) blocks → 1 ≤ n → 2 ^ a * (ignored + sum_by lost blocks) < n
  -- by nothing, at the smallest scale
  pub exact : scale_of shape n ≡ 0 → (lost : Stretch → ℕ) → All (LosesLittle lost) blocks → (ignored ≡ 0) × (sum_by lost blocks ≡ 0)
