-- When tables are true to what came: each slot holds the tally of its newest block. Assumes nothing.
use Rattle.std.specs.Prelude.{◌≡◌, ℕ, ◌+◌, ◌<◌, ◌≤◌, Bool, List, ◌++◌, length, take, drop}
use Rattle.keeper.specs.Figures.{Figures, most_puts}
use Rattle.tally.specs.declared.rows.Head.{Head}
use Rattle.tally.specs.declared.rows.Row.{Row}
use Rattle.tally.specs.Slots.{head_of}
use Rattle.tally.specs.Steps.{Summary, run}
use Rattle.layout.specs.Slots.{Shape, rows_at, shape_of}
use Rattle.layout.specs.Blocks.{Stretch, first, size, slot_of}
use Rattle.layout.specs.Inside.{IsShape}
use Rattle.layout.specs.Laws.{IsBlock, longest}
use Rattle.ladder.specs.Tables.{head_at, Tables, tables, tally_at}

-- the keys of a block among all arrivals, as far as they have come
abbrev pub keys_of : {K : Type 0} → List K → Stretch → List K
keys_of arrivals b = take (size b) (drop (first b) arrivals)

-- their Misra-Gries tally, in as many rows as the block's slot has
abbrev pub block_tally : {K : Type 0} → (K → K → Bool) → List K → Stretch → Summary K
block_tally alike arrivals b = run alike (rows_at b.top b.level) (keys_of arrivals b)

-- a block has begun, and none that uses its slot began later
pub record IsNewest (shape : Shape) (m : ℕ) (b : Stretch) : Type 0 where
  pub there : IsBlock shape b
  pub begun : first b < m
  pub newest : (c : Stretch) → IsBlock shape c → slot_of c ≡ slot_of b → first c < m → first c ≤ first b

-- a block's slot holds exactly a tally: the rows in use are the tally's, with their counts and in their order, and the head says how many they are and what was lost
abbrev pub Holds : {K : Type 0} → Tables K → Stretch → Summary K → Type 0
Holds t b tally = (tally_at t b ≡ tally) × (head_at t b ≡ head_of tally)

-- each slot that a block has begun holds the tally of its newest block
abbrev pub HoldsTallies : {K : Type 0} → (K → K → Bool) → Shape → Tables K → List K → Type 0
HoldsTallies alike shape t arrivals = (b : Stretch) → IsNewest shape (length arrivals) b → Holds t b (block_tally alike arrivals b)

-- record and tables of a ladder are true to a window, after a past
pub record HoldsWindow {K : Type 0} (alike : K → K → Bool) (s : Figures) (rows : List (Row K)) (heads : List Head) (past window : List K) : Type 0 where
  pub levels : IsShape (shape_of s.accuracy s.span).top (shape_of s.accuracy s.span).scales
  pub short : length window ≤ longest (shape_of s.accuracy s.span)
  pub few : length past + length window ≤ most_puts
  pub tallies : HoldsTallies alike (shape_of s.accuracy s.span) (tables rows heads) (past ++ window)
