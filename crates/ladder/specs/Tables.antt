-- What lies in a ladder's two tables, slot by slot, whatever they hold. Assumes nothing.
use Rattle.std.specs.Prelude.{◌≡◌, ℕ, ◌+◌, ◌<◌, ◌≤◌, Bool, if◌then◌else◌, List, ◌++◌, length, take, drop, get_or, fold, slice_set, ◌==◌}
use Rattle.tally.specs.declared.rows.Head.{Head}
use Rattle.tally.specs.declared.rows.Row.{Row}
use Rattle.tally.specs.Slots.{held, head_of, over, stepped}
use Rattle.tally.specs.Steps.{Summary}
use Rattle.layout.specs.declared.place.Place.{Place}
use Rattle.layout.specs.Slots.{all_heads, all_rows, Shape}
use Rattle.layout.specs.Blocks.{Stretch, first, slot_of, visits_of}
use Rattle.layout.specs.Laws.{IsBlock, IsVisit}

-- the row table and the head table
pub record Tables (K : Type 0) : Type 0 where
  pub rows : List (Row K)
  pub heads : List Head

-- no rows in use, and nothing lost
abbrev pub empty_head : Head
empty_head = record { used = 0; lost = 0 }

-- the elements of a slot in a table, and the table with others in their place
abbrev pub part : {X : Type 0} → Place → List X → List X
part place xs = take place.rows (drop place.start xs)

abbrev pub with_part : {X : Type 0} → Place → List X → List X → List X
with_part place ys xs = take place.start xs ++ (ys ++ drop place.rows (drop place.start xs))

-- a slot lies in the tables
pub record Lies {K : Type 0} (place : Place) (rows : List (Row K)) (heads : List Head) : Type 0 where
  pub rows_there : place.start + place.rows ≤ length rows
  pub head_there : place.head < length heads

-- all slots do
pub record HasRoom {K : Type 0} (shape : Shape) (rows : List (Row K)) (heads : List Head) : Type 0 where
  pub enough_rows : all_rows shape ≤ length rows
  pub enough_heads : all_heads shape ≤ length heads

module _ {K : Type 0} where
  -- both of them
  abbrev pub tables : List (Row K) → List Head → Tables K
  tables rows heads = record { rows = rows; heads = heads }

  -- the rows and the head of a block's slot, and the tally there
  abbrev pub rows_of : Tables K → Stretch → List (Row K)
  rows_of t b = part (slot_of b) t.rows

  abbrev pub head_at : Tables K → Stretch → Head
  head_at t b = get_or t.heads (slot_of b).head empty_head

  abbrev pub tally_at : Tables K → Stretch → Summary K
  tally_at t b = held (rows_of t b) (head_at t b)

  module _ (alike : K → K → Bool) (m : ℕ) (key : K) where
    -- the tally of a block's slot after arrival m, which was this key; where it is the block's first, the slot is emptied before
    abbrev pub stepped_at : Tables K → Stretch → Summary K
    stepped_at t b = stepped alike (rows_of t b) (if first b == m then empty_head else head_at t b) key

    -- the slot's rows with that tally in them
    abbrev pub rows_after : Tables K → Stretch → List (Row K)
    rows_after t b = over (stepped_at t b).rows (rows_of t b)

    -- the tables with that slot
    unfoldable pub visited : Tables K → Stretch → Tables K
    visited t b = record {
      rows = with_part (slot_of b) (rows_after t b) t.rows;
      heads = slice_set t.heads (slot_of b).head (head_of (stepped_at t b));
    }

    -- the tables after arrival m, which was this key, was counted at every level of every scale
    abbrev pub put_tables : Shape → Tables K → Tables K
    put_tables shape t = fold visited t (visits_of shape m)

    -- the blocks that the arrival falls into take their steps, and every slot that none of them uses stays as it was
    pub record TakesSteps (shape : Shape) (t t' : Tables K) : Type 0 where
      pub steps : (b : Stretch) → IsVisit shape m b → (rows_of t' b ≡ rows_after t b) × (head_at t' b ≡ head_of (stepped_at t b))
      pub stays : (b : Stretch) → IsBlock shape b → ((c : Stretch) → IsVisit shape m c → slot_of c ≡ slot_of b → ⊥) → (rows_of t' b ≡ rows_of t b) × (head_at t' b ≡ head_at t b)
