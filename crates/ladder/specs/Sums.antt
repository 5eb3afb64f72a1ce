-- What tallies of blocks say of a window: `tally` has one for each block. Assumes nothing.
use Rattle.std.specs.Prelude.{ℕ, ◌+◌, min, Bool, List, map, flat_map, sum_by}
use Rattle.keeper.specs.declared.entry.Entry.{Entry}
use Rattle.keeper.specs.Listing.{listed}
use Rattle.tally.specs.declared.rows.Row.{Row}
use Rattle.tally.specs.Steps.{Summary, count_in}
use Rattle.layout.specs.Slots.{Shape}
use Rattle.layout.specs.Blocks.{Stretch}
use Rattle.layout.specs.Covers.{cover_of, ignored_of}

-- floors and ceilings have 32 bits, and stop at the highest number
abbrev pub capped : ℕ → ℕ
capped n = min n 4294967295

module _ {K : Type 0} (tally : Stretch → Summary K) where
  -- what blocks lost, their rows in use, and the keys in these, block after block
  abbrev pub lost : List Stretch → ℕ
  lost blocks = sum_by (λ b. (tally b).lost) blocks

  abbrev pub rows_in : List Stretch → List (List (Row K))
  rows_in blocks = map (λ b. (tally b).rows) blocks

  abbrev pub keys_in : List Stretch → List K
  keys_in blocks = flat_map (λ b. map (λ row. row.key) (tally b).rows) blocks

module _ {K : Type 0} (alike : K → K → Bool) (tally : Stretch → Summary K) where
  -- what blocks count of a key
  abbrev pub counted : List Stretch → K → ℕ
  counted blocks k = sum_by (λ b. count_in alike (tally b).rows k) blocks

  -- the bracket of a key from blocks, and from what they leave out of a window
  abbrev pub bracket_from : List Stretch → ℕ → K → ℕ × ℕ
  bracket_from blocks ignored k = (capped (counted blocks k), capped (counted blocks k + (lost tally blocks + ignored)))

  -- for the newest n of m arrivals: from their cover
  abbrev pub bracket_of : Shape → ℕ → ℕ → K → ℕ × ℕ
  bracket_of shape m n k = bracket_from (cover_of shape m n) (ignored_of shape m n) k

  -- a list names the keys in the cover's rows by their first places, if their ceilings reach the threshold
  abbrev pub listing_of : Shape → ℕ → ℕ → ℕ → List (Entry K)
  listing_of shape m n threshold = listed alike (bracket_of shape m n) threshold (keys_in tally (cover_of shape m n))
