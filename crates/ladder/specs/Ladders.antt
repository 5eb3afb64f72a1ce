-- What a ladder's record and tables answer; the record is seen as its figures. Assumes nothing.
use Rattle.std.specs.Prelude.{ℕ, Bool, List}
use Rattle.keeper.specs.declared.entry.Entry.{Entry}
use Rattle.keeper.specs.declared.lengths.Lengths.{Lengths}
use Rattle.keeper.specs.Figures.{Figures}
use Rattle.tally.specs.declared.rows.Head.{Head}
use Rattle.tally.specs.declared.rows.Row.{Row}
use Rattle.layout.specs.Slots.{all_heads, all_rows, Shape, shape_of}
use Rattle.ladder.specs.Sums.{bracket_of, listing_of}
use Rattle.ladder.specs.Tables.{put_tables, Tables, tables, tally_at}

-- the rows and heads of all slots
abbrev pub need_of : ℕ → ℕ → Lengths
need_of a k = record { rows = all_rows (shape_of a k); heads = all_heads (shape_of a k) }

-- where its tallies lie
abbrev pub shape_at : Figures → Shape
shape_at s = shape_of s.accuracy s.span

module _ {K : Type 0} (alike : K → K → Bool) (s : Figures) (rows : List (Row K)) (heads : List Head) where
  -- the tables after a put that was accepted
  abbrev pub stored : K → Tables K
  stored key = put_tables alike s.puts key (shape_at s) (tables rows heads)

  -- the answers, from the tallies in the tables
  abbrev pub bracket : K → ℕ × ℕ
  bracket key = bracket_of alike (tally_at (tables rows heads)) (shape_at s) s.puts s.size key

  abbrev pub listing : ℕ → List (Entry K)
  listing threshold = listing_of alike (tally_at (tables rows heads)) (shape_at s) s.puts s.size threshold
