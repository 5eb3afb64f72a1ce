-- Exactly what a ladder answers that is true to a window: by the keys that came, and by no table. Assumes nothing.
use Rattle.std.specs.Prelude.{◌≡◌, ℕ, ◌+◌, Bool, List, ◌++◌, length}
use Rattle.keeper.specs.declared.entry.Entry.{Entry}
use Rattle.keeper.specs.Figures.{Figures}
use Rattle.keeper.specs.Rules.{TrueTo}
use Rattle.tally.specs.declared.rows.Head.{Head}
use Rattle.tally.specs.declared.rows.Row.{Row}
use Rattle.layout.specs.Slots.{shape_of}
use Rattle.ladder.specs.Ladders.{bracket, listing}
use Rattle.ladder.specs.Sums.{bracket_of, listing_of}
use Rattle.ladder.specs.Truth.{block_tally, HoldsWindow}

module _ {K : Type 0} (alike : K → K → Bool) (a k : ℕ) (past window : List K) where
  -- the bracket of a key, and the entries at a threshold, from the Misra-Gries tallies of the blocks that cover the window
  abbrev pub counts : K → ℕ × ℕ
  counts key = bracket_of alike (block_tally alike (past ++ window)) (shape_of a k) (length past + length window) (length window) key

  abbrev pub lists : ℕ → List (Entry K)
  lists threshold = listing_of alike (block_tally alike (past ++ window)) (shape_of a k) (length past + length window) (length window) threshold

module _ {K : Type 0} (alike : K → K → Bool) (s : Figures) (rows : List (Row K)) (heads : List Head) where
  -- what is answered of the tables is just that, whatever window they are true to
  abbrev pub CountsExactly : K → Type 0
  CountsExactly key = (past window : List K) → TrueTo (λ f. f) (HoldsWindow alike) s rows heads past window → bracket alike s rows heads key ≡ counts alike s.accuracy s.span past window key

  abbrev pub ListsExactly : ℕ → Type 0
  ListsExactly threshold = (past window : List K) → TrueTo (λ f. f) (HoldsWindow alike) s rows heads past window → listing alike s rows heads threshold ≡ lists alike s.accuracy s.span past window threshold
