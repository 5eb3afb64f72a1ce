-- A sketch of a ladder's window answers what record and tables do. Assumes nothing.
use Rattle.std.proofs.Common.{◌≡◌, ℕ, ◌+◌, Bool, List, sum_by, sym, ap, ◌∙◌, arith}
use Rattle.keeper.specs.Figures.{Figures}
use Rattle.keeper.specs.Listing.{all_keys, listed}
use Rattle.tally.specs.declared.rows.Head.{Head}
use Rattle.tally.specs.declared.rows.Row.{Row}
use Rattle.ladder.specs.declared.sketch.Sketch.{Sketch}
use Rattle.ladder.specs.Ladders.{bracket, listing, shape_at}
use Rattle.ladder.specs.Sketches.{bracket_seen, counted_seen, pieces_seen}
use Rattle.ladder.specs.Sums.{capped, counted, lost, rows_in}
use Rattle.layout.specs.Blocks.{Stretch}
use Rattle.layout.specs.Covers.{cover_of, ignored_of}
use Rattle.tally.specs.Steps.{count_in, Summary}
use Rattle.ladder.proofs.Adding.{sum_of_map}
use Rattle.ladder.proofs.CoverKeys.{keys_of_rows}
use Rattle.ladder.specs.Tables.{tables, tally_at}

module _ {K : Type 0} (alike : K → K → Bool) (sketch : Sketch K) (s : Figures) (rows : List (Row K)) (heads : List Head) where
  abbrev tally : Stretch → Summary K
  tally = tally_at (tables rows heads)

  abbrev blocks : List Stretch
  blocks = cover_of (shape_at s) s.puts s.size

  module _ (same_pieces : pieces_seen sketch ≡ rows_in tally blocks) (same_uncounted : sketch.uncounted ≡ capped (ignored_of (shape_at s) s.puts s.size + lost tally blocks)) where
    pub bracket_is_seen : (key : K) → bracket_seen alike sketch key ≡ bracket alike s rows heads key
    bracket_is_seen key =
        let counts : counted_seen alike sketch key ≡ counted alike tally blocks key = ap (λ pieces. sum_by (λ rs. count_in alike rs key) pieces) same_pieces ∙ sym (sum_of_map (λ b. (tally b).rows) (λ rs. count_in alike rs key) blocks) in
        let ceiling : capped (counted_seen alike sketch key + sketch.uncounted) ≡ capped (counted alike tally blocks key + (lost tally blocks + ignored_of (shape_at s) s.puts s.size)) = omega (arith, counts, same_uncounted) in
        λ i. (capped (counts i), ceiling i)

    pub listing_is_seen : (threshold : ℕ) → listed alike (bracket_seen alike sketch) threshold (all_keys (pieces_seen sketch)) ≡ listing alike s rows heads threshold
    listing_is_seen threshold = λ i. listed alike (λ key. bracket_is_seen key i) threshold ((ap all_keys same_pieces ∙ keys_of_rows tally blocks) i)
