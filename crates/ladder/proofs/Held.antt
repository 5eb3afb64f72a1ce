-- Tables that are true to what came answer as the tallies of the arrivals do, and so rightly. Assumes nothing, but that alike is an equivalence.
use Rattle.std.proofs.Common.{◌≡◌, ℕ, ◌+◌, ◌-◌, ◌*◌, ◌^◌, ◌<◌, ◌≤◌, min, Bool, true, false, List, [], ◌∷◌, ◌++◌, All, map, length, drop, slice_index_or, refl, ap, ◌∙◌, sym, subst, length-append, arith}
use Rattle.std.proofs.lemmas.Bool.Decides.{nat_tests}
use Rattle.std.proofs.lemmas.List.Elements.{All-head, All-tail}
use Rattle.std.proofs.lemmas.List.Concat.{flat_map-cons}
use Rattle.std.proofs.lemmas.List.Sums.{sum_by-cons}
use Rattle.std.proofs.lemmas.Nat.{pow_pos}
use Rattle.std.proofs.Math.Seq.{drop-append_seam}
use Rattle.keeper.specs.Figures.{Figures}
use Rattle.keeper.specs.Listing.{listed}
use Rattle.keeper.specs.Refusals.{unfit}
use Rattle.keeper.specs.Rules.{Bracket, Lists}
use Rattle.likeness.specs.Counts.{true_count}
use Rattle.tally.specs.declared.rows.Head.{Head}
use Rattle.tally.specs.declared.rows.Row.{Row}
use Rattle.tally.specs.Steps.{Summary, count_in}
use Rattle.layout.specs.Slots.{Shape}
use Rattle.layout.specs.Blocks.{Stretch, first, size as size_of}
use Rattle.layout.specs.Covers.{cover_of, ignored_of}
use Rattle.layout.specs.Laws.{CanAnswer, IsBlock, IsWindow}
use Rattle.layout.proofs.CoverLaws.{cover_is, cover_is_near}
use Rattle.ladder.specs.Exact.{counts, lists}
use Rattle.ladder.specs.Ladders.{bracket, listing, shape_at}
use Rattle.ladder.specs.Sums.{bracket_of, counted, keys_in, listing_of, lost}
use Rattle.ladder.specs.Tables.{tables, tally_at}
use Rattle.ladder.specs.Truth.{HoldsWindow, IsNewest, block_tally}
use Rattle.ladder.proofs.Covering.{bracket_right, counted_alike}
use Rattle.ladder.proofs.Naming.{names_right}

-- tallies that are the same at each block
module _ {K : Type 0} (alike : K → K → Bool) (tally other : Stretch → Summary K) where
  counted_by_both : (bs : List Stretch) → All (λ b. tally b ≡ other b) bs → (k : K) → counted alike tally bs k ≡ counted alike other bs k
  counted_by_both [] same k = refl
  counted_by_both (b ∷ bs) same k =
      let here = ap (λ (t : Summary K). count_in alike t.rows k) (All-head (λ c. tally c ≡ other c) b bs same) in
      omega (arith, sum_by-cons (λ c. count_in alike (tally c).rows k) b bs, sum_by-cons (λ c. count_in alike (other c).rows k) b bs, here, counted_by_both bs (All-tail (λ c. tally c ≡ other c) b bs same) k)

  lost_by_both : (bs : List Stretch) → All (λ b. tally b ≡ other b) bs → lost tally bs ≡ lost other bs
  lost_by_both [] same = refl
  lost_by_both (b ∷ bs) same =
      let here = ap (λ (t : Summary K). t.lost) (All-head (λ c. tally c ≡ other c) b bs same) in
      omega (arith, sum_by-cons (λ c. (tally c).lost) b bs, sum_by-cons (λ c. (other c).lost) b bs, here, lost_by_both bs (All-tail (λ c. tally c ≡ other c) b bs same))

  keys_in_both : (bs : List Stretch) → All (λ b. tally b ≡ other b) bs → keys_in tally bs ≡ keys_in other bs
  keys_in_both [] same = refl
  keys_in_both (b ∷ bs) same =
      let here = ap (λ (t : Summary K). map (λ row. row.key) t.rows) (All-head (λ c. tally c ≡ other c) b bs same) in
      let rest = keys_in_both bs (All-tail (λ c. tally c ≡ other c) b bs same) in
      flat_map-cons (λ c. map (λ row. row.key) (tally c).rows) b bs ∙ (λ i. here i ++ rest i) ∙ sym (flat_map-cons (λ c. map (λ row. row.key) (other c).rows) b bs)

  module _ (shape : Shape) (m n : ℕ) (same : All (λ b. tally b ≡ other b) (cover_of shape m n)) where
    bracket_by_both : (k : K) → bracket_of alike tally shape m n k ≡ bracket_of alike other shape m n k
    bracket_by_both k =
        let counts = counted_by_both (cover_of shape m n) same k in
        let losses = lost_by_both (cover_of shape m n) same in
        λ i. (min (counts i) 4294967295, min (counts i + (losses i + ignored_of shape m n)) 4294967295)

    listing_by_both : (threshold : ℕ) → listing_of alike tally shape m n threshold ≡ listing_of alike other shape m n threshold
    listing_by_both threshold = λ i. listed alike (λ k. bracket_by_both k i) threshold (keys_in_both (cover_of shape m n) same i)

-- a block that can answer is the newest of its slot
newest_can : (shape : Shape) (m n : ℕ) (b : Stretch) → IsBlock shape b → CanAnswer shape m n b → IsNewest shape m b
newest_can shape m n b is can = record { there = is; begun = omega (arith, can.complete, pow_pos (b.scale + b.level)); newest = can.kept }

-- A ladder and tables that are true to a window.
module _ {K : Type 0} (alike : K → K → Bool) (s : Figures) (rows : List (Row K)) (heads : List Head) (past window : List K)
    (held : HoldsWindow alike s rows heads past window) (size : s.size ≡ length window) (puts : s.puts ≡ length past + length window) where
  fits : IsWindow (shape_at s) s.puts s.size
  fits = record { come = omega (arith, size, puts); short = omega (arith, size, held.short) }

  abbrev arrivals : List K
  arrivals = past ++ window

  came : length arrivals ≡ s.puts
  came = length-append past window ∙ sym puts

  -- the slots of the cover hold the tallies of their blocks
  covered : All (λ b. tally_at (tables rows heads) b ≡ block_tally alike arrivals b) (cover_of (shape_at s) s.puts s.size)
  covered i d lo =
      let cover = cover_is (shape_at s) s.puts s.size held.levels fits in
      let b = slice_index_or (cover_of (shape_at s) s.puts s.size) i d in
      (held.tallies b (subst (λ m. IsNewest (shape_at s) m b) (sym came) (newest_can (shape_at s) s.puts s.size b (cover.there i d lo) (cover.answer i d lo)))).0

  bracket_held : (k : K) → bracket alike s rows heads k ≡ bracket_of alike (block_tally alike arrivals) (shape_at s) s.puts s.size k
  bracket_held k = bracket_by_both alike (tally_at (tables rows heads)) (block_tally alike arrivals) (shape_at s) s.puts s.size covered k

  listing_held : (threshold : ℕ) → listing alike s rows heads threshold ≡ listing_of alike (block_tally alike arrivals) (shape_at s) s.puts s.size threshold
  listing_held threshold = listing_by_both alike (tally_at (tables rows heads)) (block_tally alike arrivals) (shape_at s) s.puts s.size covered threshold

  -- so the tables answer what follows from the keys
  pub counts_exactly : (k : K) → bracket alike s rows heads k ≡ counts alike s.accuracy s.span past window k
  counts_exactly k = bracket_held k ∙ (λ i. bracket_of alike (block_tally alike arrivals) (shape_at s) (puts i) (size i) k)

  pub lists_exactly : (threshold : ℕ) → listing alike s rows heads threshold ≡ lists alike s.accuracy s.span past window threshold
  lists_exactly threshold = listing_held threshold ∙ (λ i. listing_of alike (block_tally alike arrivals) (shape_at s) (puts i) (size i) threshold)

  module _ (self : (x : K) → alike x x ≡ true) (symm : (x y : K) → alike x y ≡ true → alike y x ≡ true) (tran : (x y z : K) → alike x y ≡ true → alike y z ≡ true → alike x z ≡ true) where
    small : length arrivals < 4294967296
    small = omega (arith, came, puts, held.few)

    enough : s.size ≤ length arrivals
    enough = omega (arith, came, fits.come)

    window_is : drop (length arrivals - s.size) arrivals ≡ window
    window_is =
        let before : length arrivals - s.size ≡ length past = omega (arith, came, size, puts) in
        ap (λ n. drop n arrivals) before ∙ drop-append_seam past window

    fits_now : IsWindow (shape_at s) (length arrivals) s.size
    fits_now = subst (λ m. IsWindow (shape_at s) m s.size) (sym came) fits

    pub bracket_is_right : (k : K) → Bracket s.accuracy (length window) (true_count alike window k) (bracket alike s rows heads k)
    bracket_is_right k =
        let cover = cover_is (shape_at s) (length arrivals) s.size held.levels fits_now in
        let near = cover_is_near (shape_at s) (length arrivals) s.size held.levels fits_now in
        let right = bracket_right alike arrivals k symm tran small (shape_at s) s.size s.accuracy enough refl cover near in
        rw (bracket_held k)
        (subst (λ m. Bracket s.accuracy (length window) (true_count alike window k) (bracket_of alike (block_tally alike arrivals) (shape_at s) m s.size k)) came
        (subst (λ n. Bracket s.accuracy n (true_count alike window k) (bracket_of alike (block_tally alike arrivals) (shape_at s) (length arrivals) s.size k)) size
        (subst (λ ks. Bracket s.accuracy s.size (true_count alike ks k) (bracket_of alike (block_tally alike arrivals) (shape_at s) (length arrivals) s.size k)) window_is right)))

    pub listing_is_right : (threshold : ℕ) → unfit s threshold ≡ false → Lists alike s.accuracy threshold window (listing alike s rows heads threshold)
    listing_is_right threshold fit =
        let cover = cover_is (shape_at s) (length arrivals) s.size held.levels fits_now in
        let near = cover_is_near (shape_at s) (length arrivals) s.size held.levels fits_now in
        let some : 1 ≤ threshold = grind (arith, nat_tests) in
        let reach : s.size ≤ threshold * 2 ^ s.accuracy = grind (arith, nat_tests) in
        let right = names_right alike self symm tran arrivals small (shape_at s) s.size s.accuracy enough refl cover near threshold some reach in
        rw (listing_held threshold)
        (subst (λ m. Lists alike s.accuracy threshold window (listing_of alike (block_tally alike arrivals) (shape_at s) m s.size threshold)) came
        (subst (λ ks. Lists alike s.accuracy threshold ks (listing_of alike (block_tally alike arrivals) (shape_at s) (length arrivals) s.size threshold)) window_is right))

    -- alike keys have the same bracket
    pub bracket_alike : (k other : K) → alike k other ≡ true → bracket alike s rows heads other ≡ bracket alike s rows heads k
    bracket_alike k other near =
        let cover = cover_is (shape_at s) s.puts s.size held.levels fits in
        let complete : All (λ b. first b + size_of b ≤ length arrivals) (cover_of (shape_at s) s.puts s.size) = λ i d lo. omega (arith, came, (cover.answer i d lo).complete) in
        let counts = counted_alike alike arrivals k symm tran small other near (cover_of (shape_at s) s.puts s.size) complete in
        let losses = lost (block_tally alike arrivals) (cover_of (shape_at s) s.puts s.size) in
        let ignored = ignored_of (shape_at s) s.puts s.size in
        bracket_held other ∙ (λ i. (min (counts i) 4294967295, min (counts i + (losses + ignored)) 4294967295)) ∙ sym (bracket_held k)
