-- A list made from the rows of a cover's blocks is right for the window. Assumes nothing, but that alike is an equivalence.
use Rattle.std.proofs.Common.{◌≡◌, ℕ, ◌+◌, ◌-◌, ◌*◌, ◌^◌, ◌<◌, ◌≤◌, Bool, true, false, cond, List, [], ◌∷◌, All, map, flat_map, length, drop, take, slice_index_or, refl, ap, ◌∙◌, subst, mul-le-mul_left, mul_comm, arith}
use Rattle.std.proofs.lemmas.List.{drop-drop, length-drop, take-append-drop}
use Rattle.std.proofs.lemmas.List.Concat.{flat_map-cons}
use Rattle.std.proofs.lemmas.List.Elements.{All-append, All-head, All-map, All-nil, All-tail}
use Rattle.std.proofs.lemmas.List.Sums.{count_by-le-length, sum_by-append, sum_by-cons}
use Rattle.std.proofs.lemmas.List.Folds.{list_any-append}
use Rattle.keeper.specs.Listing.{among}
use Rattle.keeper.specs.Rules.{Lists}
use Rattle.keeper.proofs.Listings.{all_stand, listed_lists}
use Rattle.likeness.specs.Counts.{Stands, true_count}
use Rattle.tally.specs.declared.rows.Row.{Row}
use Rattle.tally.specs.Steps.{count_in, Summary}
use Rattle.layout.specs.Slots.{Shape}
use Rattle.layout.specs.Blocks.{Stretch, first, size}
use Rattle.layout.specs.Covers.{cover_of, ignored_of}
use Rattle.layout.specs.Laws.{CanAnswer, IsCover, IsNear}
use Rattle.ladder.specs.Sums.{bracket_of, counted, keys_in, listing_of, lost}
use Rattle.ladder.specs.Truth.{keys_of, block_tally}
use Rattle.ladder.proofs.Covering.{all_lose_little, block_tells, bracket_right, truly_between}

module _ {K : Type 0} (alike : K → K → Bool) where
  -- a key that is alike to no row's counts nothing
  none_counted : (rows : List (Row K)) (k : K) → among alike (map (λ row. row.key) rows) k ≡ false → count_in alike rows k ≡ 0
  none_counted [] k h = refl
  none_counted (row ∷ rows) k h = let again = none_counted rows k in grind arith

  pub none_in_all : (tally : Stretch → Summary K) (bs : List Stretch) (k : K) → among alike (keys_in tally bs) k ≡ false → counted alike tally bs k ≡ 0
  none_in_all tally [] k h = refl
  none_in_all tally (b ∷ bs) k h =
      let row_keys : Stretch → List K = λ b. map (λ row. row.key) (tally b).rows in
      let both = ap (λ xs. among alike xs k) (flat_map-cons row_keys b bs) ∙ list_any-append (λ x. alike x k) (row_keys b) (flat_map row_keys bs) in
      let here = none_counted (tally b).rows k in
      let rest = none_in_all tally bs k in
      let counts = sum_by-cons (λ c. count_in alike (tally c).rows k) b bs in
      grind arith

  -- what holds of each row's key
  keys_all : (tally : Stretch → Summary K) (P : K → Type 0) (bs : List Stretch) → All (λ b. All (λ row. P row.key) (tally b).rows) bs → All P (keys_in tally bs)
  keys_all tally P [] h = All-nil P
  keys_all tally P (b ∷ bs) h =
      let row_keys : Stretch → List K = λ b. map (λ row. row.key) (tally b).rows in
      rw (flat_map-cons row_keys b bs)
      (All-append P (row_keys b) (flat_map row_keys bs) (All-map P (λ row. row.key) (tally b).rows (All-head (λ c. All (λ row. P row.key) (tally c).rows) b bs h)) (keys_all tally P bs (All-tail (λ c. All (λ row. P row.key) (tally c).rows) b bs h)))

  -- a part counts no more than the whole
  part_counts : (from many : ℕ) (xs : List K) (k : K) → true_count alike (take many (drop from xs)) k ≤ true_count alike xs k
  part_counts from many xs k =
      omega (
        arith,
        sum_by-append (λ x. cond (alike x k) 1 0) (take from xs) (drop from xs),
        ap (λ ys. true_count alike ys k) (take-append-drop from xs),
        sum_by-append (λ x. cond (alike x k) 1 0) (take many (drop from xs)) (drop many (drop from xs)),
        ap (λ ys. true_count alike ys k) (take-append-drop many (drop from xs)),
      )

  module _ (self : (x : K) → alike x x ≡ true) (symm : (x y : K) → alike x y ≡ true → alike y x ≡ true) (tran : (x y z : K) → alike x y ≡ true → alike y z ≡ true → alike x z ≡ true)
      (arrivals : List K) (small : length arrivals < 4294967296) (shape : Shape) (n a : ℕ) (come : n ≤ length arrivals) (accuracy : shape.top ≡ a + 3)
      (cover : IsCover shape (length arrivals) n (cover_of shape (length arrivals) n) (ignored_of shape (length arrivals) n)) (near : IsNear shape n (cover_of shape (length arrivals) n) (ignored_of shape (length arrivals) n)) where
    abbrev blocks : List Stretch
    blocks = cover_of shape (length arrivals) n

    abbrev window : List K
    window = drop (length arrivals - n) arrivals

    long : length window ≡ n
    long = omega (arith, length-drop (length arrivals - n) arrivals, come)

    -- a key of a block is one of the window
    block_stands : (b : Stretch) → CanAnswer shape (length arrivals) n b → All (λ row. Stands alike window row.key) (block_tally alike arrivals b).rows
    block_stands b can i d lo =
        let came = (block_tells alike arrivals d.key symm tran small b can.complete).came i d lo in
        let k = (slice_index_or (block_tally alike arrivals b).rows i d).key in
        let own : Stands alike (keys_of arrivals b) k = subst (Stands alike (keys_of arrivals b)) came.2 (all_stand alike self (keys_of arrivals b) came.0 k came.1) in
        let there : length arrivals - n + (first b - (length arrivals - n)) ≡ first b = omega (arith, can.inside) in
        let inside = part_counts (first b - (length arrivals - n)) (size b) window k in
        omega (arith, own, inside, ap (λ xs. true_count alike (take (size b) xs) k) (drop-drop (first b - (length arrivals - n)) (length arrivals - n) arrivals), ap (λ f. true_count alike (take (size b) (drop f arrivals)) k) there)

    -- a key that counts enough has a row
    enough_named : (threshold : ℕ) → 1 ≤ threshold → n ≤ threshold * 2 ^ a → (k : K) → threshold ≤ true_count alike window k → among alike (keys_in (block_tally alike arrivals) blocks) k ≡ true
    enough_named threshold some reach k enough = ways (among alike (keys_in (block_tally alike arrivals) blocks) k) refl
      where
        ways : (b : Bool) → among alike (keys_in (block_tally alike arrivals) blocks) k ≡ b → b ≡ true
        ways true e = refl
        ways false e =
            let tally = block_tally alike arrivals in
            let none = none_in_all tally blocks k e in
            let says = truly_between alike arrivals k symm tran small shape n a come accuracy cover near in
            let little = all_lose_little alike arrivals k symm tran small blocks (λ i d lo. (cover.answer i d lo).complete) in
            let missed : threshold ≤ ignored_of shape (length arrivals) n + lost tally blocks = omega (arith, none, says.1) in
            let n_some : 1 ≤ n = omega (arith, some, enough, count_by-le-length (λ x. alike x k) window, long) in
            absurd (omega (arith, mul-le-mul_left (2 ^ a) missed, mul_comm (2 ^ a) threshold, near.near a accuracy (λ b. (tally b).lost) little n_some))

    pub names_right : (threshold : ℕ) → 1 ≤ threshold → n ≤ threshold * 2 ^ a → Lists alike a threshold window (listing_of alike (block_tally alike arrivals) shape (length arrivals) n threshold)
    names_right threshold some reach =
        listed_lists alike symm tran a threshold (bracket_of alike (block_tally alike arrivals) shape (length arrivals) n) (keys_in (block_tally alike arrivals) blocks) window
        (λ k. rw long (bracket_right alike arrivals k symm tran small shape n a come accuracy cover near))
        (keys_all (block_tally alike arrivals) (Stands alike window) blocks (λ i d lo. block_stands _ (cover.answer i d lo)))
        (enough_named threshold some reach)
