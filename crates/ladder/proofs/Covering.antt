-- What the tallies of a cover's blocks say of the window. Assumes nothing, but that alike is symmetric and transitive.
use Rattle.std.proofs.Common.{◌≡◌, ℕ, zero, suc, ◌+◌, ◌-◌, ◌^◌, ◌<◌, ◌≤◌, min, Bool, true, List, [], ◌∷◌, All, length, drop, take, sum_by, refl, ap, ◌∙◌, sym, mul-le-mul_left, arith}
use Rattle.std.proofs.lemmas.Bool.Decides.{nat_tests}
use Rattle.std.proofs.lemmas.List.{length-drop, length-take, take-append-drop, take_all}
use Rattle.std.proofs.lemmas.List.Elements.{All-head, All-tail}
use Rattle.std.proofs.lemmas.List.Sums.{count_by-le-length, sum_by-append, sum_by-cons}
use Rattle.std.proofs.Math.Seq.{take-add}
use Rattle.keeper.specs.Rules.{Bracket}
use Rattle.likeness.specs.Counts.{true_count}
use Rattle.tally.specs.Laws.{Tells}
use Rattle.tally.specs.Steps.{count_in}
use Rattle.tally.proofs.Tellings.{run_tells}
use Rattle.layout.specs.Slots.{Shape, rows_at}
use Rattle.layout.specs.Blocks.{Stretch, first, size}
use Rattle.layout.specs.Covers.{cover_of, end_of, ignored_of, scale_from, scale_of, start_of}
use Rattle.layout.specs.Laws.{Adjacent, IsCover, IsNear, LosesLittle}
use Rattle.ladder.specs.Sums.{bracket_of, counted, lost}
use Rattle.ladder.specs.Truth.{keys_of, block_tally}

-- blocks one behind the other hold what lies between their ends
pub adjacent_sizes : (p q : ℕ) (bs : List Stretch) → Adjacent p q bs → p + sum_by size bs ≡ q
adjacent_sizes p q [] e = omega (arith, e)
adjacent_sizes p q (b ∷ bs) e = omega (arith, adjacent_sizes (p + size b) q bs e.1, sum_by-cons size b bs)

-- no key, and the smallest scale answers
smallest_for_none : (shape : Shape) → scale_of shape 0 ≡ 0
smallest_for_none shape = first (shape.scales - 1)
  where
    first : (more : ℕ) → scale_from shape.top 0 0 more ≡ 0
    first zero = refl
    first (suc more) = grind (arith, nat_tests)

module _ {K : Type 0} (alike : K → K → Bool) (arrivals : List K) (k : K) where
  -- how often the key is among the first n arrivals
  abbrev pub upto : ℕ → ℕ
  upto n = true_count alike (take n arrivals) k

  upto_more : (n more : ℕ) → upto (n + more) ≡ upto n + true_count alike (take more (drop n arrivals)) k
  upto_more n more = ap (λ xs. true_count alike xs k) (take-add n more arrivals) ∙ sum_by-append _ (take n arrivals) (take more (drop n arrivals))

  upto_step : (n more : ℕ) → (upto n ≤ upto (n + more)) × (upto (n + more) ≤ upto n + more)
  upto_step n more =
      let few : true_count alike (take more (drop n arrivals)) k ≤ more = omega (arith, count_by-le-length (λ x. alike x k) (take more (drop n arrivals)), length-take more (drop n arrivals)) in
      (omega (arith, upto_more n more), omega (arith, upto_more n more, few))

  upto_all : upto (length arrivals) ≡ true_count alike arrivals k
  upto_all = ap (λ xs. true_count alike xs k) (take_all (length arrivals) arrivals (omega arith))

  upto_rest : (n : ℕ) → upto n + true_count alike (drop n arrivals) k ≡ upto (length arrivals)
  upto_rest n = sym (sum_by-append _ (take n arrivals) (drop n arrivals)) ∙ ap (λ xs. true_count alike xs k) (take-append-drop n arrivals) ∙ sym upto_all

  module _ (symm : (x y : K) → alike x y ≡ true → alike y x ≡ true) (tran : (x y z : K) → alike x y ≡ true → alike y z ≡ true → alike x z ≡ true) (small : length arrivals < 4294967296) where
    module _ (b : Stretch) (complete : first b + size b ≤ length arrivals) where
      pub keys_long : length (keys_of arrivals b) ≡ size b
      keys_long = omega (arith, length-take (size b) (drop (first b) arrivals), length-drop (first b) arrivals)

      pub block_tells : Tells alike (rows_at b.top b.level) (keys_of arrivals b) (block_tally alike arrivals b)
      block_tells = run_tells alike symm tran (rows_at b.top b.level) (keys_of arrivals b) (omega (arith, keys_long))

      block_between : (upto (first b) + count_in alike (block_tally alike arrivals b).rows k ≤ upto (first b + size b))
          × (upto (first b + size b) ≤ upto (first b) + (count_in alike (block_tally alike arrivals b).rows k + (block_tally alike arrivals b).lost))
      block_between =
          let more = upto_more (first b) (size b) in
          (omega (arith, more, block_tells.floor k), omega (arith, more, block_tells.ceiling k))

      block_loses : LosesLittle (λ c. (block_tally alike arrivals c).lost) b
      block_loses = omega (arith, block_tells.whole, keys_long)

    -- all blocks of a cover, one after the other
    between : (p q : ℕ) (bs : List Stretch) → Adjacent p q bs → All (λ b. first b + size b ≤ length arrivals) bs
        → (upto p + counted alike (block_tally alike arrivals) bs k ≤ upto q) × (upto q ≤ upto p + (counted alike (block_tally alike arrivals) bs k + lost (block_tally alike arrivals) bs))
    between p q [] e complete = let same = ap upto e in (omega (arith, same), omega (arith, same))
    between p q (b ∷ bs) e complete =
        let here = block_between b (All-head (λ b. first b + size b ≤ length arrivals) b bs complete) in
        let rest = between (p + size b) q bs e.1 (All-tail (λ b. first b + size b ≤ length arrivals) b bs complete) in
        let start = ap upto e.0 in
        let end = ap (λ n. upto (n + size b)) e.0 in
        let counts = sum_by-cons (λ b. count_in alike (block_tally alike arrivals b).rows k) b bs in
        let losses = sum_by-cons (λ b. (block_tally alike arrivals b).lost) b bs in
        (omega (arith, here.0, rest.0, start, end, counts), omega (arith, here.1, rest.1, start, end, counts, losses))

    pub all_lose_little : (bs : List Stretch) → All (λ b. first b + size b ≤ length arrivals) bs → All (LosesLittle (λ b. (block_tally alike arrivals b).lost)) bs
    all_lose_little bs complete i d lo = block_loses _ (complete i d lo)

    -- alike keys count the same
    pub counted_alike : (other : K) → alike k other ≡ true → (bs : List Stretch) → All (λ b. first b + size b ≤ length arrivals) bs → counted alike (block_tally alike arrivals) bs other ≡ counted alike (block_tally alike arrivals) bs k
    counted_alike other near [] complete = refl
    counted_alike other near (b ∷ bs) complete =
        let here = (block_tells b (All-head (λ c. first c + size c ≤ length arrivals) b bs complete)).same k other near in
        omega (
          arith,
          sum_by-cons (λ c. count_in alike (block_tally alike arrivals c).rows other) b bs,
          sum_by-cons (λ c. count_in alike (block_tally alike arrivals c).rows k) b bs,
          here,
          counted_alike other near bs (All-tail (λ c. first c + size c ≤ length arrivals) b bs complete),
        )

    -- the newest n arrivals
    module _ (shape : Shape) (n a : ℕ) (come : n ≤ length arrivals) (accuracy : shape.top ≡ a + 3)
        (cover : IsCover shape (length arrivals) n (cover_of shape (length arrivals) n) (ignored_of shape (length arrivals) n)) (near : IsNear shape n (cover_of shape (length arrivals) n) (ignored_of shape (length arrivals) n)) where
      abbrev blocks : List Stretch
      blocks = cover_of shape (length arrivals) n

      abbrev ignored : ℕ
      ignored = ignored_of shape (length arrivals) n

      abbrev truly : ℕ
      truly = true_count alike (drop (length arrivals - n) arrivals) k

      all_complete : All (λ b. first b + size b ≤ length arrivals) blocks
      all_complete i d lo = (cover.answer i d lo).complete

      little : All (LosesLittle (λ b. (block_tally alike arrivals b).lost)) blocks
      little = all_lose_little blocks all_complete

      few : truly ≤ n
      few = omega (arith, come, count_by-le-length (λ x. alike x k) (drop (length arrivals - n) arrivals), length-drop (length arrivals - n) arrivals)

      pub truly_between : (counted alike (block_tally alike arrivals) blocks k ≤ truly) × (truly ≤ counted alike (block_tally alike arrivals) blocks k + (lost (block_tally alike arrivals) blocks + ignored))
      truly_between =
          let m = length arrivals in
          let p = start_of (scale_of shape n) m n in
          let q = end_of (scale_of shape n) m in
          let ends = cover.ends in
          let held = between p q blocks cover.adjacent all_complete in
          let front : m - n + (p - (m - n)) ≡ p = omega (arith, ends.from) in
          let back : q + (m - q) ≡ m = omega (arith, ends.to) in
          let before = upto_step (m - n) (p - (m - n)) in
          let behind = upto_step q (m - q) in
          let rest = upto_rest (m - n) in
          let sizes = adjacent_sizes p q blocks cover.adjacent in (
            omega (arith, held.0, before.0, behind.0, rest, ap upto front, ap upto back),
            omega (arith, held.1, before.1, behind.1, rest, ap upto front, ap upto back, sizes, cover.whole, ends.from, ends.to, come),
          )

      pub bracket_right : Bracket a n truly (bracket_of alike (block_tally alike arrivals) shape (length arrivals) n k)
      bracket_right =
          let says = truly_between in
          let counts = counted alike (block_tally alike arrivals) blocks k in
          let losses = lost (block_tally alike arrivals) blocks in
          record {
            floor = omega (arith, says.0);
            ceiling = omega (arith, says.1, few, come, small);
            near = λ some.
                let gap : min (counts + (losses + ignored)) 4294967295 - min counts 4294967295 ≤ ignored + losses = omega arith in
                omega (arith, mul-le-mul_left (2 ^ a) gap, near.near a accuracy (λ b. (block_tally alike arrivals b).lost) little some);
            none = λ z.
                let exact = near.exact (ap (scale_of shape) z ∙ smallest_for_none shape) (λ b. (block_tally alike arrivals b).lost) little in
                let no_floor : min counts 4294967295 ≡ 0 = omega (arith, says.0, few, z) in
                let no_ceiling : min (counts + (losses + ignored)) 4294967295 ≡ 0 = omega (arith, says.0, few, z, exact.0, exact.1) in
                λ i. (no_floor i, no_ceiling i);
          }
