-- The blocks of a cover, and what they can answer for. Assumes nothing.
use Rattle.std.proofs.Common.{sym, subst, ◌≡◌, ℕ, zero, suc, ◌+◌, ◌-◌, ◌*◌, ◌/◌, ◌%◌, ◌^◌, ◌<◌, ◌≤◌, ⊎_elim, List, [], ◌∷◌, All, sum_by, ap, ◌∙◌, refl, arith, add-zero, add_comm, add-mul, suc-mul, mul-le-mul_right, lt_of_mul-lt-mul_right, div-add-mod'}
use Rattle.std.proofs.lemmas.Bool.{cases_lt, both_ways}
use Rattle.std.proofs.lemmas.List.Elements.{All-nil, All-cons}
use Rattle.std.proofs.lemmas.List.Sums.{sum_by-cons}
use Rattle.std.proofs.lemmas.Nat.{pow_pos, pow-add}
use Rattle.layout.specs.Slots.{Shape, block_size, slots_at}
use Rattle.layout.specs.Inside.{IsShape}
use Rattle.layout.specs.Blocks.{Stretch, size, first}
use Rattle.layout.specs.Covers.{fits, scale_of, start_of, end_of, level_at, walk_between, cover_of}
use Rattle.layout.specs.Laws.{AreEnds, Adjacent, IsBlock, IsWindow, CanAnswer, IsLargest, IsCoverFrom}
use Rattle.layout.proofs.FewBlocks.{few_between}
use Rattle.layout.proofs.Largest.{IsBest, best, fits_when}
use Rattle.layout.proofs.SlotsOfBlocks.{same_turn}
use Rattle.layout.proofs.Multiples.{a_unit_apart, sum_of_multiples, power_of_more}
use Rattle.layout.proofs.Scales.{scale_right, scale_there}
use Rattle.layout.proofs.Walks.{taken, after, walk_next, walk_end}

module _ (top i q : ℕ) (whole : q % 2 ^ i ≡ 0) where
  -- a place of the walk that is not its end, and the block that is taken there
  pub record IsPlace (p : ℕ) : Type 0 where
    pub multiple : p % 2 ^ i ≡ 0
    pub before : p < q

  pub best_there : (p : ℕ) → IsPlace p → IsBest i p q top (level_at i p q top)
  best_there p here =
      let none = ap (λ k. 2 ^ k) (add-zero i) in
      best i p q top (record { multiple = ap (λ k. p % k) none ∙ here.multiple; ends = omega (arith, none, a_unit_apart (2 ^ i) p q here.multiple whole here.before) })

  next_multiple : (p : ℕ) → p % 2 ^ i ≡ 0 → after top i q p % 2 ^ i ≡ 0
  next_multiple p h = sum_of_multiples (2 ^ i) p (block_size i (level_at i p q top)) h (power_of_more i (level_at i p q top))

  -- what is so of each block that is taken at or behind a place is so of all that are left there
  each_taken : (F : Stretch → Type 0) → (n p : ℕ) → q ≤ p + n → p % 2 ^ i ≡ 0 → ((x : ℕ) → p ≤ x → IsPlace x → F (taken top i q x)) → All F (walk_between top i p q)
  each_taken F zero p enough h f = rw (walk_end top i q p (omega arith)) (All-nil F)
  each_taken F (suc n) p enough h f = ⊎_elim
      (λ (u : p < q). rw (walk_next top i q p u) (All-cons F (taken top i q p) (walk_between top i (after top i q p) q) (f p (omega arith) (record { multiple = h; before = u }))
      (each_taken F n (after top i q p) (omega (arith, pow_pos (i + level_at i p q top))) (next_multiple p h) (λ x from here. f x (omega arith) here))))
      (λ (u : q ≤ p). rw (walk_end top i q p u) (All-nil F))
      (cases_lt p q)

  -- a block begins where it was taken
  first_taken : (p : ℕ) → IsPlace p → first (taken top i q p) ≡ p
  first_taken p here = omega (arith, div-add-mod' p (block_size i (level_at i p q top)), (best_there p here).here.multiple)

  pub adjacent : (n p : ℕ) → q ≤ p + n → p ≤ q → p % 2 ^ i ≡ 0 → Adjacent p q (walk_between top i p q)
  adjacent zero p enough le h = rw (walk_end top i q p (omega arith)) (omega arith)
  adjacent (suc n) p enough le h = ⊎_elim
      (λ (u : p < q).
      let here : IsPlace p = record { multiple = h; before = u } in
      rw (walk_next top i q p u) (first_taken p here, adjacent n (after top i q p) (omega (arith, pow_pos (i + level_at i p q top))) (best_there p here).here.ends (next_multiple p h)))
      (λ (u : q ≤ p). rw (walk_end top i q p u) (omega arith))
      (cases_lt p q)

  -- all are blocks of one scale
  pub of_one_scale : (n p : ℕ) → q ≤ p + n → p % 2 ^ i ≡ 0 → All (λ b. (b.top ≡ top) × (b.scale ≡ i)) (walk_between top i p q)
  of_one_scale n p enough h = each_taken (λ b. (b.top ≡ top) × (b.scale ≡ i)) n p enough h (λ x from here. (refl, refl))

-- adjacent blocks hold all arrivals from the first to the last
arrivals_between : (p q : ℕ) (bs : List Stretch) → Adjacent p q bs → p + sum_by size bs ≡ q
arrivals_between p q [] a = omega (arith, a)
arrivals_between p q (b ∷ bs) a = omega (arith, sum_by-cons size b bs, arrivals_between (p + size b) q bs a.1)

-- the blocks of a cover hold just the arrivals from p to q
pub arrivals_covered : (shape : Shape) (m n i p q : ℕ) → AreEnds i m n p q → p + sum_by size (walk_between shape.top i p q) ≡ q
arrivals_covered shape m n i p q e = arrivals_between p q (walk_between shape.top i p q) (adjacent shape.top i q e.end (q - p) p (omega (arith, e.ordered)) e.ordered e.start)

-- a cover, where its scale and its ends were found by other names
pub cover_found : (shape : Shape) (m n i p q : ℕ) → i ≡ scale_of shape n → p ≡ start_of i m n → q ≡ end_of i m → walk_between shape.top i p q ≡ cover_of shape m n
cover_found shape m n i p q scale start end = rw (start, end, scale) refl

-- numbers that are less than n apart leave different remainders by n
remainders_apart : (b c n : ℕ) → b < c → c < b + n → c % n ≡ b % n → ⊥
remainders_apart b c n lo hi e = ⊎_elim
    (λ (h : b / n < c / n). omega (arith, div-add-mod' b n, div-add-mod' c n, mul-le-mul_right {m = suc (b / n)} {n = c / n} n h, suc-mul (b / n) n))
    (λ (h : c / n ≤ b / n). omega (arith, div-add-mod' b n, div-add-mod' c n, mul-le-mul_right {m = c / n} {n = b / n} n h))
    (cases_lt (b / n) (c / n))

module _ (shape : Shape) (m n : ℕ) (is : IsShape shape.top shape.scales) (window : IsWindow shape m n) where
  module _ (i p q : ℕ) (scale : i ≡ scale_of shape n) (e : AreEnds i m n p q) where
    long : n ≤ 2 ^ (shape.top + i)
    long = rw scale (scale_right shape n is.some window.short).long

    block_there : (x : ℕ) → IsPlace shape.top i q e.end x → IsBlock shape (taken shape.top i q x)
    block_there x here = record { top = refl; scale = omega (arith, scale, scale_there shape n is.some); level = (best_there shape.top i q e.end x here).level }

    can_answer : (x : ℕ) → p ≤ x → IsPlace shape.top i q e.end x → CanAnswer shape m n (taken shape.top i q x)
    can_answer x from here =
        let top = shape.top in
        let b = best_there top i q e.end x here in
        let j = level_at i x q top in
        let at = first_taken top i q e.end x here in
        record {
          inside = omega (arith, at, e.from);
          complete = omega (arith, at, b.here.ends, e.to);
          kept = λ c isc same begun. ⊎_elim
              (λ (later : first (taken top i q x) < first c).
              let number = x / block_size i j in
              let turn = same_turn shape (taken top i q x) c (block_there x here) isc same in
              let long_by_level : size c ≡ block_size i j = (λ t. 2 ^ (turn.0 t + turn.1 t)) in
              let starts : first c ≡ c.number * block_size i j = ap (λ k. c.number * k) long_by_level in
              let split : top + i ≡ (top - j) + (i + j) = omega (arith, b.level) in
              let long_by : n ≤ 2 ^ (top - j) * block_size i j = omega (arith, long, ap (λ k. 2 ^ k) split, pow-add 2 (top - j) (i + j)) in
              let more : number < c.number = lt_of_mul-lt-mul_right (block_size i j) (omega (arith, later, starts)) in
              let less : c.number < number + 2 ^ (top - j) = lt_of_mul-lt-mul_right (block_size i j) (omega (arith, begun, starts, at, e.from, long_by, add-mul number (2 ^ (top - j)) (block_size i j))) in
              absurd (remainders_apart number c.number (slots_at top j) more (omega (arith, less)) (sym (ap (λ k. c.number % slots_at top k) turn.1) ∙ turn.2)))
              (λ (not_later : first c ≤ first (taken top i q x)). not_later)
              (cases_lt (first (taken top i q x)) (first c));
        }

    largest_there : (x : ℕ) → IsPlace shape.top i q e.end x → IsLargest q (taken shape.top i q x)
    largest_there x here = λ j above le multiple.
        let best = best_there shape.top i q e.end x here in
        let at = first_taken shape.top i q e.end x here in
        ⊎_elim
        (λ (u : q < x + block_size i j). omega (arith, u, at))
        (λ (u : x + block_size i j ≤ q). absurd (both_ways (fits i x q j) (best.above j above le) (fits_when i x q j (record { multiple = ap (λ k. k % block_size i j) (sym at) ∙ multiple; ends = u }))))
        (cases_lt q (x + block_size i j))

    -- all that is so of the cover between these ends
    pub cover_between : (ignored : ℕ) → ignored ≡ n - sum_by size (walk_between shape.top i p q) → IsCoverFrom shape m n p q (walk_between shape.top i p q) ignored
    cover_between ignored left =
        let top = shape.top in
        let covered = arrivals_covered shape m n i p q e in
        record {
          ends = subst (λ k. AreEnds k m n p q) scale e;
          adjacent = adjacent top i q e.end (q - p) p (omega (arith, e.ordered)) e.ordered e.start;
          there = each_taken top i q e.end (IsBlock shape) (q - p) p (omega (arith, e.ordered)) e.start (λ x from here. block_there x here);
          one_scale = each_taken top i q e.end (λ b. b.scale ≡ scale_of shape n) (q - p) p (omega (arith, e.ordered)) e.start (λ x from here. scale);
          answer = each_taken top i q e.end (CanAnswer shape m n) (q - p) p (omega (arith, e.ordered)) e.start can_answer;
          largest = each_taken top i q e.end (IsLargest q) (q - p) p (omega (arith, e.ordered)) e.start (λ x from here. largest_there x here);
          few = omega (arith, few_between top i q e.end p e.start (omega (arith, e.to, e.from, long, ap (λ k. 2 ^ k) (add_comm top i))));
          whole = omega (arith, left, covered, e.from, e.to, e.ordered);
        }
