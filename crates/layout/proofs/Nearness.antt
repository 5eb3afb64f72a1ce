-- How far a count over a cover can be off. Assumes nothing.
use Rattle.std.proofs.Common.{◌≡◌, ℕ, ◌+◌, ◌-◌, ◌*◌, ◌/◌, ◌^◌, ◌<◌, ◌≤◌, ⊎_elim, List, length, slice_index_or, All, sum_by, ap, ◌∙◌, arith, mul_assoc, mul_comm, mul-zero, mul-le-mul_left, mul-le-mul_right, le_of_mul-le-mul_right, div-mul-le_self, zero-mul}
use Rattle.std.proofs.Math.Nat.{div-eq_of_lt}
use Rattle.std.proofs.lemmas.Bool.{cases_eq}
use Rattle.std.proofs.lemmas.List.Sums.{sum_by-le}
use Rattle.std.proofs.lemmas.Nat.{pow_pos, pow-add, le-div}
use Rattle.layout.specs.Slots.{Shape, block_size, rows_at}
use Rattle.layout.specs.Blocks.{Stretch, size}
use Rattle.layout.specs.Covers.{scale_of}
use Rattle.layout.specs.Laws.{AreEnds, LosesLittle, IsNear}
use Rattle.layout.proofs.Closed.{rows_and_one}
use Rattle.layout.proofs.Scales.{smaller_short}

-- what a block may lose is its part of a smallest block
part_lost : (top i j lost : ℕ) → lost * (rows_at top j + 1) ≤ block_size i j → lost * (top + 1) ≤ 2 ^ i
part_lost top i j lost h =
    let whole : rows_at top j + 1 ≡ (top + 1) * 2 ^ j = rows_and_one top j ∙ mul_comm (2 ^ j) (top + 1) in
    le_of_mul-le-mul_right {k = 2 ^ j} (omega (arith, h, ap (λ k. lost * k) whole, mul_assoc lost (top + 1) (2 ^ j), pow-add 2 i j)) (pow_pos j)

-- of one scale's blocks, so many as a cover has lose no more than two smallest blocks hold
module _ (top i : ℕ) (lost : Stretch → ℕ) (blocks : List Stretch) (few : length blocks ≤ 2 * (top + 1)) where
  each_loses : All (λ b. (b.top ≡ top) × (b.scale ≡ i)) blocks → All (LosesLittle lost) blocks → All (λ b. lost b ≤ 2 ^ i / (top + 1)) blocks
  each_loses same little = λ k d there.
      let b = slice_index_or blocks k d in
      let s = same k d there in
      le-div (lost b) (2 ^ i) (top + 1) (omega arith) (omega (arith, part_lost b.top b.scale b.level (lost b) (little k d there), ap (λ t. lost b * (t + 1)) s.0, ap (λ h. 2 ^ h) s.1))

  all_lose : All (λ b. lost b ≤ 2 ^ i / (top + 1)) blocks → sum_by lost blocks ≤ 2 * (2 ^ i / (top + 1) * (top + 1))
  all_lose each =
      let t = 2 ^ i / (top + 1) in
      omega (arith, sum_by-le lost t blocks each, mul-le-mul_right {m = length blocks} {n = 2 * (top + 1)} t few, mul_assoc 2 (top + 1) t, mul_comm (top + 1) t)

module _ (shape : Shape) (m n i p q : ℕ) (levels : 1 ≤ shape.top) (scale : i ≡ scale_of shape n) (within : n ≤ m) (e : AreEnds i m n p q) where
  -- the arrivals between the ends of the cover and those of the window are few
  few_ignored : (ignored covered : ℕ) → p + covered ≡ q → ignored + covered ≡ n → ignored ≤ 2 * (2 ^ i - 1)
  few_ignored ignored covered all whole = omega (arith, e.near, e.close, pow_pos i)

  module _ (ignored : ℕ) (blocks : List Stretch) (adjacent : p + sum_by size blocks ≡ q) (few : length blocks ≤ 2 * (shape.top + 1)) (whole : ignored + sum_by size blocks ≡ n)
      (same : All (λ b. (b.top ≡ shape.top) × (b.scale ≡ i)) blocks) where
    nothing_lost : i ≡ 0 → (lost : Stretch → ℕ) → All (LosesLittle lost) blocks → (ignored ≡ 0) × (sum_by lost blocks ≡ 0)
    nothing_lost z lost little =
        let one : 2 ^ i ≡ 1 = ap (λ k. 2 ^ k) z in
        let part : 2 ^ i / (shape.top + 1) ≡ 0 = ap (λ k. k / (shape.top + 1)) one ∙ div-eq_of_lt (omega arith) in (
          omega (arith, few_ignored ignored (sum_by size blocks) adjacent whole, one),
          omega (arith, all_lose shape.top i lost blocks few (each_loses shape.top i lost blocks few same little), ap (λ k. k * (shape.top + 1)) part, zero-mul (shape.top + 1)),
        )

    pub is_near : IsNear shape n blocks ignored
    is_near = record {
      exact = λ z lost little. nothing_lost (scale ∙ z) lost little;
      near = λ a accuracy lost little some. ⊎_elim
          (λ (z : i ≡ 0).
          let none = nothing_lost z lost little in
          let nil : ignored + sum_by lost blocks ≡ 0 = omega (arith, none.0, none.1) in
          rw (nil, mul-zero (2 ^ a)) some)
          (λ (larger : i ≡ 0 → ⊥).
          let loses = all_lose shape.top i lost blocks few (each_loses shape.top i lost blocks few same little) in
          let off : ignored + sum_by lost blocks ≤ 4 * 2 ^ i = omega (arith, loses, few_ignored ignored (sum_by size blocks) adjacent whole, div-mul-le_self (2 ^ i) (shape.top + 1), pow_pos i) in
          let split : shape.top + (i - 1) ≡ a + (2 + i) = omega (arith, accuracy) in
          let long : 2 ^ a * (4 * 2 ^ i) < n = omega (arith, smaller_short shape n (i - 1) (omega (arith, scale)), ap (λ k. 2 ^ k) split, pow-add 2 a (2 + i), ap (λ k. 2 ^ a * k) (pow-add 2 2 i)) in
          omega (arith, mul-le-mul_left (2 ^ a) off, long))
          (cases_eq i 0);
    }
