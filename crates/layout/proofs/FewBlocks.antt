-- A walk has few blocks: they grow, and then they shrink. Assumes nothing.
use Rattle.std.proofs.Common.{◌≡◌, ℕ, zero, suc, ◌+◌, ◌-◌, ◌*◌, ◌/◌, ◌%◌, ◌^◌, ◌<◌, ◌≤◌, ⊎_elim, length, ap, refl, ◌∙◌, arith, zero-mul, add-zero}
use Rattle.std.proofs.Math.Nat.{add-mod_right, add-div_right, two-pow-succ}
use Rattle.std.proofs.lemmas.Bool.{cases_lt, cases_eq, both_ways}
use Rattle.std.proofs.lemmas.Nat.{pow_pos}
use Rattle.layout.specs.Slots.{block_size}
use Rattle.layout.specs.Covers.{fits, level_at, walk, walk_between}
use Rattle.layout.proofs.Closed.{pow_mono}
use Rattle.layout.proofs.Bits.{next_digit, multiple_of_less}
use Rattle.layout.proofs.Largest.{best, fits_when, level_is}
use Rattle.layout.proofs.Multiples.{a_unit_apart}
use Rattle.layout.proofs.Walks.{walk_more, walk_done}

-- a multiple of a power of 2, but not of the next: one such power further, it is one
odd_next : (e p : ℕ) → p % 2 ^ e ≡ 0 → (p % 2 ^ (1 + e) ≡ 0 → ⊥) → (p + 2 ^ e) % 2 ^ (1 + e) ≡ 0
odd_next e p here odd =
    let u = 2 ^ e in
    let one : p / u % 2 ≡ 1 = ⊎_elim
    (λ (z : p / u % 2 ≡ 0). absurd (odd (next_digit p e ∙ (λ t. z t * u + here t) ∙ omega (arith, zero-mul u))))
    (λ (z : p / u % 2 ≡ 0 → ⊥). omega arith)
    (cases_eq (p / u % 2) 0) in
    let next : (p + u) / u ≡ p / u + 1 = add-div_right p (pow_pos e) in
    let even : (p + u) / u % 2 ≡ 0 = omega arith in
    next_digit (p + u) e ∙ (λ t. even t * u + (add-mod_right p u ∙ here) t) ∙ omega (arith, zero-mul u)

module _ (top i q : ℕ) (whole : q % 2 ^ i ≡ 0) where
  size_next : (j : ℕ) → block_size i (suc j) ≡ 2 ^ (1 + (i + j))
  size_next j = let next : i + suc j ≡ 1 + (i + j) = omega arith in ap (λ k. 2 ^ k) next

  size_doubled : (j : ℕ) → block_size i (suc j) ≡ block_size i j + block_size i j
  size_doubled j = let next : i + suc j ≡ suc (i + j) = omega arith in ap (λ k. 2 ^ k) next ∙ two-pow-succ (i + j)

  multiple_of_smaller : (j p : ℕ) → p % block_size i (suc j) ≡ 0 → p % block_size i j ≡ 0
  multiple_of_smaller j p h = multiple_of_less p (i + suc j) (i + j) (omega arith) h

  one_more : (n p j : ℕ) → p < q → level_at i p q top ≡ j → length (walk top i (suc n) p q) ≡ length (walk top i n (p + block_size i j) q) + 1
  one_more n p j h e = ap length (walk_more top i q n p h) ∙ omega (arith, ap (λ k. length (walk top i n (p + block_size i k) q)) e)

  none_left : (n p : ℕ) → q ≤ p → length (walk top i n p q) ≡ 0
  none_left n p h = ap length (walk_done top i q n p h)

  -- from a multiple of level j's blocks, with less than one of them to go, no more than j blocks
  few_shrinking : (j n p : ℕ) → j ≤ top → p % block_size i j ≡ 0 → q < p + block_size i j → length (walk top i n p q) ≤ j
  few_shrinking zero n p le here short = ⊎_elim
      (λ (u : p < q). absurd (omega (arith, ap (λ k. 2 ^ k) (add-zero i), a_unit_apart (2 ^ i) p q (multiple_of_less p (i + 0) i (omega arith) here) whole u)))
      (λ (u : q ≤ p). omega (arith, none_left n p u))
      (cases_lt p q)
  few_shrinking (suc j) zero p le here short = omega arith
  few_shrinking (suc j) (suc n) p le here short = ⊎_elim
      (λ (u : q < p + block_size i j). omega (arith, few_shrinking j (suc n) p (omega arith) (multiple_of_smaller j p here) u))
      (λ (u : p + block_size i j ≤ q).
      let level : level_at i p q top ≡ j = level_is i p q top j (omega arith)
      (λ some. record { multiple = multiple_of_smaller j p here; ends = u })
      (λ h lo hi f. omega (arith, f.ends, short, pow_mono (i + suc j) (i + h) (omega arith))) in
      omega (
        arith,
        one_more n p j (omega (arith, pow_pos (i + j))) level,
        few_shrinking j n (p + block_size i j) (omega arith) (add-mod_right p (block_size i j) ∙ multiple_of_smaller j p here) (omega (arith, size_doubled j)),
      ))
      (cases_lt q (p + block_size i j))

  -- from one, with no more than a block of the last level to go
  few_growing : (n j p : ℕ) → j ≤ top → p % block_size i j ≡ 0 → q ≤ p + block_size i top → length (walk top i n p q) + j ≤ 2 * top + 1
  few_growing zero j p le here short = omega arith
  few_growing (suc n) j p le here short = ⊎_elim
      (λ (u : q < p + block_size i j). omega (arith, few_shrinking j (suc n) p le here u))
      (λ (u : p + block_size i j ≤ q).
      let h : p < q = omega (arith, pow_pos (i + j)) in
      let b = best i p q top (record { multiple = multiple_of_less p (i + j) (i + 0) (omega arith) here; ends = omega (arith, pow_mono (i + 0) (i + j) (omega arith)) }) in
      let l = level_at i p q top in
      let more = one_more n p l h refl in
      let up : j ≤ l = ⊎_elim
      (λ (lo : l < j). absurd (both_ways (fits i p q j) (b.above j lo le) (fits_when i p q j (record { multiple = here; ends = u }))))
      (λ (hi : j ≤ l). hi)
      (cases_lt l j) in
      let there = add-mod_right p (block_size i l) ∙ b.here.multiple in
      ⊎_elim
      (λ (lo : l < top). ⊎_elim
      (λ (v : q < p + block_size i (suc l)). omega (arith, more, few_shrinking l n (p + block_size i l) b.level there (omega (arith, size_doubled l))))
      (λ (v : p + block_size i (suc l) ≤ q).
      let odd : p % block_size i (suc l) ≡ 0 → ⊥ = λ z. both_ways (fits i p q (suc l)) (b.above (suc l) (omega arith) lo) (fits_when i p q (suc l) (record { multiple = z; ends = v })) in
      let next = ap (λ k. (p + block_size i l) % k) (size_next l) ∙ odd_next (i + l) p b.here.multiple (λ z. odd (ap (λ k. p % k) (size_next l) ∙ z)) in
      omega (arith, more, few_growing n (suc l) (p + block_size i l) lo next (omega arith)))
      (cases_lt q (p + block_size i (suc l))))
      (λ (hi : top ≤ l).
      let last : l ≡ top = omega (arith, b.level) in
      omega (arith, more, none_left n (p + block_size i l) (omega (arith, ap (λ k. 2 ^ (i + k)) last))))
      (cases_lt l top))
      (cases_lt q (p + block_size i j))

  -- so from any multiple of the smallest blocks
  pub few_between : (p : ℕ) → p % 2 ^ i ≡ 0 → q ≤ p + block_size i top → length (walk_between top i p q) ≤ 2 * top + 1
  few_between p here short = omega (arith, few_growing (q - p) 0 p (omega arith) (ap (λ k. p % 2 ^ k) (add-zero i) ∙ here) short)
