-- A verdict from sums that are close is right. Assumes nothing.
use Rattle.std.proofs.Common.{ℕ, ◌-◌, ◌*◌, ◌^◌, ◌<◌, ◌≤◌, mul_assoc, mul_left_comm, mul-le-mul_left, ap, arith}
use Rattle.std.proofs.lemmas.Bool.Decides.{nat_tests}
use Rattle.verdicts.specs.Rules.{IsRight, Sums}
use Rattle.verdicts.specs.Verdicts.{judged}

module _ (a n count class : ℕ) (sums : ℕ × ℕ) (some : 1 ≤ class) (s : Sums a n count class sums) where
  -- what is within four times the distance of the ends is small
  small : (d : ℕ) → d ≤ 4 * (sums.1 - sums.0) → 1 ≤ n → 2 ^ a * d < 4 * class * n
  small d within full =
      let wide : 2 ^ a * d ≤ 4 * (2 ^ a * (sums.1 - sums.0)) = rw (mul_left_comm 4 (2 ^ a) (sums.1 - sums.0)) (mul-le-mul_left (2 ^ a) within) in
      omega (arith, wide, mul_assoc 4 class n, s.near full)

  -- between the two ends, a quarter is no further from the true count than four times the ends are apart
  beside : n ≤ 4 * sums.1 → 4 * sums.0 < n → (2 ^ a * (4 * count - n) < 4 * class * n) × (2 ^ a * (n - 4 * count) < 4 * class * n)
  beside high low =
      (small (4 * count - n) (omega (arith, s.floor, s.ceiling, high, low)) (omega (arith, low)), small (n - 4 * count) (omega (arith, s.floor, s.ceiling, high, low)) (omega (arith, low)))

  pub right : IsRight a n count class (judged n sums)
  right = record {
    floor = s.floor;
    ceiling = s.ceiling;
    near = λ full. omega (arith, s.near full);
    none = λ empty. (ap (λ (p : ℕ × ℕ). p.0) (s.none empty), ap (λ (p : ℕ × ℕ). p.1) (s.none empty));
    held = λ said. grind (arith, nat_tests, s.floor);
    clear = λ said. grind (arith, nat_tests, s.ceiling);
    unsure = λ said full. beside (grind (arith, nat_tests)) (grind (arith, nat_tests));
  }
