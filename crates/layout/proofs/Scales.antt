-- The scale that answers for a window. Assumes nothing.
use Rattle.std.proofs.Common.{◌≡◌, ℕ, zero, suc, ◌+◌, ◌-◌, ◌^◌, ◌<◌, ◌≤◌, min, ⊎_elim, subst, sym, ap, arith}
use Rattle.std.proofs.Math.Nat.{two-pow-succ}
use Rattle.std.proofs.lemmas.Bool.{le-leb, lt-leb, cases_eq, cases_lt}
use Rattle.std.proofs.lemmas.Nat.{leading_length}
use Rattle.std.specs.Int.{leading_zeros}
use Rattle.std.proofs.Common.{w32}
use Rattle.layout.specs.Slots.{Shape}
use Rattle.layout.specs.Covers.{scale_from, scale_of}
use Rattle.layout.specs.Laws.{IsScaleFor, longest}
use Rattle.layout.proofs.Closed.{pow_mono}

module _ (top n : ℕ) where
  -- of so many scales from i on, r is the first that is for windows of n keys, or the one behind them
  record IsFirst (i more r : ℕ) : Type 0 where
    pub from : i ≤ r
    pub below : r ≤ i + more
    pub long : r < i + more → n ≤ 2 ^ (top + r)
    pub short : (h : ℕ) → i ≤ h → h < r → 2 ^ (top + h) < n

  only_first : (i more r : ℕ) → IsFirst i more r → scale_from top n i more ≡ r
  only_first i zero r first = omega (arith, first.from, first.below)
  only_first i (suc more) r first = ⊎_elim
      (λ (e : i ≡ r). rw (le-leb n (2 ^ (top + i)) (subst (λ k. n ≤ 2 ^ (top + k)) (sym e) (first.long (omega arith)))) e)
      (λ (ne : i ≡ r → ⊥).
      let after : i + 1 ≤ r = omega (arith, first.from) in
      rw (lt-leb n (2 ^ (top + i)) (first.short i (omega arith) (omega (arith, after))))
      (only_first (i + 1) more r (record { from = after; below = omega (arith, first.below); long = λ u. first.long (omega arith); short = λ h lo hi. first.short h (omega arith) hi })))
      (cases_eq i r)

  first_found : (i more : ℕ) → IsFirst i more (scale_from top n i more)
  first_found i zero = record { from = omega arith; below = omega arith; long = λ u. absurd (omega arith); short = λ h lo hi. absurd (omega arith) }
  first_found i (suc more) = ⊎_elim
      (λ (u : 2 ^ (top + i) < n). rw (lt-leb n (2 ^ (top + i)) u)
      (let rest = first_found (i + 1) more in record {
        from = omega (arith, rest.from);
        below = omega (arith, rest.below);
        long = λ z. rest.long (omega arith);
        short = λ h lo hi. ⊎_elim
            (λ (e : i ≡ h). subst (λ k. 2 ^ (top + k) < n) e u)
            (λ (ne : i ≡ h → ⊥). rest.short h (omega arith) hi)
            (cases_eq i h);
      }))
      (λ (u : n ≤ 2 ^ (top + i)). rw (le-leb n (2 ^ (top + i)) u) (record { from = omega arith; below = omega arith; long = λ z. u; short = λ h lo hi. absurd (omega arith) }))
      (cases_lt (2 ^ (top + i)) n)

  -- the digits of n - 1 in binary tell it
  pub scale_by_digits : (scales digits r : ℕ) → digits ≡ 32 - leading_zeros w32 (n - 1) → n < 2 ^ 32 → r ≡ min (digits - top) (scales - 1) → scale_of (record { top = top; scales = scales }) n ≡ r
  scale_by_digits scales digits r e fits least =
      let length = leading_length 32 (n - 1) (omega arith) in
      let m : length.0 ≡ digits = omega (arith, length.1) in
      let enough : n ≤ 2 ^ digits = omega (arith, length.2, ap (λ k. 2 ^ k) m) in
      only_first 0 (scales - 1) r (record {
        from = omega arith;
        below = omega arith;
        long = λ u. omega (arith, enough, pow_mono digits (top + r) (omega arith));
        short = λ h lo hi.
            let one : digits ≡ suc (digits - 1) = omega arith in
            omega (arith, pow_mono (top + h) (digits - 1) (omega arith), ap (λ k. 2 ^ k) one, two-pow-succ (digits - 1), length.3, ap (λ k. 2 ^ k) m);
      })

-- no scale is behind the last
pub scale_there : (shape : Shape) (n : ℕ) → 1 ≤ shape.scales → scale_of shape n < shape.scales
scale_there shape n some = omega (arith, (first_found shape.top n 0 (shape.scales - 1)).below)

-- all smaller scales are for shorter windows
pub smaller_short : (shape : Shape) (n h : ℕ) → h < scale_of shape n → 2 ^ (shape.top + h) < n
smaller_short shape n h lo = (first_found shape.top n 0 (shape.scales - 1)).short h (omega arith) lo

-- the scale that is for windows so long
pub scale_right : (shape : Shape) (n : ℕ) → 1 ≤ shape.scales → n ≤ longest shape → IsScaleFor shape n (scale_of shape n)
scale_right shape n some h =
    let first = first_found shape.top n 0 (shape.scales - 1) in
    let r = scale_of shape n in
    record {
      there = omega (arith, first.below);
      long = ⊎_elim
          (λ (u : r < shape.scales - 1). first.long (omega arith))
          (λ (u : shape.scales - 1 ≤ r). let e : shape.scales - 1 ≡ r = omega (arith, first.below) in subst (λ k. n ≤ 2 ^ (shape.top + k)) e h)
          (cases_lt r (shape.scales - 1));
      least = λ h lo. smaller_short shape n h lo;
    }
