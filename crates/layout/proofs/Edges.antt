-- Where a cover begins and ends. Assumes nothing.
use Rattle.std.proofs.Common.{◌≡◌, ℕ, ◌+◌, ◌-◌, ◌*◌, ◌/◌, ◌%◌, ◌^◌, ◌<◌, ◌≤◌, ◌⊎◌, ⊎_elim, inl, inr, ap, ◌∙◌, arith, mod-eq_of_lt, div-add-mod', add-zero}
use Rattle.std.proofs.Math.Nat.{zero-mod, mul-mod_left, mod_self, sub-zero}
use Rattle.std.proofs.lemmas.Bool.{cases_lt, cases_eq}
use Rattle.std.proofs.lemmas.Nat.{pow_pos, mod_below}
use Rattle.std.specs.Int.{next_multiple_of}
use Rattle.layout.specs.Slots.{Shape}
use Rattle.layout.specs.Covers.{scale_of, start_of, end_of}
use Rattle.layout.specs.Laws.{AreEnds}
use Rattle.layout.proofs.Closed.{pow_mono}
use Rattle.layout.proofs.Multiples.{a_unit_apart, sum_of_multiples}
use Rattle.layout.proofs.Scales.{smaller_short}

-- rounding up and down to multiples of u
module _ (u : ℕ) (pos : 0 < u) where
  record RoundsUp (x y : ℕ) : Type 0 where
    pub above : x ≤ y
    pub near : y < x + u
    pub multiple : y % u ≡ 0

  record RoundsDown (x y : ℕ) : Type 0 where
    pub below : y ≤ x
    pub near : x < y + u
    pub multiple : y % u ≡ 0

  rounded_down : (x : ℕ) → RoundsDown x (x - x % u)
  rounded_down x =
      let parts : x - x % u ≡ x / u * u = omega (arith, div-add-mod' x u) in
      record { below = omega arith; near = omega (arith, mod_below x u pos); multiple = ap (λ n. n % u) parts ∙ mul-mod_left (x / u) u }

  rounded_up : (x : ℕ) → RoundsUp x (next_multiple_of x u)
  rounded_up x = ⊎_elim
      (λ (z : x % u ≡ 0).
      let none : (u - x % u) % u ≡ 0 = ap (λ n. (u - n) % u) z ∙ ap (λ n. n % u) (sub-zero u) ∙ mod_self u in
      record { above = omega arith; near = omega arith; multiple = ap (λ n. (x + n) % u) none ∙ ap (λ n. n % u) (add-zero x) ∙ z })
      (λ (z : x % u ≡ 0 → ⊥).
      let some : (u - x % u) % u ≡ u - x % u = mod-eq_of_lt (omega (arith, mod_below x u pos)) in
      let next : next_multiple_of x u ≡ (x - x % u) + u = omega (arith, mod_below x u pos, (rounded_down x).below, div-add-mod' x u) in
      record { above = omega arith; near = omega (arith, mod_below x u pos); multiple = ap (λ n. n % u) next ∙ sum_of_multiples u (x - x % u) u ((rounded_down x).multiple) (mod_self u) })
      (cases_eq (x % u) 0)

-- a smallest block is not longer than the window, unless it holds one arrival
abbrev IsShort : ℕ → ℕ → Type 0
IsShort i n = (i ≡ 0) ⊎ (2 ^ i ≤ n)

scale_short : (shape : Shape) (n i : ℕ) → 1 ≤ shape.top → i ≡ scale_of shape n → IsShort i n
scale_short shape n i levels e = ⊎_elim
    (λ (z : i ≡ 0). inl z)
    (λ (z : i ≡ 0 → ⊥). inr (omega (arith, smaller_short shape n (i - 1) (omega arith), pow_mono i (shape.top + (i - 1)) (omega arith))))
    (cases_eq i 0)

module _ (i m n : ℕ) (short : IsShort i n) where
  start_rounded : RoundsUp (2 ^ i) (pow_pos i) (m - n) (start_of i m n)
  start_rounded = rounded_up (2 ^ i) (pow_pos i) (m - n)

  end_rounded : RoundsDown (2 ^ i) (pow_pos i) m (end_of i m)
  end_rounded = rounded_down (2 ^ i) (pow_pos i) m

  -- the cover begins no later than behind the last arrival
  start_low : start_of i m n ≤ m
  start_low =
      let up = start_rounded in
      ⊎_elim
      (λ (z : i ≡ 0). omega (arith, ap (λ k. 2 ^ k) z, up.near))
      (λ (less : 2 ^ i ≤ n). ⊎_elim
      (λ (over : m < n). ⊎_elim
      (λ (pos : 0 < start_of i m n). absurd (omega (arith, up.near, a_unit_apart (2 ^ i) 0 (start_of i m n) (zero-mod (2 ^ i)) up.multiple pos)))
      (λ (z : start_of i m n ≤ 0). omega arith)
      (cases_lt 0 (start_of i m n)))
      (λ (within : n ≤ m). omega (arith, up.near))
      (cases_lt m n))
      short

  ends : AreEnds i m n (start_of i m n) (end_of i m)
  ends =
      let up = start_rounded in
      let down = end_rounded in
      record {
        ordered = ⊎_elim
            (λ (u : end_of i m < start_of i m n). absurd (omega (arith, start_low, down.near, a_unit_apart (2 ^ i) (end_of i m) (start_of i m n) down.multiple up.multiple u)))
            (λ (u : start_of i m n ≤ end_of i m). u)
            (cases_lt (end_of i m) (start_of i m n));
        from = up.above;
        near = up.near;
        to = down.below;
        close = down.near;
        start = up.multiple;
        end = down.multiple;
      }

-- the ends of a shape's cover, where they were found by other names
pub are_ends : (shape : Shape) (i m n p q : ℕ) → 1 ≤ shape.top → i ≡ scale_of shape n → p ≡ start_of i m n → q ≡ end_of i m → AreEnds i m n p q
are_ends shape i m n p q levels e start end = rw (start, end) (ends i m n (scale_short shape n i levels e))
