-- Zeros behind and before a number in binary. Assumes nothing.
use Rattle.std.proofs.Common.{◌≡◌, ℕ, zero, suc, ◌+◌, ◌-◌, ◌*◌, ◌%◌, ◌^◌, ◌<◌, ◌≤◌, ⊎_elim, sym, ap, ◌∙◌, arith, zero-mul, one-mul, w32}
use Rattle.std.proofs.Math.Nat.{mod-one, zero-mod, two-pow-succ}
use Rattle.std.proofs.lemmas.Bool.{cases_eq, cases_lt}
use Rattle.std.proofs.lemmas.Nat.{mod-pow-add, pow_pos}
use Rattle.std.proofs.lemmas.Nat.Bits.{bit_at-trailing_zeros}
use Rattle.std.specs.Int.{bit_at, trailing_zeros}
use Rattle.std.specs.Int.Count.{trailing_of_zero}
use Rattle.layout.proofs.Closed.{pow_mono}

-- the digit at place e, and those behind it
pub next_digit : (n e : ℕ) → n % 2 ^ (1 + e) ≡ bit_at n e * 2 ^ e + n % 2 ^ e
next_digit n e = mod-pow-add n 1 e

-- where the last e digits are zeros, n is a multiple of 2 ^ e
multiple_from : (n e : ℕ) → ((i : ℕ) → i < e → bit_at n i ≡ 0) → n % 2 ^ e ≡ 0
multiple_from n zero zeros = mod-one n
multiple_from n (suc e) zeros =
    let one : suc e ≡ 1 + e = omega arith in
    ap (λ k. n % 2 ^ k) one ∙ next_digit n e ∙ omega (arith, ap (λ d. d * 2 ^ e) (zeros e (omega arith)), zero-mul (2 ^ e), multiple_from n e (λ i h. zeros i (omega arith)))

-- multiples of a power are multiples of the smaller ones
pub multiple_of_less : (n e f : ℕ) → f ≤ e → n % 2 ^ e ≡ 0 → n % 2 ^ f ≡ 0
multiple_of_less n e f h z =
    let split : e ≡ (e - f) + f = omega arith in
    omega (arith, sym (mod-pow-add n (e - f) f) ∙ sym (ap (λ k. n % 2 ^ k) split) ∙ z)

-- 2 ^ e divides a number exactly where e zeros end it in binary
module _ (n e : ℕ) (fits : n < 2 ^ 32) where
  pub zeros_behind : e ≤ trailing_zeros w32 n → n % 2 ^ e ≡ 0
  zeros_behind h = ⊎_elim
      (λ (z : n ≡ 0). rw z (zero-mod (2 ^ e)))
      (λ (z : n ≡ 0 → ⊥). let lowest = bit_at-trailing_zeros w32 n (omega arith) fits in multiple_from n e (λ i lo. lowest.2 i (omega arith)))
      (cases_eq n 0)

  pub no_more_zeros : e ≤ 32 → n % 2 ^ e ≡ 0 → e ≤ trailing_zeros w32 n
  no_more_zeros small z = ⊎_elim
      (λ (none : n ≡ 0). rw (none, trailing_of_zero 32) small)
      (λ (some : n ≡ 0 → ⊥).
      let t = trailing_zeros w32 n in
      let lowest = bit_at-trailing_zeros w32 n (omega arith) fits in
      ⊎_elim
      (λ (u : t < e). absurd (omega (arith, next_digit n t, lowest.1, ap (λ d. d * 2 ^ t) lowest.1, one-mul (2 ^ t), pow_pos t, multiple_of_less n e (1 + t) (omega arith) z)))
      (λ (u : e ≤ t). u)
      (cases_lt t e))
      (cases_eq n 0)

-- below 2 ^ (l + 1) no power higher than 2 ^ l fits
pub no_higher : (n e l : ℕ) → 2 ^ e ≤ n → n < 2 * 2 ^ l → e ≤ l
no_higher n e l low high = ⊎_elim
    (λ (u : l < e). absurd (omega (arith, pow_mono (suc l) e u, two-pow-succ l)))
    (λ (u : e ≤ l). u)
    (cases_lt l e)
