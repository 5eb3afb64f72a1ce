-- Multiples of one number. Assumes nothing.
use Rattle.std.proofs.Common.{◌≡◌, ℕ, suc, ◌+◌, ◌/◌, ◌%◌, ◌^◌, ◌<◌, ◌≤◌, ⊎_elim, ap, ◌∙◌, arith, suc-mul, mul-le-mul_right, div-add-mod'}
use Rattle.std.proofs.Math.Nat.{add-mod, mul-mod_right, zero-mod}
use Rattle.std.proofs.lemmas.Bool.{cases_lt}
use Rattle.std.proofs.lemmas.Nat.{pow-add}

-- of two multiples, the larger is larger by one unit or more
pub a_unit_apart : (u p q : ℕ) → p % u ≡ 0 → q % u ≡ 0 → p < q → p + u ≤ q
a_unit_apart u p q hp hq h = ⊎_elim
    (λ (lo : p / u < q / u). omega (arith, div-add-mod' p u, div-add-mod' q u, suc-mul (p / u) u, mul-le-mul_right {m = suc (p / u)} {n = q / u} u lo))
    (λ (hi : q / u ≤ p / u). absurd (omega (arith, div-add-mod' p u, div-add-mod' q u, mul-le-mul_right {m = q / u} {n = p / u} u hi)))
    (cases_lt (p / u) (q / u))

-- the sum of two multiples is one
pub sum_of_multiples : (u p q : ℕ) → p % u ≡ 0 → q % u ≡ 0 → (p + q) % u ≡ 0
sum_of_multiples u p q hp hq = add-mod p q u ∙ ap (λ n. (n + q % u) % u) hp ∙ ap (λ n. (0 + n) % u) hq ∙ zero-mod u

-- a power is a multiple of the smaller ones
pub power_of_more : (i j : ℕ) → 2 ^ (i + j) % 2 ^ i ≡ 0
power_of_more i j = ap (λ n. n % 2 ^ i) (pow-add 2 i j) ∙ mul-mod_right (2 ^ i) (2 ^ j)
