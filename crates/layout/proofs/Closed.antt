-- The rows and the heads below a level in closed form, and those of a whole scale. Assumes nothing.
use Rattle.std.proofs.Common.{◌≡◌, ℕ, zero, suc, ◌+◌, ◌-◌, ◌*◌, ◌^◌, ◌≤◌, sym, ap, ◌∙◌, arith, add-mul, suc-mul, mul-add, one-mul, zero-mul, mul_assoc, mul_comm, mul-one, mul-le-mul_right}
use Rattle.std.proofs.Math.Nat.{pow-suc, pow-zero, pow-le-pow_right, two-pow-succ}
use Rattle.std.proofs.lemmas.Nat.{pow_pos, pow-add}
use Rattle.layout.specs.Slots.{slots_at, rows_at, rows_below, heads_below, scale_rows, scale_heads}

pub pow_mono : (i j : ℕ) → i ≤ j → 2 ^ i ≤ 2 ^ j
pow_mono i j h = pow-le-pow_right (omega arith) h

-- the rows of a slot, and one more
pub rows_and_one : (top j : ℕ) → rows_at top j + 1 ≡ 2 ^ j * (top + 1)
rows_and_one top j = omega (arith, mul-le-mul_right {m = 1} {n = 2 ^ j} (top + 1) (pow_pos j), one-mul (top + 1))

-- the rows of one level
level_rows : (top j : ℕ) → j ≤ top → slots_at top j * rows_at top j + (2 ^ (top - j) + 1) ≡ 2 ^ top * (top + 1) + 2 ^ j * (top + 1)
level_rows top j h =
    let some = 2 ^ (top - j) in
    let split : top ≡ (top - j) + j = omega arith in
    let pow : some * 2 ^ j ≡ 2 ^ top = sym (ap (λ z. 2 ^ z) split ∙ pow-add 2 (top - j) j) in
    let whole : some * (rows_at top j + 1) ≡ 2 ^ top * (top + 1) = ap (λ z. some * z) (rows_and_one top j) ∙ sym (mul_assoc some (2 ^ j) (top + 1)) ∙ ap (λ z. z * (top + 1)) pow in
    omega (arith, whole, rows_and_one top j, mul-add some (rows_at top j) 1, mul-one some, add-mul some 1 (rows_at top j), one-mul (rows_at top j))

pub rows_closed : (top j : ℕ) → j ≤ top + 1 → rows_below top j + (2 ^ (top + 1) + (top + 1) + j) ≡ j * (2 ^ top * (top + 1)) + 2 ^ (top + 1 - j) + 2 ^ j * (top + 1)
rows_closed top zero h = let none : top + 1 - 0 ≡ top + 1 = omega arith in omega (arith, ap (λ z. 2 ^ z) none, zero-mul (2 ^ top * (top + 1)), one-mul (top + 1))
rows_closed top (suc j) h =
    let one : top + 1 - j ≡ suc (top - j) = omega arith in
    let same : top + 1 - suc j ≡ top - j = omega arith in
    omega (arith, rows_closed top j (omega arith), level_rows top j (omega arith), suc-mul j (2 ^ top * (top + 1)), ap (λ z. 2 ^ z) one, two-pow-succ (top - j), ap (λ z. 2 ^ z) same, ap (λ z. z * (top + 1)) (two-pow-succ j), add-mul (2 ^ j) (2 ^ j) (top + 1))

pub heads_closed : (top j : ℕ) → j ≤ top + 1 → heads_below top j + 2 ^ (top + 1 - j) ≡ 2 ^ (top + 1) + j
heads_closed top zero h = let none : top + 1 - 0 ≡ top + 1 = omega arith in omega (arith, ap (λ z. 2 ^ z) none)
heads_closed top (suc j) h =
    let one : top + 1 - j ≡ suc (top - j) = omega arith in
    let same : top + 1 - suc j ≡ top - j = omega arith in
    omega (arith, heads_closed top j (omega arith), ap (λ z. 2 ^ z) one, two-pow-succ (top - j), ap (λ z. 2 ^ z) same)

-- the same, by the slots and the rows of the level itself
pub rows_by_level : (top j : ℕ) → j ≤ top → rows_below top j + (2 ^ (top + 1) + (top + 1) + j + 1) ≡ j * (2 ^ top * (top + 1)) + 2 * slots_at top j + rows_at top j
rows_by_level top j h =
    let one : top + 1 - j ≡ suc (top - j) = omega arith in
    omega (arith, rows_closed top j (omega arith), rows_and_one top j, ap (λ z. 2 ^ z) one, two-pow-succ (top - j))

pub heads_by_level : (top j : ℕ) → j ≤ top → heads_below top j + 2 * slots_at top j ≡ 2 ^ (top + 1) + j + 2
heads_by_level top j h =
    let one : top + 1 - j ≡ suc (top - j) = omega arith in
    omega (arith, heads_closed top j (omega arith), ap (λ z. 2 ^ z) one, two-pow-succ (top - j))

pow_two : (n : ℕ) → n ^ 2 ≡ n * n
pow_two n = pow-suc n 1 ∙ ap (λ z. z * n) (pow-suc n 0 ∙ ap (λ z. z * n) (pow-zero n) ∙ one-mul n)

-- a whole scale is its levels, all of them
pub rows_of_scale : (top : ℕ) → rows_below top (top + 1) ≡ scale_rows top
rows_of_scale top =
    let none : top + 1 - (top + 1) ≡ 0 = omega arith in
    let square : (top + 1) * (2 ^ top * (top + 1)) ≡ (top + 1) ^ 2 * 2 ^ top = ap (λ z. (top + 1) * z) (mul_comm (2 ^ top) (top + 1)) ∙ sym (mul_assoc (top + 1) (top + 1) (2 ^ top)) ∙ ap (λ z. z * 2 ^ top) (sym (pow_two (top + 1))) in
    let last : 2 ^ (top + 1) * (top + 1) ≡ top * 2 ^ (top + 1) + 2 ^ (top + 1) = mul_comm (2 ^ (top + 1)) (top + 1) ∙ omega (arith, add-mul top 1 (2 ^ (top + 1)), one-mul (2 ^ (top + 1))) in
    omega (arith, rows_closed top (top + 1) (omega arith), square, last, ap (λ z. 2 ^ z) none)

pub heads_of_scale : (top : ℕ) → heads_below top (top + 1) ≡ scale_heads top
heads_of_scale top =
    let none : top + 1 - (top + 1) ≡ 0 = omega arith in
    omega (arith, heads_closed top (top + 1) (omega arith), ap (λ z. 2 ^ z) none)

-- the same by its last level, which has two slots
last_slots : (top : ℕ) → slots_at top top ≡ 2
last_slots top = let none : top - top ≡ 0 = omega arith in omega (arith, ap (λ z. 2 ^ z) none)

pub rows_by_last : (top : ℕ) → rows_below top top + 2 * rows_at top top ≡ scale_rows top
rows_by_last top =
    let next : top + 1 ≡ suc top = omega arith in
    omega (arith, rows_of_scale top, ap (rows_below top) next, ap (λ n. n * rows_at top top) (last_slots top))

pub heads_by_last : (top : ℕ) → heads_below top top + 2 ≡ scale_heads top
heads_by_last top =
    let next : top + 1 ≡ suc top = omega arith in
    omega (arith, heads_of_scale top, ap (heads_below top) next, last_slots top)
