-- No cell of the layout has a large number. Assumes nothing.
use Rattle.std.proofs.Common.{ℕ, ◌+◌, ◌-◌, ◌*◌, ◌^◌, ◌<◌, ◌≤◌, arith}
use Rattle.std.proofs.lemmas.Nat.{mul-le}
use Rattle.layout.specs.Inside.{IsLevel, IsShape}
use Rattle.layout.specs.Slots.{slots_at, rows_at, rows_below, heads_below, scale_rows, scale_heads}
use Rattle.layout.proofs.Closed.{pow_mono, rows_closed, rows_of_scale, heads_of_scale}
use Rattle.layout.proofs.Filling.{heads_end, level_by, rows_end}

pub few_rows : (top : ℕ) → top ≤ 9 → scale_rows top < 2 ^ 16
few_rows top h =
    let whole : 2 ^ top * (top + 1) ≤ 512 * 10 = mul-le (2 ^ top) (top + 1) 512 10 (pow_mono top 9 h) (omega arith) in
    let all : (top + 1) * (2 ^ top * (top + 1)) ≤ 10 * 5120 = mul-le (top + 1) (2 ^ top * (top + 1)) 10 5120 (omega arith) whole in
    let last : 2 ^ (top + 1) * (top + 1) ≤ 1024 * 10 = mul-le (2 ^ (top + 1)) (top + 1) 1024 10 (pow_mono (top + 1) 10 (omega arith)) (omega arith) in
    omega (arith, rows_closed top (top + 1) (omega arith), rows_of_scale top, all, last, pow_mono (top + 1 - (top + 1)) 10 (omega arith))

pub few_heads : (top : ℕ) → top ≤ 9 → scale_heads top < 2 ^ 11
few_heads top h = omega (arith, pow_mono (top + 1) 10 (omega arith))

pub rows_small : (top i j : ℕ) → IsLevel top i j → i * scale_rows top + rows_below top j + slots_at top j * rows_at top j < 2 ^ 21
rows_small top i j h = omega (arith, few_rows top h.highest, level_by (rows_at top) top (scale_rows top) (rows_of_scale top) 17 i j (omega (arith, h.lowest, h.scale)) h.level)

pub heads_small : (top i j : ℕ) → IsLevel top i j → i * scale_heads top + heads_below top j + slots_at top j < 2 ^ 16
heads_small top i j h = omega (arith, few_heads top h.highest, level_by (λ k. 1) top (scale_heads top) (heads_of_scale top) 17 i j (omega (arith, h.lowest, h.scale)) h.level)

-- all slots together
last_of : (top scales : ℕ) → IsShape top scales → IsLevel top (scales - 1) top
last_of top scales is = record { lowest = is.lowest; highest = is.highest; scale = omega (arith, is.some, is.few); level = omega arith }

pub shape_rows : (top scales : ℕ) → IsShape top scales → scales * scale_rows top < 2 ^ 21
shape_rows top scales is = omega (arith, rows_end top scales is.some, rows_small top (scales - 1) top (last_of top scales is))

pub shape_heads : (top scales : ℕ) → IsShape top scales → scales * scale_heads top < 2 ^ 16
shape_heads top scales is = omega (arith, heads_end top scales is.some, heads_small top (scales - 1) top (last_of top scales is))
