-- A hundredfold width, scaled by an accuracy, keeps within 64 bits. Assumes nothing.
use Rattle.std.proofs.Common.{◌≡◌, ℕ, ◌*◌, ◌%◌, ◌^◌, ◌<◌, ◌≤◌, arith}
use Rattle.std.proofs.Math.Nat.{mod-eq_of_lt}
use Rattle.std.proofs.Math.Pow.{pow_mono}
use Rattle.std.proofs.lemmas.Nat.{mul-le}

pub scaled_whole : (width a : ℕ) → width < 4294967296 → a ≤ 6 → 100 * width * 2 ^ a % 18446744073709551616 ≡ 100 * width * 2 ^ a
scaled_whole width a narrow few =
    let small : 100 * width * 2 ^ a ≤ 429496729500 * 64 = mul-le (100 * width) (2 ^ a) 429496729500 64 (omega arith) (pow_mono {i = a} {j = 6} few) in
    mod-eq_of_lt (omega arith)
