-- A clearance is below a class's limit exactly where it reaches fewer limits than that class's number. Assumes nothing.
use Rattle.std.proofs.Common.{◌≡◌, ℕ, zero, suc, ◌<◌, ◌≤◌, ◌↔◌, ℤ, ◌<ℤ◌, arith}
use Rattle.std.proofs.lemmas.Int.{ints}
use Rattle.bands.specs.Bands.{band, limit}

-- class by class: the limits rise, so that one that is reached has all limits before it reached too
pub short : (z : ℤ) (value : ℕ) → value ≡ band z → (class : ℕ) → 1 ≤ class → class ≤ 6 → (value < class) ↔ (z <ℤ limit class)
short z value e zero low high = absurd (omega arith)
short z value e (suc zero) low high = grind (arith, ints)
short z value e (suc (suc zero)) low high = grind (arith, ints)
short z value e (suc (suc (suc zero))) low high = grind (arith, ints)
short z value e (suc (suc (suc (suc zero)))) low high = grind (arith, ints)
short z value e (suc (suc (suc (suc (suc zero))))) low high = grind (arith, ints)
short z value e (suc (suc (suc (suc (suc (suc zero)))))) low high = grind (arith, ints)
short z value e (suc (suc (suc (suc (suc (suc (suc n))))))) low high = absurd (omega arith)
