-- Brackets of unlike keys are added pairwise, and stay close for what the keys count together. Assumes nothing.
use Rattle.std.proofs.Common.{◌≡◌, ℕ, ◌+◌, ◌-◌, ◌*◌, ◌^◌, List, refl, ap, add-mul, mul-add, arith}
use Rattle.keeper.specs.Rules.{Bracket}
use Rattle.verdicts.specs.Rules.{Sums}
use Rattle.likeness.specs.Agree.{same_sounding}
use Rattle.likeness.specs.Counts.{true_count, truly_short}
use Rattle.likeness.specs.declared.sounding.SoundingKey.{SoundingKey}
use Rattle.verdicts.specs.Verdicts.{added, sums_below}
use Rattle.verdicts.proofs.ShortKeys.{next, short_more, short_none}

-- the sums of one band more
pub below_more : (bracket : SoundingKey → ℕ × ℕ) (sounder : List ℕ) (band : ℕ) → sums_below bracket sounder (band + 1) ≡ added (sums_below bracket sounder band) (bracket (record { sounder = sounder; band = band }))
below_more bracket sounder band = ap (sums_below bracket sounder) (next band)

sums_none : (a n : ℕ) → Sums a n 0 0 (0, 0)
sums_none a n = record { floor = omega arith; ceiling = omega arith; near = λ some. omega arith; none = λ empty. refl }

sums_more : (a n count keys more : ℕ) (sums bracket : ℕ × ℕ) → Sums a n count keys sums → Bracket a n more bracket → Sums a n (count + more) (keys + 1) (added sums bracket)
sums_more a n count keys more sums bracket s b =
    let gap : (sums.1 + bracket.1) - (sums.0 + bracket.0) ≡ (sums.1 - sums.0) + (bracket.1 - bracket.0) = omega (arith, s.floor, s.ceiling, b.floor, b.ceiling) in
    record {
      floor = omega (arith, s.floor, b.floor);
      ceiling = omega (arith, s.ceiling, b.ceiling);
      near = λ some.
          let wide : 2 ^ a * ((sums.1 + bracket.1) - (sums.0 + bracket.0)) ≡ 2 ^ a * (sums.1 - sums.0) + 2 ^ a * (bracket.1 - bracket.0) = rw gap (mul-add (2 ^ a) (sums.1 - sums.0) (bracket.1 - bracket.0)) in
          let all : (keys + 1) * n ≡ keys * n + 1 * n = add-mul keys 1 n in
          omega (arith, wide, all, s.near some, b.near some);
      none = λ empty. rw (s.none empty) (rw (b.none empty) refl);
    }

-- the sums are close for what is truly short: of no band, and of one band more
module _ (a n : ℕ) (window : List SoundingKey) (sounder : List ℕ) where
  pub short_sums_none : Sums a n (truly_short window sounder 0) 0 (0, 0)
  short_sums_none = rw (short_none window sounder) (sums_none a n)

  pub short_sums_more : (band : ℕ) (sums bracket : ℕ × ℕ) → Sums a n (truly_short window sounder band) band sums
      → Bracket a n (true_count same_sounding window (record { sounder = sounder; band = band })) bracket
      → Sums a n (truly_short window sounder (band + 1)) (band + 1) (added sums bracket)
  short_sums_more band sums bracket s b = rw (short_more window sounder band) (sums_more a n (truly_short window sounder band) band _ sums bracket s b)
