-- Verdicts worked out by hand. Assumes nothing.
use Rattle.std.specs.Prelude.{◌≡◌, ℕ, true, false, Err, ◌∷◌, []}
use Rattle.keeper.specs.declared.refusal.Refusal.TheVariants.{ShortTable}
use Rattle.likeness.specs.declared.sounding.SoundingKey.{SoundingKey}
use Rattle.verdicts.specs.declared.judgement.Verdict.TheVariants.{Held, Clear, Unsure}
use Rattle.verdicts.specs.declared.refusal.VerdictRefusal.TheVariants.{Class, Keeper}
use Rattle.verdicts.specs.Refusals.{is_class, number_of, verdict_answer}
use Rattle.verdicts.specs.Verdicts.{sums_below, verdict_of}

pub record VerdictCases : Type 0 where
  -- one of five is less than a quarter, and one of four is not
  pub fifth : verdict_of 5 (1, 1) ≡ Clear
  pub quarter : verdict_of 4 (1, 1) ≡ Held
  -- the floor is less than a quarter, the ceiling is one
  pub between : verdict_of 4 (0, 1) ≡ Unsure
  pub more : verdict_of 100 (24, 25) ≡ Unsure
  pub all : verdict_of 5 (5, 5) ≡ Held
  -- a sounder that never came is clear, and an empty window says nothing
  pub silent : verdict_of 5 (0, 0) ≡ Clear
  pub empty : verdict_of 0 (0, 0) ≡ Unsure

-- brackets whose floor tells the band
abbrev pub by_band : SoundingKey → ℕ × ℕ
by_band key = (key.band, 10)

pub record AskingCases : Type 0 where
  -- class 3 is too shallow in the bands 0, 1 and 2
  pub three : sums_below by_band (83 ∷ 68 ∷ []) 3 ≡ (3, 30)
  -- the classes are 1 to 6
  pub zero_is_none : is_class 0 ≡ false
  pub first : is_class 1 ≡ true
  pub last : is_class 6 ≡ true
  pub seven_is_none : is_class 7 ≡ false
  -- tables come before the class, whose refusal has the number 11
  pub tables_first : verdict_answer {X = ℕ} (record { rows = 1; heads = 0 }) (record { rows = 0; heads = 0 }) 7 0 ≡ Err (Keeper ShortTable)
  pub class_next : verdict_answer {X = ℕ} (record { rows = 1; heads = 0 }) (record { rows = 1; heads = 0 }) 7 0 ≡ Err Class
  pub eleven : number_of Class ≡ 11
