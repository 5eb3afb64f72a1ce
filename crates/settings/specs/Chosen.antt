-- What a setting is made of. Assumes nothing.
use Rattle.std.specs.Prelude.{ℕ, ◌+◌, ◌≤◌}

-- how exact it is, and how long a window it can hold
pub record Chosen : Type 0 where
  pub accuracy : ℕ
  pub span : ℕ

-- the limits of both; the span lies above the accuracy by a margin
abbrev pub least_accuracy : ℕ
least_accuracy = 1

abbrev pub most_accuracy : ℕ
most_accuracy = 6

abbrev pub least_margin : ℕ
least_margin = 3

abbrev pub most_span : ℕ
most_span = 20

-- the settings that there are
pub record IsInRange (accuracy span : ℕ) : Type 0 where
  pub coarsest : least_accuracy ≤ accuracy
  pub finest : accuracy ≤ most_accuracy
  pub shortest : accuracy + least_margin ≤ span
  pub longest : span ≤ most_span
