-- What a verdict promises. Assumes nothing.
use Rattle.std.specs.Prelude.{◌≡◌, ℕ, ◌+◌, ◌-◌, ◌*◌, ◌^◌, ◌<◌, ◌≤◌, List, length, Ok, Result}
use Rattle.likeness.specs.Counts.{truly_short}
use Rattle.likeness.specs.declared.sounding.SoundingKey.{SoundingKey}
use Rattle.tally.specs.declared.rows.Head.{Head}
use Rattle.tally.specs.declared.rows.Row.{Row}
use Rattle.keeper.specs.declared.lengths.Lengths.{Lengths}
use Rattle.keeper.specs.Figures.{Figures}
use Rattle.keeper.specs.Rules.{TrueTo}
use Rattle.keeper.specs.Tables.{lengths, needed}
use Rattle.verdicts.specs.declared.judgement.Judgement.{Judgement}
use Rattle.verdicts.specs.declared.judgement.Verdict.TheVariants.{Held, Clear, Unsure}
use Rattle.verdicts.specs.declared.refusal.VerdictRefusal.{VerdictRefusal}
use Rattle.verdicts.specs.Refusals.{verdict_answer}
use Rattle.verdicts.specs.Verdicts.{judged, sums_below}

-- the sums of the brackets of so many unlike keys, which count `count` together, at accuracy a and in a window of n keys; 2^a times
-- each bracket's width is at least one short of n
pub record Sums (a n count keys : ℕ) (sums : ℕ × ℕ) : Type 0 where
  pub floor : sums.0 ≤ count
  pub ceiling : count ≤ sums.1
  pub near : 1 ≤ n → 2 ^ a * (sums.1 - sums.0) + keys ≤ keys * n
  pub none : n ≡ 0 → sums ≡ (0, 0)

-- a verdict on a class is right, at accuracy a and in a window of n keys of which `count` are truly short for the class
pub record IsRight (a n count class : ℕ) (j : Judgement) : Type 0 where
  pub floor : j.floor ≤ count
  pub ceiling : count ≤ j.ceiling
  -- the sums are close
  pub near : 1 ≤ n → 2 ^ a * (j.ceiling - j.floor) < class * n
  pub none : n ≡ 0 → (j.floor ≡ 0) × (j.ceiling ≡ 0)
  -- held: a quarter of the window or more, and that is one or more
  pub held : j.verdict ≡ Held → (1 ≤ n) × (n ≤ 4 * count)
  -- clear: less than a quarter
  pub clear : j.verdict ≡ Clear → 4 * count < n
  -- unsure: the true count is near a quarter, on either side, unless the window is empty
  pub unsure : j.verdict ≡ Unsure → 1 ≤ n → (2 ^ a * (4 * count - n) < 4 * class * n) × (2 ^ a * (n - 4 * count) < 4 * class * n)

module _ {S : Type 0} (figures : S → Figures) (holds : S → List (Row SoundingKey) → List Head → List SoundingKey → List SoundingKey → Type 0)
    (need : ℕ → ℕ → Lengths) (bracket : S → List (Row SoundingKey) → List Head → SoundingKey → ℕ × ℕ) where
  -- what is said of a class, from the keeper's own counts
  abbrev pub said : S → List (Row SoundingKey) → List Head → List ℕ → ℕ → Judgement
  said s rows heads sounder class = judged (figures s).size (sums_below (bracket s rows heads) sounder class)

  -- a verdict: it follows from record, tables, sounder and class; and one that is given is right for every window that record and
  -- tables are true to
  pub record Judged (s : S) (rows : List (Row SoundingKey)) (heads : List Head) (sounder : List ℕ) (class : ℕ) (r : Result Judgement VerdictRefusal) : Type 0 where
    pub answer : r ≡ verdict_answer (needed figures need s) (lengths rows heads) class (said s rows heads sounder class)
    pub right : (j : Judgement) → r ≡ Ok j → (past window : List SoundingKey) → TrueTo figures holds s rows heads past window
        → IsRight (figures s).accuracy (length window) (truly_short window sounder class) class j
