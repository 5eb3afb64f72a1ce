-- The rule of the verdicts, from the brackets of a keeper. Assumes nothing.
use Rattle.std.specs.Prelude.{ℕ, ◌+◌, ◌*◌, zero, suc, if◌then◌else◌, ◌&&◌, List, ◌++◌, nat_le, nat_lt, codes, decimal}
use Rattle.likeness.specs.declared.sounding.SoundingKey.{SoundingKey}
use Rattle.verdicts.specs.declared.judgement.Judgement.{Judgement}
use Rattle.verdicts.specs.declared.judgement.Verdict.{Verdict}
use Rattle.verdicts.specs.declared.judgement.Verdict.TheVariants.{Held, Clear, Unsure}

-- brackets are added pairwise
abbrev pub added : ℕ × ℕ → ℕ × ℕ → ℕ × ℕ
added sums bracket = (sums.0 + bracket.0, sums.1 + bracket.1)

-- the sum of the brackets of a sounder's keys in the bands 0 to class - 1, which are too shallow for the class
abbrev pub sums_below : (SoundingKey → ℕ × ℕ) → List ℕ → ℕ → ℕ × ℕ
sums_below bracket sounder zero = (0, 0)
sums_below bracket sounder (suc band) = added (sums_below bracket sounder band) (bracket (record { sounder = sounder; band = band }))

-- a quarter of n keys is too many: by the floors they are so many, or by the ceilings they are not
abbrev pub verdict_of : ℕ → ℕ × ℕ → Verdict
verdict_of n sums =
    if nat_le 1 n && nat_le n (4 * sums.0) then Held
    else if nat_lt (4 * sums.1) n then Clear
    else Unsure

abbrev pub judged : ℕ → ℕ × ℕ → Judgement
judged n sums = record { verdict = verdict_of n sums; floor = sums.0; ceiling = sums.1 }

-- a verdict in a word, and with its sums: `held 5 5`
abbrev pub verdict_text : Verdict → List ℕ
verdict_text Held = codes "held"
verdict_text Clear = codes "clear"
verdict_text Unsure = codes "unsure"

abbrev pub judgement_text : Judgement → List ℕ
judgement_text j = verdict_text j.verdict ++ (codes " " ++ (decimal j.floor ++ (codes " " ++ decimal j.ceiling)))
