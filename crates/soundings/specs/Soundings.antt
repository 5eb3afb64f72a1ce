-- What bedwatch reads of a line, and what it says of all that it read. Assumes nothing.
use Rattle.std.specs.Prelude.{◌≡◌, ℕ, true, List, [], ◌∷◌, ◌++◌, length, Ok, Err, Result, codes}
use Rattle.std.specs.List.{flat_map}
use Rattle.sentences.specs.declared.error.SentenceError.{SentenceError}
use Rattle.sentences.specs.declared.reader.Reading.{Reading}
use Rattle.sentences.specs.Reader.{reading_of}
use Rattle.bands.specs.Bands.{band}
use Rattle.likeness.specs.Agree.{same_sounding}
use Rattle.likeness.specs.declared.sounding.SoundingKey.{SoundingKey}
use Rattle.keeper.specs.Figures.{Figures}
use Rattle.ladder.specs.Exact.{counts}
use Rattle.ladder.specs.Truth.{HoldsWindow}
use Rattle.likeness.specs.Counts.{truly_short}
use Rattle.verdicts.specs.declared.judgement.Judgement.{Judgement}
use Rattle.verdicts.specs.Refusals.{is_class}
use Rattle.verdicts.specs.Rules.{IsRight}
use Rattle.verdicts.specs.Verdicts.{judged, sums_below}
use Rattle.latest.specs.Latest.{earlier, latest}
use Rattle.latest.specs.WithTables.{HoldsLatestIn, InTables}
use Rattle.soundings.specs.Printed.{class_text, readings_text}

-- A reading as it is counted: its sounder, and the band of its clearance.
abbrev pub key_from : Reading → SoundingKey
key_from reading = record { sounder = reading.sounder; band = band reading.clearance }

abbrev pub as_key : Result Reading SentenceError → Result SoundingKey SentenceError
as_key (Ok reading) = Ok (key_from reading)
as_key (Err error) = Err error

abbrev pub key_of : List ℕ → Result SoundingKey SentenceError
key_of text = as_key (reading_of text)

-- How many soundings the window has at most, and the sounder at the berth.
abbrev pub most_soundings : ℕ
most_soundings = 256

abbrev pub berth_sounder : List ℕ
berth_sounder = codes "SD"

-- The bracket of a key in the window: what a ladder of accuracy 1 and span 9 counts of it, by the soundings that came and by no table.
abbrev pub bracket_in : List SoundingKey → SoundingKey → ℕ × ℕ
bracket_in soundings key = counts same_sounding 1 9 (earlier most_soundings soundings) (latest most_soundings soundings) key

-- What is said of a class of ferry.
abbrev pub judgement_on : List SoundingKey → ℕ → Judgement
judgement_on soundings class = judged (length (latest most_soundings soundings)) (sums_below (bracket_in soundings) berth_sounder class)

-- The classes, in the order in which they are printed.
abbrev pub classes : List ℕ
classes = 1 ∷ 2 ∷ 3 ∷ 4 ∷ 5 ∷ 6 ∷ []

-- All that is printed at the end, about these soundings.

abbrev pub classes_text : List SoundingKey → List ℕ
classes_text soundings = flat_map (λ class. class_text class (judgement_on soundings class)) classes

abbrev pub soundings_text : List SoundingKey → List ℕ
soundings_text soundings = readings_text (length (latest most_soundings soundings)) ++ classes_text soundings

-- A counter of soundings is its window: of accuracy 1 and span 9, and of the right size.
pub record IsSet (window : InTables SoundingKey Figures) : Type 0 where
  pub accuracy : window.window.keeper.accuracy ≡ 1
  pub span : window.window.keeper.span ≡ 9
  pub goal : window.window.goal ≡ most_soundings

-- It is right for soundings if it holds the latest of them.
abbrev pub IsRightFor : InTables SoundingKey Figures → List SoundingKey → Type 0
IsRightFor window soundings = HoldsLatestIn (λ s. s) (HoldsWindow same_sounding) window [] soundings

-- What is said of each class is right for the latest soundings.
abbrev pub JudgesRight : List SoundingKey → Type 0
JudgesRight soundings = (class : ℕ) → is_class class ≡ true
    → let window = latest most_soundings soundings in IsRight 1 (length window) (truly_short window berth_sounder class) class (judgement_on soundings class)
