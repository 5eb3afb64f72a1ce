-- What the lines of an input are. A byte is a number; 10 is LF and 13 is CR.
use Rattle.std.specs.Prelude.{◌≡◌, ℕ, ◌-◌, Bool, false, if◌then◌else◌, List, [], ◌∷◌, ◌++◌, length, take, ◌==◌, ◌≢◌, slice_index}
use Rattle.std.specs.List.{flat_map, AllByRecursion}
use Rattle.lines.specs.Ends.{IsPlain}

-- How a line ends: with LF alone, with CR and LF, or, where the input ends, with nothing.
pub data End : Type 0 where
  lf : End
  cr_lf : End
  none : End

-- A line: its text and its end.
pub record Line : Type 0 where
  pub text : List ℕ
  pub end : End

-- The bytes of an end.
abbrev pub end_bytes : End → List ℕ
end_bytes lf = 10 ∷ []
end_bytes cr_lf = 13 ∷ 10 ∷ []
end_bytes none = []

-- The bytes of a line.
abbrev pub line_bytes : Line → List ℕ
line_bytes line = line.text ++ end_bytes line.end

-- What is handed out of a line: the first 81 bytes of its text.
abbrev pub shown : Line → List ℕ
shown line = take 81 line.text

-- All but the last of a list.
abbrev pub but_last : {X : Type 0} → List X → List X
but_last xs = take (length xs - 1) xs

-- Whether the last byte is a CR. (No byte at all reads as 0.)
abbrev pub ends_in_cr : List ℕ → Bool
ends_in_cr bytes = slice_index bytes (length bytes - 1) == 13

-- The bytes without a CR at their end.
abbrev pub without_cr : List ℕ → List ℕ
without_cr bytes = if ends_in_cr bytes then but_last bytes else bytes

-- The line that an LF ends, from its bytes before that LF.
abbrev pub ended_line : List ℕ → Line
ended_line raw = record { text = without_cr raw; end = if ends_in_cr raw then cr_lf else lf }

-- The line that the end of the input ends, from its bytes: none if there is no byte.
abbrev pub last_line : List ℕ → List Line
last_line [] = []
last_line (b ∷ bs) = record { text = b ∷ bs; end = none } ∷ []

-- The lines of what is left of an input, where the bytes `raw` have come since the last LF.
abbrev pub lines_from : List ℕ → List ℕ → List Line
lines_from raw [] = last_line raw
lines_from raw (b ∷ bs) = if b == 10 then ended_line raw ∷ lines_from [] bs else lines_from (raw ++ b ∷ []) bs

-- The lines of an input.
abbrev pub lines_of : List ℕ → List Line
lines_of input = lines_from [] input

-- A right cut of an input into lines.
pub record Cut (input : List ℕ) (lines : List Line) : Type 0 where
  -- The lines, one after another, are the input.
  pub whole : flat_map line_bytes lines ≡ input
  -- No text has an LF.
  pub plain : AllByRecursion (λ line. IsPlain line.text) lines
  -- A CR before the LF that ends a line belongs to the end.
  pub stripped : AllByRecursion (λ line. line.end ≡ lf → ends_in_cr line.text ≡ false) lines
  -- Each line but the last has an end.
  pub ended : AllByRecursion (λ line. line.end ≢ none) (but_last lines)
  -- A line with no end has a text.
  pub filled : AllByRecursion (λ line. line.end ≡ none → line.text ≢ []) lines

-- The lines of an input are a right cut of it.
abbrev pub CutRight : Type 0
CutRight = (input : List ℕ) → Cut input (lines_of input)

-- An input has one right cut.
abbrev pub CutOnce : Type 0
CutOnce = (input : List ℕ) (xs ys : List Line) → Cut input xs → Cut input ys → xs ≡ ys
