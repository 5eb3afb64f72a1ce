-- How far a watch has come, and which lines it treats on the way. Of the line under way 82 bytes are kept at most.
use Rattle.std.specs.Prelude.{◌≡◌, ℕ, ◌+◌, if◌then◌else◌, List, [], ◌∷◌, ◌++◌, fold, Result, ◌==◌, nat_lt}
use Rattle.std.specs.List.{flat_map}
use Rattle.std.specs.Option.{option_to_list}
use Rattle.lines.specs.Kept.{keep_byte, keep_bytes, line_of, last_of}
use Rattle.sentences.specs.declared.error.SentenceError.{SentenceError}
use Rattle.watch.specs.Report.{most_lines, lines_report, values_of}

-- The bytes that are kept of the line under way, and how many lines have been treated.
pub record Progress : Type 0 where
  pub kept : List ℕ
  pub lines : ℕ

-- A watch: how far it has come, and its counter.
pub record Watched (C : Type 0) : Type 0 where
  pub progress : Progress
  pub counter : C

abbrev pub start : Progress
start = record { kept = []; lines = 0 }

-- One more line ends, after so many: it is treated if it is among the first million.

abbrev pub lines_after : ℕ → ℕ
lines_after lines = if nat_lt lines most_lines then lines + 1 else lines

abbrev pub treated : ℕ → List ℕ → List (List ℕ)
treated lines text = if nat_lt lines most_lines then text ∷ [] else []

-- A byte comes: an LF, 10, ends the line, and any other byte is kept.

abbrev pub take_byte : Progress → ℕ → Progress
take_byte p b =
    if b == 10 then record { kept = []; lines = lines_after p.lines }
    else record { kept = keep_byte p.kept b; lines = p.lines }

abbrev pub byte_texts : Progress → ℕ → List (List ℕ)
byte_texts p b = if b == 10 then treated p.lines (line_of p.kept) else []

-- More bytes of the line under way come, of which none is an LF.
abbrev pub kept_more : Progress → List ℕ → Progress
kept_more p bs = record { kept = keep_bytes p.kept bs; lines = p.lines }

-- Bytes come, and these are the texts of the lines that are treated meanwhile.

abbrev pub take_bytes : Progress → List ℕ → Progress
take_bytes p bs = fold take_byte p bs

abbrev pub texts_ended : Progress → List ℕ → List (List ℕ)
texts_ended p [] = []
texts_ended p (b ∷ bs) = byte_texts p b ++ texts_ended (take_byte p b) bs

-- The input ends: there may be a last line that no LF ends.
abbrev pub last_texts : Progress → List (List ℕ)
last_texts p = flat_map (treated p.lines) (option_to_list (last_of p.kept))

module _ {V : Type 0} (reading : List ℕ → Result V SentenceError) where
  -- What is printed while bytes come.
  abbrev pub bytes_text : Progress → List ℕ → List ℕ
  bytes_text p bs = lines_report reading (p.lines + 1) (texts_ended p bs)

  -- What is read while bytes come.
  abbrev pub bytes_values : Progress → List ℕ → List V
  bytes_values p bs = values_of reading (texts_ended p bs)

  -- What is printed where the input ends, after these values.
  abbrev pub last_text : (List V → List ℕ) → Progress → List V → List ℕ
  last_text ending p values = lines_report reading (p.lines + 1) (last_texts p) ++ ending (values ++ values_of reading (last_texts p))

  -- A watch that has come so far was made new and fed pieces that join to `input`, and has printed `said` about it.
  pub record Fed {C : Type 0} (holds : C → List V → Type 0) (watch : Watched C) (input said : List ℕ) : Type 0 where
    pub came : watch.progress ≡ take_bytes start input
    pub counted : holds watch.counter (bytes_values start input)
    pub text : said ≡ bytes_text start input
