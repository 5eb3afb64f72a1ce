-- What is printed about an input, by its lines.
use Rattle.std.specs.Prelude.{ℕ, ◌+◌, List, [], ◌∷◌, ◌++◌, map, take, Ok, Err, Result}
use Rattle.std.specs.List.{filter_map}
use Rattle.std.specs.Result.{result_ok}
use Rattle.lines.specs.Lines.{lines_of}
use Rattle.sentences.specs.declared.error.SentenceError.{SentenceError}
use Rattle.watch.specs.Printed.{refused_text}

-- How many lines of an input are treated at most.
abbrev pub most_lines : ℕ
most_lines = 1000000

-- The texts of an input's lines that are treated.
abbrev pub texts_of : List ℕ → List (List ℕ)
texts_of input = take most_lines (map (λ line. line.text) (lines_of input))

-- What was read of line number n: nothing is printed of a value, and a refusal is.
abbrev pub outcome_text : {V : Type 0} → ℕ → Result V SentenceError → List ℕ
outcome_text n (Ok value) = []
outcome_text n (Err error) = refused_text n error

module _ {V : Type 0} (reading : List ℕ → Result V SentenceError) where
  -- What is printed about lines, of which the first has the number n, from their texts.
  abbrev pub lines_report : ℕ → List (List ℕ) → List ℕ
  lines_report n [] = []
  lines_report n (text ∷ texts) = outcome_text n (reading text) ++ lines_report (n + 1) texts

  -- The values that are read of lines.
  abbrev pub values_of : List (List ℕ) → List V
  values_of texts = filter_map (λ text. result_ok (reading text)) texts

  -- All that is printed about an input, where `ending` is what is printed at last of the values.
  abbrev pub report : (List V → List ℕ) → List ℕ → List ℕ
  report ending input = lines_report 1 (texts_of input) ++ ending (values_of (texts_of input))
