-- The line that is printed of a refusal. It has its LF, 10.
use Rattle.std.specs.Prelude.{ℕ, List, [], ◌∷◌, ◌++◌, codes, decimal}
use Rattle.sentences.specs.Refusals.{refusal_text}
use Rattle.sentences.specs.declared.error.SentenceError.{SentenceError}

-- `line {line} refused {number} at {column}`
abbrev pub refused_text : ℕ → SentenceError → List ℕ
refused_text line error = codes "line " ++ (decimal line ++ (codes " " ++ (refusal_text error ++ (10 ∷ []))))
