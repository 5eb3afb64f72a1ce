-- The number and the column of each refusal, for code and promises alike.
use Rattle.std.specs.Prelude.{ℕ, List, ◌++◌, Some, None, Ok, Err, Option, Result, codes, decimal}
use Rattle.sentences.specs.declared.error.SentenceError.{SentenceError}
use Rattle.sentences.specs.declared.error.SentenceError.TheVariants.{Shape, Checksum, NotDepth, NoClearance}

abbrev pub number_of : SentenceError → ℕ
number_of (Shape column) = 12
number_of (Checksum column) = 13
number_of NotDepth = 14
number_of (NoClearance column) = 15

-- an address stands at column 2
abbrev pub column_of : SentenceError → ℕ
column_of (Shape column) = column
column_of (Checksum column) = column
column_of NotDepth = 2
column_of (NoClearance column) = column

-- a refusal in words: `refused NUMBER at COLUMN`
abbrev pub refusal_text : SentenceError → List ℕ
refusal_text error = codes "refused " ++ (decimal (number_of error) ++ (codes " at " ++ decimal (column_of error)))

-- what is right, or the refusal of a column that is not
abbrev pub unless : {A : Type 0} → (ℕ → SentenceError) → Option ℕ → A → Result A SentenceError
unless refusal None right = Ok right
unless refusal (Some column) right = Err (refusal column)
