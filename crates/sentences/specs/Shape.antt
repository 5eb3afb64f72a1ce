-- Where a sentence's shape goes wrong, byte by byte. Of the bytes, 36 is `$`, 42 `*`, 44 the comma.
use Rattle.std.specs.Prelude.{ℕ, ◌+◌, ◌-◌, if◌then◌else◌, List, [], ◌∷◌, Some, None, Option, Result, ◌==◌, nat_lt}
use Rattle.sentences.specs.Bytes.{is_address_byte, is_field_byte, is_hex_digit}
use Rattle.sentences.specs.Refusals.{unless}
use Rattle.sentences.specs.declared.error.SentenceError.{SentenceError}
use Rattle.sentences.specs.declared.error.SentenceError.TheVariants.{Shape}
use Rattle.sentences.specs.declared.shape.Expect.{Expect}
use Rattle.sentences.specs.declared.shape.Expect.TheVariants.{Dollar, Address, Separator, Fields, HighDigit, LowDigit, End}

-- what has to follow once `b` came where `e` was expected; nothing where `b` is wrong there
abbrev pub after : Expect → ℕ → Option Expect
after Dollar b = if b == 36 then Some (Address 4) else None
after (Address left) b = if is_address_byte b then Some (if left == 0 then Separator else Address (left - 1)) else None
after Separator b = if b == 44 then Some Fields else (if b == 42 then Some HighDigit else None)
after Fields b = if is_field_byte b then Some Fields else (if b == 42 then Some HighDigit else None)
after HighDigit b = if is_hex_digit b then Some LowDigit else None
after LowDigit b = if is_hex_digit b then Some End else None
after End b = None

-- the column that is wrong where a sentence ends and `e` is expected
abbrev pub end_fault : Expect → ℕ → Option ℕ
end_fault Dollar column = Some column
end_fault (Address left) column = Some column
end_fault Separator column = Some column
end_fault Fields column = Some column
end_fault HighDigit column = Some column
end_fault LowDigit column = Some column
end_fault End column = None

-- the first wrong column of bytes that begin at `column`, where `e` is expected; no byte is right past column 80
abbrev pub fault_from : Expect → ℕ → List ℕ → Option ℕ
fault_from e column [] = end_fault e column
fault_from e column (b ∷ bs) =
    if nat_lt 80 column then Some column else elim (after e b) [ None ↦ Some column | Some next ↦ fault_from next (column + 1) bs ]

-- the first wrong column of a sentence
abbrev pub shape_fault : List ℕ → Option ℕ
shape_fault bytes = fault_from Dollar 1 bytes

-- what is right, unless a column is wrong
abbrev pub unless_fault : {A : Type 0} → Option ℕ → A → Result A SentenceError
unless_fault column right = unless Shape column right
