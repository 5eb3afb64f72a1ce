-- What a cutter keeps of the line under way, and what it hands out of it.
-- 81 bytes of a text are handed out at most. To know them, the first 82 bytes since the last LF are kept, with a CR that may belong to the end.
use Rattle.std.specs.Prelude.{◌≡◌, ℕ, if◌then◌else◌, List, [], ◌∷◌, ◌++◌, length, take, fold, Some, None, Option, nat_lt}
use Rattle.lines.specs.Lines.{without_cr}

-- The bytes that are kept are as they have to be after the bytes `raw` since the last LF.
abbrev pub After : List ℕ → List ℕ → Type 0
After kept raw = kept ≡ take 82 raw

-- What is kept after one more byte.
abbrev pub keep_byte : List ℕ → ℕ → List ℕ
keep_byte bytes b = if nat_lt (length bytes) 82 then bytes ++ b ∷ [] else bytes

-- What is kept after more bytes, one after another.
abbrev pub keep_bytes : List ℕ → List ℕ → List ℕ
keep_bytes bytes bs = fold keep_byte bytes bs

-- The text that is handed out of a line that an LF ends, from the bytes that are kept.
abbrev pub line_of : List ℕ → List ℕ
line_of bytes = take 81 (without_cr bytes)

-- The text that is handed out of a last line that no LF ends.
abbrev pub last_of : List ℕ → Option (List ℕ)
last_of [] = None
last_of (b ∷ bs) = Some (take 81 (b ∷ bs))
