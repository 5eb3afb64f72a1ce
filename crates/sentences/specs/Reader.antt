-- What is read of bytes: the address of a sentence, or the reading of a depth sentence, or why not.
use Rattle.std.specs.Prelude.{ℕ, ◌-◌, ◌/◌, ◌%◌, Bool, true, false, if◌then◌else◌, ◌&&◌, List, [], ◌∷◌, length, take, drop, ℤ, Some, None, Ok, Err, Option, Result, ◌==◌, slice_index}
use Rattle.sentences.specs.Bytes.{hex_digit, sum_of}
use Rattle.sentences.specs.Fields.{clearance_of}
use Rattle.sentences.specs.Shape.{shape_fault}
use Rattle.sentences.specs.declared.error.SentenceError.{SentenceError}
use Rattle.sentences.specs.declared.error.SentenceError.TheVariants.{Shape, Checksum, NotDepth}
use Rattle.sentences.specs.declared.reader.Address.{Address}
use Rattle.sentences.specs.declared.reader.Reading.{Reading}

-- the sum of what stands between `$` and `*`
abbrev pub sentence_sum : List ℕ → ℕ
sentence_sum bytes = sum_of (take (length bytes - 4) (drop 1 bytes))

-- whether the last two bytes write that sum
abbrev pub sum_right : List ℕ → Bool
sum_right bytes =
    (slice_index bytes (length bytes - 2) == hex_digit (sentence_sum bytes / 16)) && slice_index bytes (length bytes - 1) == hex_digit (sentence_sum bytes % 16)

-- the column of the checksum's first digit
abbrev pub sum_column : List ℕ → ℕ
sum_column bytes = length bytes - 1

-- refuses a sum that the last two bytes do not write
abbrev pub sum_checked : List ℕ → Result (Unit {0}) SentenceError
sum_checked bytes = if sum_right bytes then Ok tt else Err (Checksum (sum_column bytes))

-- the five bytes after the `$`
abbrev pub address_bytes : List ℕ → List ℕ
address_bytes bytes = slice_index bytes 1 ∷ slice_index bytes 2 ∷ slice_index bytes 3 ∷ slice_index bytes 4 ∷ slice_index bytes 5 ∷ []

-- what stands between the address and `*`
abbrev pub fields_of : List ℕ → List ℕ
fields_of bytes = take (length bytes - 9) (drop 6 bytes)

-- the address of a sentence, from where its shape goes wrong and whether its sum is right
abbrev pub address_at : Option ℕ → Bool → List ℕ → Result Address SentenceError
address_at (Some column) right bytes = Err (Shape column)
address_at None true bytes = Ok (record { bytes = address_bytes bytes })
address_at None false bytes = Err (Checksum (sum_column bytes))

-- the address of a sentence of right shape and checksum
abbrev pub address_of : List ℕ → Result Address SentenceError
address_of bytes = address_at (shape_fault bytes) (sum_right bytes) bytes

-- the sounder, the first two bytes of an address that ends in DPT (68, 80, 84)
abbrev pub sounder_of : List ℕ → Option (List ℕ)
sounder_of address =
    if slice_index address 2 == 68 && (slice_index address 3 == 80 && slice_index address 4 == 84) then Some (slice_index address 0 ∷ slice_index address 1 ∷ []) else None

-- a reading, of a sounder and a clearance
abbrev pub with_clearance : List ℕ → Result ℤ SentenceError → Result Reading SentenceError
with_clearance sounder (Err error) = Err error
with_clearance sounder (Ok clearance) = Ok (record { sounder = sounder; clearance = clearance })

-- a reading, from the sounder of a depth sentence and its fields
abbrev pub depth_at : Option (List ℕ) → List ℕ → Result Reading SentenceError
depth_at None fields = Err NotDepth
depth_at (Some sounder) fields = with_clearance sounder (clearance_of 7 fields)

-- a reading, from the address of a sentence and its fields
abbrev pub reading_at : Result Address SentenceError → List ℕ → Result Reading SentenceError
reading_at (Err error) fields = Err error
reading_at (Ok address) fields = depth_at (sounder_of address.bytes) fields

-- the reading of a depth sentence
abbrev pub reading_of : List ℕ → Result Reading SentenceError
reading_of bytes = reading_at (address_of bytes) (fields_of bytes)
