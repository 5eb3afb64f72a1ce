-- The fields of a depth sentence, and the clearance that they give.
-- Of the bytes, 44 is the comma, 45 the minus, 46 the point, 48 the digit 0.
use Rattle.std.specs.Prelude.{ℕ, ◌+◌, ◌-◌, ◌*◌, Bool, if◌then◌else◌, not, ◌&&◌, List, [], ◌∷◌, length, take, drop, ℤ, pos, ◌-ℤ◌, Some, None, Err, Option, Result, ◌==◌}
use Rattle.std.specs.Option.{option_map}
use Rattle.std.specs.List.{prefix_len}
use Rattle.sentences.specs.Bytes.{is_digit}
use Rattle.sentences.specs.Refusals.{unless}
use Rattle.sentences.specs.declared.error.SentenceError.{SentenceError}
use Rattle.sentences.specs.declared.error.SentenceError.TheVariants.{NoClearance}

-- what a field is made of: any byte but the comma
abbrev pub not_comma : ℕ → Bool
not_comma b = not (b == 44)

-- the text of the field that a comma begins, and what follows it
abbrev pub next_field : List ℕ → Option (List ℕ × List ℕ)
next_field [] = None
next_field (comma ∷ bytes) = Some (take (prefix_len not_comma bytes) bytes, drop (prefix_len not_comma bytes) bytes)

-- the number that one to four digits write
abbrev pub decimal_few : List ℕ → Option ℕ
decimal_few [] = None
decimal_few (a ∷ []) = Some (a - 48)
decimal_few (a ∷ b ∷ []) = Some (10 * (a - 48) + (b - 48))
decimal_few (a ∷ b ∷ c ∷ []) = Some (100 * (a - 48) + 10 * (b - 48) + (c - 48))
decimal_few (a ∷ b ∷ c ∷ d ∷ []) = Some (1000 * (a - 48) + 100 * (b - 48) + 10 * (c - 48) + (d - 48))
decimal_few (a ∷ b ∷ c ∷ d ∷ e ∷ more) = None

-- the centimetres past the whole metres: nothing, or a point and one or two digits
abbrev pub hundredths_of : List ℕ → Option ℕ
hundredths_of [] = Some 0
hundredths_of (p ∷ []) = None
hundredths_of (p ∷ a ∷ []) = if p == 46 && is_digit a then Some (10 * (a - 48)) else None
hundredths_of (p ∷ a ∷ b ∷ []) = if p == 46 && (is_digit a && is_digit b) then Some (10 * (a - 48) + (b - 48)) else None
hundredths_of (p ∷ a ∷ b ∷ c ∷ more) = None

-- a number in metres as centimetres: one to four digits, and what may follow them
abbrev pub metres_of : List ℕ → Option ℕ
metres_of text =
    elim (decimal_few (take (prefix_len is_digit text) text)) [ None ↦ None | Some whole ↦ option_map (λ part. 100 * whole + part) (hundredths_of (drop (prefix_len is_digit text) text)) ]

-- how far the keel is below the transducer: a minus and a number in metres
abbrev pub keel_of : List ℕ → Option ℕ
keel_of [] = None
keel_of (sign ∷ text) = if sign == 45 then metres_of text else None

-- the column of a fourth field, where one follows a third whose comma stands at `column`
abbrev pub fourth_at : ℕ → Option (List ℕ × List ℕ) → Option ℕ
fourth_at column None = None
fourth_at column (Some third) = if length third.1 == 0 then None else Some (column + 2 + length third.0)

-- the same in what follows the offset, from `column` on
abbrev pub extra_of : ℕ → List ℕ → Option ℕ
extra_of column rest = fourth_at column (next_field rest)

-- what comes of an answer that has to be there, or no clearance, at its column
abbrev pub needed : {A : Type 0} → Option A → ℕ → (A → Result ℤ SentenceError) → Result ℤ SentenceError
needed None column next = Err (NoClearance column)
needed (Some x) column next = next x

-- no clearance, at the column of a fourth field, or else what is right
abbrev pub unless_extra : {A : Type 0} → Option ℕ → A → Result A SentenceError
unless_extra column right = unless NoClearance column right

-- the clearance that fields give, from the column where they begin: depth less what the keel takes of it
abbrev pub clearance_of : ℕ → List ℕ → Result ℤ SentenceError
clearance_of column fields =
    needed (next_field fields) column (λ depth.
    needed (metres_of depth.0) (column + 1) (λ deep.
    needed (next_field depth.1) (column + 1 + length depth.0) (λ offset.
    needed (keel_of offset.0) (column + 1 + length depth.0 + 1) (λ keel.
    unless_extra (extra_of (column + 1 + length depth.0 + 1 + length offset.0) offset.1) (pos deep -ℤ pos keel)))))
