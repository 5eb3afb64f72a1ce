-- What a sentence is, by its parts: the parts joined are the bytes.
-- Of the bytes, 36 is `$`, 42 `*`, 44 the comma, 45 the minus, 46 the point; 68, 80 and 84 are the letters of DPT.
use Rattle.std.specs.Prelude.{◌≡◌, ℕ, ◌+◌, ◌-◌, ◌*◌, ◌^◌, ◌≤◌, true, ◌⊎◌, List, [], ◌∷◌, ◌++◌, length, take, ℤ, pos, ◌-ℤ◌, fold, ◌≢◌}
use Rattle.std.specs.List.{AllByRecursion}
use Rattle.sentences.specs.Bytes.{is_digit, is_address_byte, is_field_byte, is_hex_digit, hex_text, sum_of}

-- each follows from the other
abbrev pub Exactly : Type 0 → Type 0 → Type 0
Exactly P Q = (P → Q) × (Q → P)

-- fields, if there are any, begin with a comma
abbrev pub CommaFirst : List ℕ → Type 0
CommaFirst [] = Unit {0}
CommaFirst (b ∷ bs) = b ≡ 44

-- right shape, whatever the length: `$`, the address, the fields, `*` and two digits
pub record Shaped (bytes address fields digits : List ℕ) : Type 0 where
  pub joined : bytes ≡ 36 ∷ (address ++ (fields ++ (42 ∷ digits)))
  pub address_five : length address ≡ 5
  pub address_bytes : AllByRecursion (λ b. is_address_byte b ≡ true) address
  pub fields_start : CommaFirst fields
  pub fields_bytes : AllByRecursion (λ b. is_field_byte b ≡ true) fields
  pub digits_two : length digits ≡ 2
  pub digits_hex : AllByRecursion (λ b. is_hex_digit b ≡ true) digits

-- right shape, whatever the parts
abbrev pub WellShaped : List ℕ → Type 0
WellShaped bytes = (address : List ℕ) × (fields : List ℕ) × (digits : List ℕ) × Shaped bytes address fields digits

-- bytes that some well-shaped sentence begins with
abbrev pub Begins : List ℕ → Type 0
Begins bytes = (rest : List ℕ) × WellShaped (bytes ++ rest)

-- The first wrong column, from 1: what stands before it begins a well-shaped sentence. With the byte
-- at the column it begins none, or the bytes end too early, or the column is the one past the limit.
pub record FirstWrong (bytes : List ℕ) (column : ℕ) : Type 0 where
  pub from_one : 1 ≤ column
  pub within : column ≤ length bytes + 1
  pub limit : column ≤ 81
  pub before : Begins (take (column - 1) bytes)
  pub here : column ≤ length bytes → column ≤ 80 → Begins (take column bytes) → ⊥
  pub ended : column ≡ length bytes + 1 → WellShaped bytes → ⊥

-- a sentence: right shape, at most 80 bytes, and the digits write the sum of what stands between `$` and `*`
pub record Sentence (bytes address fields : List ℕ) : Type 0 where
  pub shaped : Shaped bytes address fields (hex_text (sum_of (address ++ fields)))
  pub short : length bytes ≤ 80

-- bytes that are a sentence with this address
abbrev pub HasAddress : List ℕ → List ℕ → Type 0
HasAddress bytes address = (fields : List ℕ) × Sentence bytes address fields

-- the number that digits write
abbrev pub decimal_of : List ℕ → ℕ
decimal_of digits = fold (λ n b. n * 10 + (b - 48)) 0 digits

-- a fraction behind its point, if there is one
abbrev pub pointed : List ℕ → List ℕ
pointed [] = []
pointed (d ∷ ds) = 46 ∷ d ∷ ds

-- a number in metres, by its centimetres: one to four digits, behind which a point with one or two more may stand
pub record Metres (text : List ℕ) (centimetres : ℕ) : Type 0 where
  pub whole : List ℕ
  pub fraction : List ℕ
  pub joined : text ≡ whole ++ pointed fraction
  pub whole_digits : AllByRecursion (λ b. is_digit b ≡ true) whole
  pub whole_one : 1 ≤ length whole
  pub whole_four : length whole ≤ 4
  pub fraction_digits : AllByRecursion (λ b. is_digit b ≡ true) fraction
  pub fraction_two : length fraction ≤ 2
  pub value : centimetres ≡ decimal_of whole * 100 + decimal_of fraction * 10 ^ (2 - length fraction)

-- at most one more field, whatever it holds
abbrev pub OneField : List ℕ → Type 0
OneField rest = (rest ≡ []) ⊎ ((text : List ℕ) × (rest ≡ 44 ∷ text) × AllByRecursion (λ b. b ≢ 44) text)

-- a depth sentence: DPT after the sounder, then the depth, the offset of the keel with its minus, and
-- perhaps a third field; the clearance is the depth less the offset
pub record DepthSentence (bytes sounder : List ℕ) (clearance : ℤ) : Type 0 where
  pub depth : List ℕ
  pub offset : List ℕ
  pub rest : List ℕ
  pub deep : ℕ
  pub keel : ℕ
  pub sounder_two : length sounder ≡ 2
  pub sentence : Sentence bytes (sounder ++ (68 ∷ 80 ∷ 84 ∷ [])) (44 ∷ (depth ++ (44 ∷ 45 ∷ (offset ++ rest))))
  pub depth_metres : Metres depth deep
  pub offset_metres : Metres offset keel
  pub rest_one : OneField rest
  pub value : clearance ≡ pos deep -ℤ pos keel
