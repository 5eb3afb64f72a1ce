-- The kinds of byte that a sentence is made of.
-- A byte is a number: 33 is `!`, 36 `$`, 42 `*`, 44 the comma, 45 the minus, 46 the point, 48 to 57 the digits,
-- 65 to 90 the capitals.
use Rattle.std.specs.Prelude.{ℕ, ◌+◌, ◌/◌, ◌%◌, Bool, if◌then◌else◌, not, ◌&&◌, ◌||◌, List, [], ◌∷◌, fold, ◌==◌, bit_xor, nat_le, nat_lt}

-- a decimal digit
abbrev pub is_digit : ℕ → Bool
is_digit b = nat_le 48 b && nat_le b 57

-- an address is made of capitals and digits
abbrev pub is_address_byte : ℕ → Bool
is_address_byte b = is_digit b || (nat_le 65 b && nat_le b 90)

-- the fields are printable, without `$`, `!` and `*`
abbrev pub is_field_byte : ℕ → Bool
is_field_byte b = (nat_le 32 b && nat_le b 126) && not (b == 36 || (b == 33 || b == 42))

-- a hexadecimal digit, the letters as capitals
abbrev pub is_hex_digit : ℕ → Bool
is_hex_digit b = is_digit b || (nat_le 65 b && nat_le b 70)

-- the hexadecimal digit of a number below 16
abbrev pub hex_digit : ℕ → ℕ
hex_digit n = if nat_lt n 10 then 48 + n else 55 + n

-- a byte in two hexadecimal digits
abbrev pub hex_text : ℕ → List ℕ
hex_text n = hex_digit (n / 16) ∷ hex_digit (n % 16) ∷ []

-- the exclusive or of bytes
abbrev pub sum_of : List ℕ → ℕ
sum_of bytes = fold bit_xor 0 bytes
