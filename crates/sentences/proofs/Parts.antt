-- Bytes with the right parts at their places are well-shaped.
use Rattle.std.proofs.Common.{◌≡◌, ℕ, zero, suc, ◌+◌, ◌-◌, ◌≤◌, true, List, [], ◌∷◌, ◌++◌, length, get_or, take, None, refl, ap, ◌∙◌, arith}
use Rattle.std.specs.List.{AllByRecursion}
use Rattle.sentences.specs.Bytes.{is_address_byte, is_field_byte, is_hex_digit}
use Rattle.sentences.specs.Format.{CommaFirst, Shaped}
use Rattle.sentences.specs.Reader.{address_bytes, fields_of}
use Rattle.sentences.specs.Shape.{shape_fault}
use Rattle.sentences.proofs.Faults.{no_shape_fault}

three_last : (xs : List ℕ) (n : ℕ) → length xs ≡ n + 3 → xs ≡ take n xs ++ (get_or xs n 0 ∷ get_or xs (suc n) 0 ∷ get_or xs (suc (suc n)) 0 ∷ [])
three_last (a ∷ b ∷ c ∷ []) zero long = refl
three_last (a ∷ b ∷ c ∷ d ∷ xs) zero long = absurd (omega arith)
three_last (x ∷ xs) (suc n) long = ap (λ ys. x ∷ ys) (three_last xs n (omega arith))
three_last [] n long = absurd (omega arith)
three_last (a ∷ []) zero long = absurd (omega arith)
three_last (a ∷ b ∷ []) zero long = absurd (omega arith)

-- the parts of any nine bytes or more, by their places
parts_join : (bytes : List ℕ) → 9 ≤ length bytes → bytes ≡ get_or bytes 0 0 ∷ (address_bytes bytes ++ (fields_of bytes ++ (get_or bytes (length bytes - 3) 0 ∷ get_or bytes (length bytes - 2) 0 ∷ get_or bytes (length bytes - 1) 0 ∷ [])))
parts_join [] long = absurd (omega arith)
parts_join (p ∷ []) long = absurd (omega arith)
parts_join (p ∷ a ∷ []) long = absurd (omega arith)
parts_join (p ∷ a ∷ b ∷ []) long = absurd (omega arith)
parts_join (p ∷ a ∷ b ∷ c ∷ []) long = absurd (omega arith)
parts_join (p ∷ a ∷ b ∷ c ∷ d ∷ []) long = absurd (omega arith)
parts_join (p ∷ a ∷ b ∷ c ∷ d ∷ e ∷ rest) long =
    let bytes = p ∷ a ∷ b ∷ c ∷ d ∷ e ∷ rest in
    let n : ℕ = length bytes - 9 in
    let star : length bytes - 3 ≡ suc (suc (suc (suc (suc (suc n))))) = omega arith in
    let high : length bytes - 2 ≡ suc (suc (suc (suc (suc (suc (suc n)))))) = omega arith in
    let low : length bytes - 1 ≡ suc (suc (suc (suc (suc (suc (suc (suc n))))))) = omega arith in
    rw (star, high, low) (ap (λ xs. p ∷ a ∷ b ∷ c ∷ d ∷ e ∷ xs) (three_last rest n (omega arith)))

-- what is looked at of bytes
pub record RightParts (bytes : List ℕ) : Type 0 where
  pub long : 9 ≤ length bytes
  pub short : length bytes ≤ 80
  pub dollar : get_or bytes 0 0 ≡ 36
  pub address : AllByRecursion (λ b. is_address_byte b ≡ true) (address_bytes bytes)
  pub fields_start : CommaFirst (fields_of bytes)
  pub fields : AllByRecursion (λ b. is_field_byte b ≡ true) (fields_of bytes)
  pub star : get_or bytes (length bytes - 3) 0 ≡ 42
  pub digits : AllByRecursion (λ b. is_hex_digit b ≡ true) (get_or bytes (length bytes - 2) 0 ∷ get_or bytes (length bytes - 1) 0 ∷ [])

pub right_parts : (bytes : List ℕ) → RightParts bytes → shape_fault bytes ≡ None
right_parts bytes r = no_shape_fault bytes (address_bytes bytes, fields_of bytes, digits, shaped) r.short
  where
    digits : List ℕ
    digits = get_or bytes (length bytes - 2) 0 ∷ get_or bytes (length bytes - 1) 0 ∷ []

    shaped : Shaped bytes (address_bytes bytes) (fields_of bytes) digits
    shaped = record {
      joined =
          parts_join bytes r.long
          ∙ ap (λ p. p ∷ (address_bytes bytes ++ (fields_of bytes ++ (get_or bytes (length bytes - 3) 0 ∷ digits)))) r.dollar
          ∙ ap (λ s. 36 ∷ (address_bytes bytes ++ (fields_of bytes ++ (s ∷ digits)))) r.star;
      address_five = refl;
      address_bytes = r.address;
      fields_start = r.fields_start;
      fields_bytes = r.fields;
      digits_two = refl;
      digits_hex = r.digits;
    }
