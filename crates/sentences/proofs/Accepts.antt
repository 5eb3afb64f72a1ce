-- A run from the first byte reaches the end exactly on the well-shaped sentences.
use Rattle.std.proofs.Common.{◌≡◌, ℕ, zero, suc, ◌-◌, true, cond, eqb, List, [], ◌∷◌, ◌++◌, length, Some, None, refl, ap, ◌∙◌, ⊎_elim, arith}
use Rattle.std.specs.List.{AllByRecursion}
use Rattle.std.proofs.lemmas.Bool.{eqb-true}
use Rattle.sentences.specs.Bytes.{is_address_byte, is_field_byte, is_hex_digit}
use Rattle.sentences.specs.Format.{CommaFirst, WellShaped}
use Rattle.sentences.specs.Shape.{after}
use Rattle.sentences.specs.declared.shape.Expect.TheVariants.{Dollar, Address, Separator, Fields, HighDigit, LowDigit, End}
use Rattle.sentences.proofs.Somes.{some_if, some_either, none_some}
use Rattle.sentences.proofs.Runs.{run, bind_some, run_step, run_append, address_more}

-- two hexadecimal digits
abbrev Digits : List ℕ → Type 0
Digits digits = (length digits ≡ 2) × AllByRecursion (λ b. is_hex_digit b ≡ true) digits

-- the star and the digits behind fields
abbrev Tail : List ℕ → Type 0
Tail xs = (fields : List ℕ) × (digits : List ℕ) × (xs ≡ fields ++ (42 ∷ digits)) × AllByRecursion (λ b. is_field_byte b ≡ true) fields × Digits digits

accept_digits : (xs : List ℕ) → run HighDigit xs ≡ Some End → Digits xs
accept_digits [] led = absurd cc
accept_digits (h ∷ bs) led =
    let next = bind_some (after HighDigit h) (λ n. run n bs) End led in
    let high = some_if (is_hex_digit h) LowDigit next.0 next.1 in
    low bs high.0 (rw high.1 at next.2)
  where
    low : (bs : List ℕ) → is_hex_digit h ≡ true → run LowDigit bs ≡ Some End → Digits (h ∷ bs)
    low [] high led = absurd cc
    low (l ∷ cs) high led =
        let next = bind_some (after LowDigit l) (λ n. run n cs) End led in
        let test = some_if (is_hex_digit l) End next.0 next.1 in
        end cs high test.0 (rw test.1 at next.2)
      where
        end : (cs : List ℕ) → is_hex_digit h ≡ true → is_hex_digit l ≡ true → run End cs ≡ Some End → Digits (h ∷ l ∷ cs)
        end [] high low led = (refl, (high, (low, tt)))
        end (c ∷ ds) high low led = none_some led

accept_fields : (xs : List ℕ) → run Fields xs ≡ Some End → Tail xs
accept_fields [] led = absurd cc
accept_fields (b ∷ bs) led =
    let next = bind_some (after Fields b) (λ n. run n bs) End led in
    ⊎_elim
    (λ (h : (is_field_byte b ≡ true) × (next.0 ≡ Fields)).
    let again = accept_fields bs (rw h.1 at next.2) in
    (b ∷ again.0, again.1, ap (λ ys. b ∷ ys) again.2, (h.0, again.3), again.4))
    (λ (h : (eqb b 42 ≡ true) × (next.0 ≡ HighDigit)).
    ([], bs, ap (λ c. c ∷ bs) (eqb-true b 42 h.0), tt, accept_digits bs (rw h.1 at next.2)))
    (some_either (is_field_byte b) (eqb b 42) Fields HighDigit next.0 next.1)

accept_separator : (xs : List ℕ) → run Separator xs ≡ Some End → (tail : Tail xs) × CommaFirst tail.0
accept_separator [] led = absurd cc
accept_separator (b ∷ bs) led =
    let next = bind_some (after Separator b) (λ n. run n bs) End led in
    ⊎_elim
    (λ (h : (eqb b 44 ≡ true) × (next.0 ≡ Fields)).
    let comma = eqb-true b 44 h.0 in
    let tail = accept_fields bs (rw h.1 at next.2) in
    ((b ∷ tail.0, tail.1, ap (λ ys. b ∷ ys) tail.2, (ap is_field_byte comma, tail.3), tail.4), comma))
    (λ (h : (eqb b 42 ≡ true) × (next.0 ≡ HighDigit)).
    (([], bs, ap (λ c. c ∷ bs) (eqb-true b 42 h.0), tt, accept_digits bs (rw h.1 at next.2)), tt))
    (some_either (eqb b 44) (eqb b 42) Fields HighDigit next.0 next.1)

-- so many bytes of the address, and the rest
abbrev Front : ℕ → List ℕ → Type 0
Front left xs =
    (address : List ℕ) × (rest : List ℕ) × (xs ≡ address ++ rest) × (length address ≡ suc left) × AllByRecursion (λ b. is_address_byte b ≡ true) address × (run Separator rest ≡ Some End)

accept_address : (xs : List ℕ) (left : ℕ) → run (Address left) xs ≡ Some End → Front left xs
accept_address [] left led = absurd cc
accept_address (b ∷ bs) zero led =
    let next = bind_some (after (Address zero) b) (λ n. run n bs) End led in
    let test = some_if (is_address_byte b) Separator next.0 next.1 in
    (b ∷ [], bs, refl, refl, (test.0, tt), rw test.1 at next.2)
accept_address (b ∷ bs) (suc left) led =
    let next = bind_some (after (Address (suc left)) b) (λ n. run n bs) End led in
    let test = some_if (is_address_byte b) (cond (eqb (suc left) 0) Separator (Address (suc left - 1))) next.0 next.1 in
    let onward : next.0 ≡ Address left = test.1 ∙ address_more left in
    let again = accept_address bs left (rw onward at next.2) in
    (b ∷ again.0, again.1, ap (λ ys. b ∷ ys) again.2, ap suc again.3, (test.0, again.4), again.5)

pub accepted_shape : (xs : List ℕ) → run Dollar xs ≡ Some End → WellShaped xs
accepted_shape [] led = absurd cc
accepted_shape (b ∷ bs) led =
    let next = bind_some (after Dollar b) (λ n. run n bs) End led in
    let test = some_if (eqb b 36) (Address 4) next.0 next.1 in
    let dollar = eqb-true b 36 test.0 in
    let front = accept_address bs 4 (rw test.1 at next.2) in
    let tail = accept_separator front.1 front.5 in (
      front.0,
      tail.0.0,
      tail.0.1,
      record {
        joined = ap (λ c. c ∷ bs) dollar ∙ ap (λ ys. 36 ∷ ys) (front.2 ∙ ap (λ ys. front.0 ++ ys) tail.0.2);
        address_five = front.3;
        address_bytes = front.4;
        fields_start = tail.1;
        fields_bytes = tail.0.3;
        digits_two = tail.0.4.0;
        digits_hex = tail.0.4.1;
      },
    )

-- and back: the parts lead to the end, one by one

run_address : (address : List ℕ) (left : ℕ) → length address ≡ suc left → AllByRecursion (λ b. is_address_byte b ≡ true) address → run (Address left) address ≡ Some Separator
run_address [] left long all = absurd (omega arith)
run_address (b ∷ []) zero long all =
    run_step (Address zero) Separator b [] (ap (λ t. cond t (Some Separator) None) all.0)
run_address (b ∷ c ∷ bs) zero long all = absurd (omega arith)
run_address (b ∷ bs) (suc left) long all =
    run_step (Address (suc left)) (Address left) b bs (ap (λ t. cond t (Some (cond (eqb (suc left) 0) Separator (Address (suc left - 1)))) None) all.0 ∙ ap Some (address_more left)) ∙ run_address bs left (omega arith) all.1

run_fields : (fields : List ℕ) → AllByRecursion (λ b. is_field_byte b ≡ true) fields → run Fields fields ≡ Some Fields
run_fields [] all = refl
run_fields (b ∷ bs) all =
    run_step Fields Fields b bs (ap (λ t. cond t (Some Fields) (cond (eqb b 42) (Some HighDigit) None)) all.0) ∙ run_fields bs all.1

run_digits : (digits : List ℕ) → length digits ≡ 2 → AllByRecursion (λ b. is_hex_digit b ≡ true) digits → run HighDigit digits ≡ Some End
run_digits [] two all = absurd (omega arith)
run_digits (h ∷ []) two all = absurd (omega arith)
run_digits (h ∷ l ∷ []) two all =
    run_step HighDigit LowDigit h (l ∷ []) (ap (λ t. cond t (Some LowDigit) None) all.0) ∙ run_step LowDigit End l [] (ap (λ t. cond t (Some End) None) all.1.0)
run_digits (h ∷ l ∷ c ∷ cs) two all = absurd (omega arith)

run_tail : (fields digits : List ℕ) → CommaFirst fields → AllByRecursion (λ b. is_field_byte b ≡ true) fields → length digits ≡ 2 → AllByRecursion (λ b. is_hex_digit b ≡ true) digits → run Separator (fields ++ (42 ∷ digits)) ≡ Some End
run_tail [] digits first all two hex = run_digits digits two hex
run_tail (b ∷ bs) digits first all two hex =
    run_step Separator Fields b (bs ++ (42 ∷ digits)) (ap (after Separator) first) ∙ run_append bs (42 ∷ digits) Fields Fields (run_fields bs all.1) ∙ run_digits digits two hex

pub shape_accepted : (xs : List ℕ) → WellShaped xs → run Dollar xs ≡ Some End
shape_accepted xs (address, fields, digits, s) =
    ap (run Dollar) s.joined
    ∙ run_append address (fields ++ (42 ∷ digits)) (Address 4) Separator (run_address address 4 s.address_five s.address_bytes)
    ∙ run_tail fields digits s.fields_start s.fields_bytes s.digits_two s.digits_hex
