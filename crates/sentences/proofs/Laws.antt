-- An address or a reading is read exactly if the bytes are such a sentence.
use Rattle.std.proofs.Common.{◌≡◌, ℕ, ◌+◌, ◌-◌, true, ◌&&◌, eqb, List, [], ◌∷◌, ◌++◌, length, get_or, ℤ, Some, None, Ok, Err, Option, Result, sym, refl, ap, ◌∙◌, subst, arith}
use Rattle.std.proofs.lemmas.Bool.{eqb-true, and_parts}
use Rattle.sentences.specs.Bytes.{hex_text, sum_of}
use Rattle.sentences.specs.Fields.{next_field, metres_of, keel_of, needed, unless_extra, clearance_of}
use Rattle.sentences.specs.Format.{Exactly, Shaped, Sentence, HasAddress, DepthSentence, FirstWrong}
use Rattle.sentences.specs.Reader.{sentence_sum, sum_right, address_bytes, fields_of, address_at, address_of, sounder_of, with_clearance, depth_at, reading_at, reading_of}
use Rattle.sentences.specs.Shape.{shape_fault}
use Rattle.sentences.specs.declared.error.SentenceError.{SentenceError}
use Rattle.sentences.specs.declared.error.SentenceError.TheVariants.{Shape}
use Rattle.sentences.specs.declared.reader.Address.{Address}
use Rattle.sentences.specs.declared.reader.Reading.{Reading}
use Rattle.sentences.proofs.Clearances.{Depth, clearance_right, right_clearance}
use Rattle.sentences.proofs.Faults.{first_wrong, wrong_first, well_shaped, no_shape_fault}
use Rattle.sentences.proofs.Places.{placed}
use Rattle.sentences.proofs.Readings.{address_unshaped, reading_unshaped}
use Rattle.sentences.proofs.Somes.{some_if, err_ok, same_ok}

-- the checksum

sum_digits : (bytes : List ℕ) → sum_right bytes ≡ true → get_or bytes (length bytes - 2) 0 ∷ get_or bytes (length bytes - 1) 0 ∷ [] ≡ hex_text (sentence_sum bytes)
sum_digits bytes right = grind arith

digits_sum : (bytes : List ℕ) → get_or bytes (length bytes - 2) 0 ∷ get_or bytes (length bytes - 1) 0 ∷ [] ≡ hex_text (sentence_sum bytes) → sum_right bytes ≡ true
digits_sum bytes same = grind arith

-- shape and sum make an address
address_some : (bytes : List ℕ) (address : Address) → address_of bytes ≡ Ok address → (shape_fault bytes ≡ None) × (sum_right bytes ≡ true) × (address_bytes bytes ≡ address.bytes)
address_some bytes address e = grind arith

address_right : (bytes : List ℕ) (address : Address) → address_of bytes ≡ Ok address → HasAddress bytes address.bytes
address_right bytes address e =
    let parts = address_some bytes address e in
    let right = well_shaped bytes parts.0 in
    let fields = right.0.1 in
    let at = placed bytes right.0.0 fields right.0.2 right.0.3 in
    let digits : right.0.2 ≡ hex_text (sum_of (right.0.0 ++ fields)) = sym at.at_digits ∙ sum_digits bytes parts.1 ∙ ap (λ xs. hex_text (sum_of xs)) at.at_summed in
    let name : right.0.0 ≡ address.bytes = sym at.at_address ∙ parts.2 in
    (fields, subst (λ (xs : List ℕ). Sentence bytes xs fields) name (record { shaped = subst (λ (ds : List ℕ). Shaped bytes right.0.0 fields ds) digits right.0.3; short = right.1 }))

right_address : (bytes : List ℕ) (address : Address) → HasAddress bytes address.bytes → address_of bytes ≡ Ok address
right_address bytes address (fields, s) =
    let at = placed bytes address.bytes fields _ s.shaped in
    let fault = no_shape_fault bytes (address.bytes, fields, _, s.shaped) s.short in
    let sum = digits_sum bytes (at.at_digits ∙ ap (λ xs. hex_text (sum_of xs)) (sym at.at_summed)) in
    ap (λ o. address_at o (sum_right bytes) bytes) fault ∙ ap (λ t. address_at None t bytes) sum ∙ ap (λ (xs : List ℕ). Ok (record { bytes = xs })) at.at_address

-- the address of a depth sentence

sounder_right : (address sounder : List ℕ) → length address ≡ 5 → sounder_of address ≡ Some sounder → (address ≡ sounder ++ (68 ∷ 80 ∷ 84 ∷ [])) × (length sounder ≡ 2)
sounder_right [] sounder five e = absurd (omega arith)
sounder_right (a ∷ []) sounder five e = absurd (omega arith)
sounder_right (a ∷ b ∷ []) sounder five e = absurd (omega arith)
sounder_right (a ∷ b ∷ c ∷ []) sounder five e = absurd (omega arith)
sounder_right (a ∷ b ∷ c ∷ d ∷ []) sounder five e = absurd (omega arith)
sounder_right (a ∷ b ∷ c ∷ d ∷ f ∷ g ∷ more) sounder five e = absurd (omega arith)
sounder_right (a ∷ b ∷ c ∷ d ∷ f ∷ []) sounder five e =
    let some = some_if (eqb c 68 && (eqb d 80 && eqb f 84)) (a ∷ b ∷ []) sounder e in
    let first = and_parts (eqb c 68) (eqb d 80 && eqb f 84) some.0 in
    let last = and_parts (eqb d 80) (eqb f 84) first.1 in (
      ap (λ x. a ∷ b ∷ x ∷ d ∷ f ∷ []) (eqb-true c 68 first.0) ∙ ap (λ x. a ∷ b ∷ 68 ∷ x ∷ f ∷ []) (eqb-true d 80 last.0) ∙ ap (λ x. a ∷ b ∷ 68 ∷ 80 ∷ x ∷ []) (eqb-true f 84 last.1) ∙ ap (λ xs. xs ++ (68 ∷ 80 ∷ 84 ∷ [])) (sym some.1),
      ap length some.1,
    )

right_sounder : (sounder : List ℕ) → length sounder ≡ 2 → sounder_of (sounder ++ (68 ∷ 80 ∷ 84 ∷ [])) ≡ Some sounder
right_sounder [] two = absurd (omega arith)
right_sounder (a ∷ []) two = absurd (omega arith)
right_sounder (a ∷ b ∷ []) two = refl
right_sounder (a ∷ b ∷ c ∷ more) two = absurd (omega arith)

-- address, sounder and clearance make a reading
record Made (bytes : List ℕ) (reading : Reading) : Type 0 where
  address : Address
  is_address : address_of bytes ≡ Ok address
  is_sounder : sounder_of address.bytes ≡ Some reading.sounder
  is_clearance : clearance_of 7 (fields_of bytes) ≡ Ok reading.clearance

reading_some : (bytes : List ℕ) (reading : Reading) → reading_of bytes ≡ Ok reading → Made bytes reading
reading_some bytes reading e = by (address_of bytes) refl e
  where
    clear : (address : Address) → address_of bytes ≡ Ok address → (sounder : List ℕ) → sounder_of address.bytes ≡ Some sounder → (r : Result ℤ SentenceError) → clearance_of 7 (fields_of bytes) ≡ r → with_clearance sounder r ≡ Ok reading → Made bytes reading
    clear address a sounder s (Err error) c e = err_ok e
    clear address a sounder s (Ok clearance) c e =
        let same = same_ok e in
        record {
          address = address;
          is_address = a;
          is_sounder = s ∙ ap (λ r. Some r.sounder) same;
          is_clearance = c ∙ ap (λ r. Ok r.clearance) same;
        }

    sound : (address : Address) → address_of bytes ≡ Ok address → (o : Option (List ℕ)) → sounder_of address.bytes ≡ o → depth_at o (fields_of bytes) ≡ Ok reading → Made bytes reading
    sound address a None s e = err_ok e
    sound address a (Some sounder) s e = clear address a sounder s (clearance_of 7 (fields_of bytes)) refl e

    by : (r : Result Address SentenceError) → address_of bytes ≡ r → reading_at r (fields_of bytes) ≡ Ok reading → Made bytes reading
    by (Err error) a e = err_ok e
    by (Ok address) a e = sound address a (sounder_of address.bytes) refl e

reading_right : (bytes : List ℕ) (reading : Reading) → reading_of bytes ≡ Ok reading → DepthSentence bytes reading.sounder reading.clearance
reading_right bytes reading e =
    let made = reading_some bytes reading e in
    let read = address_right bytes made.address made.is_address in
    let shaped = read.1.shaped in
    let at = placed bytes made.address.bytes read.0 _ shaped in
    let sounder = sounder_right made.address.bytes reading.sounder shaped.address_five made.is_sounder in
    let depth = clearance_right 7 read.0 reading.clearance shaped.fields_start (ap (clearance_of 7) (sym at.at_fields) ∙ made.is_clearance) in
    record {
      depth = depth.depth;
      offset = depth.offset;
      rest = depth.rest;
      deep = depth.deep;
      keel = depth.keel;
      sounder_two = sounder.1;
      sentence = subst (λ (fields : List ℕ). Sentence bytes (reading.sounder ++ (68 ∷ 80 ∷ 84 ∷ [])) fields) depth.joined (subst (λ (address : List ℕ). Sentence bytes address read.0) sounder.0 read.1);
      depth_metres = depth.depth_metres;
      offset_metres = depth.offset_metres;
      rest_one = depth.rest_one;
      value = depth.value;
    }

right_reading : (bytes : List ℕ) (reading : Reading) → DepthSentence bytes reading.sounder reading.clearance → reading_of bytes ≡ Ok reading
right_reading bytes reading d =
    let address : Address = record { bytes = reading.sounder ++ (68 ∷ 80 ∷ 84 ∷ []) } in
    let fields = 44 ∷ (d.depth ++ (44 ∷ 45 ∷ (d.offset ++ d.rest))) in
    let at = placed bytes address.bytes fields _ d.sentence.shaped in
    let depth : Depth fields reading.clearance = record { depth = d.depth; offset = d.offset; rest = d.rest; deep = d.deep; keel = d.keel; joined = refl; depth_metres = d.depth_metres; offset_metres = d.offset_metres; rest_one = d.rest_one; value = d.value } in
    ap (λ r. reading_at r (fields_of bytes)) (right_address bytes address (fields, d.sentence))
    ∙ ap (λ o. depth_at o (fields_of bytes)) (right_sounder reading.sounder d.sounder_two)
    ∙ ap (λ xs. with_clearance reading.sounder (clearance_of 7 xs)) at.at_fields
    ∙ ap (with_clearance reading.sounder) (right_clearance 7 fields reading.clearance depth)

-- a shape refusal points at the first wrong column

address_wrong : (bytes : List ℕ) (column : ℕ) → address_of bytes ≡ Err (Shape column) → shape_fault bytes ≡ Some column
address_wrong bytes column e = grind arith

-- no other part of the reader refuses a shape

needed_shape : {A : Type 0} (o : Option A) (column : ℕ) (next : A → Result ℤ SentenceError) (c : ℕ) → needed o column next ≡ Err (Shape c) → (y : A) × (next y ≡ Err (Shape c))
needed_shape None column next c e = absurd cc
needed_shape (Some y) column next c e = (y, e)

unless_shape : (o : Option ℕ) (x : ℤ) (c : ℕ) → unless_extra o x ≡ Err (Shape c) → ⊥
unless_shape o x c e = grind arith

clearance_shape : (column : ℕ) (fields : List ℕ) (c : ℕ) → clearance_of column fields ≡ Err (Shape c) → ⊥
clearance_shape column fields c e =
    let depth = needed_shape (next_field fields) column _ c e in
    let deep = needed_shape (metres_of depth.0.0) (column + 1) _ c depth.1 in
    let offset = needed_shape (next_field depth.0.1) (column + 1 + length depth.0.0) _ c deep.1 in
    let keel = needed_shape (keel_of offset.0.0) (column + 1 + length depth.0.0 + 1) _ c offset.1 in
    unless_shape _ _ c keel.1

reading_wrong : (bytes : List ℕ) (column : ℕ) → reading_of bytes ≡ Err (Shape column) → address_of bytes ≡ Err (Shape column)
reading_wrong bytes column e = grind (arith, clearance_shape)

-- the laws of the two readers, of what they answer

module _ (bytes : List ℕ) where
  pub address_exactly : (r : Result Address SentenceError) → r ≡ address_of bytes → (address : Address) → Exactly (r ≡ Ok address) (HasAddress bytes address.bytes)
  address_exactly r is address = (λ ok. address_right bytes address (sym is ∙ ok), λ has. is ∙ right_address bytes address has)

  pub address_first_wrong : (r : Result Address SentenceError) → r ≡ address_of bytes → (column : ℕ) → Exactly (r ≡ Err (Shape column)) (FirstWrong bytes column)
  address_first_wrong r is column = (
    λ err. first_wrong bytes column (address_wrong bytes column (sym is ∙ err)),
    λ wrong. is ∙ address_unshaped bytes column (wrong_first bytes column wrong),
  )

  pub reading_exactly : (r : Result Reading SentenceError) → r ≡ reading_of bytes → (reading : Reading) → Exactly (r ≡ Ok reading) (DepthSentence bytes reading.sounder reading.clearance)
  reading_exactly r is reading = (λ ok. reading_right bytes reading (sym is ∙ ok), λ depth. is ∙ right_reading bytes reading depth)

  pub reading_first_wrong : (r : Result Reading SentenceError) → r ≡ reading_of bytes → (column : ℕ) → Exactly (r ≡ Err (Shape column)) (FirstWrong bytes column)
  reading_first_wrong r is column = (
    λ err. first_wrong bytes column (address_wrong bytes column (reading_wrong bytes column (sym is ∙ err))),
    λ wrong. is ∙ reading_unshaped bytes column (wrong_first bytes column wrong),
  )
