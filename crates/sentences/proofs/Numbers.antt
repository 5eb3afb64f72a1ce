-- A number in metres is read exactly if it is one.
use Rattle.std.proofs.Common.{◌≡◌, ℕ, ◌+◌, ◌-◌, ◌*◌, ◌^◌, ◌≤◌, true, ◌&&◌, eqb, List, [], ◌∷◌, ◌++◌, length, take, drop, Some, None, Option, sym, refl, ap, ◌∙◌, arith}
use Rattle.std.specs.Option.{option_map}
use Rattle.std.specs.List.{prefix_len, AllByRecursion}
use Rattle.std.proofs.lemmas.List.{take_at, drop_at, take-append-drop}
use Rattle.std.proofs.lemmas.Bool.{and_parts, eqb-true}
use Rattle.sentences.specs.Bytes.{is_digit}
use Rattle.sentences.specs.Fields.{decimal_few, hundredths_of, metres_of}
use Rattle.sentences.specs.Format.{decimal_of, pointed, Metres}
use Rattle.sentences.proofs.Leading.{leading_front, leading_passes}
use Rattle.sentences.proofs.Somes.{same_some, some_if, none_some}

few_right : (ds : List ℕ) (n : ℕ) → decimal_few ds ≡ Some n → (1 ≤ length ds) × (length ds ≤ 4) × (n ≡ decimal_of ds)
few_right ds n e = grind arith

right_few : (ds : List ℕ) → 1 ≤ length ds → length ds ≤ 4 → decimal_few ds ≡ Some (decimal_of ds)
right_few ds one four = grind arith

-- what hundredths are made of
abbrev Fraction : List ℕ → ℕ → Type 0
Fraction text n =
    (fraction : List ℕ) × (text ≡ pointed fraction) × AllByRecursion (λ b. is_digit b ≡ true) fraction × (length fraction ≤ 2) × (n ≡ decimal_of fraction * 10 ^ (2 - length fraction))

hundredths_right : (text : List ℕ) (n : ℕ) → hundredths_of text ≡ Some n → Fraction text n
hundredths_right [] n e = let is = same_some e in ([], refl, tt, omega arith, omega arith)
hundredths_right (p ∷ []) n e = none_some e
hundredths_right (p ∷ a ∷ []) n e =
    let h = some_if (eqb p 46 && is_digit a) _ _ e in
    let t = and_parts (eqb p 46) (is_digit a) h.0 in
    (a ∷ [], ap (λ x. x ∷ a ∷ []) (eqb-true p 46 t.0), (t.1, tt), omega arith, omega (arith, h.1))
hundredths_right (p ∷ a ∷ b ∷ []) n e =
    let h = some_if (eqb p 46 && (is_digit a && is_digit b)) _ _ e in
    let t = and_parts (eqb p 46) (is_digit a && is_digit b) h.0 in
    let u = and_parts (is_digit a) (is_digit b) t.1 in
    (a ∷ b ∷ [], ap (λ x. x ∷ a ∷ b ∷ []) (eqb-true p 46 t.0), (u.0, (u.1, tt)), omega arith, omega (arith, h.1))
hundredths_right (p ∷ a ∷ b ∷ c ∷ more) n e = none_some e

right_hundredths : (fraction : List ℕ) → AllByRecursion (λ b. is_digit b ≡ true) fraction → length fraction ≤ 2 → hundredths_of (pointed fraction) ≡ Some (decimal_of fraction * 10 ^ (2 - length fraction))
right_hundredths fraction all two = grind arith

-- the whole metres and the hundredths give the centimetres
abbrev sum_up : Option ℕ → Option ℕ → Option ℕ
sum_up whole part = elim whole [ None ↦ None | Some n ↦ option_map (λ m. 100 * n + m) part ]

sum_up_some : (whole part : Option ℕ) (n : ℕ) → sum_up whole part ≡ Some n → (w : ℕ) × (h : ℕ) × (whole ≡ Some w) × (part ≡ Some h) × (n ≡ 100 * w + h)
sum_up_some None part n e = none_some e
sum_up_some (Some w) None n e = none_some e
sum_up_some (Some w) (Some h) n e = (w, h, refl, refl, sym (same_some e))

pub metres_right : (text : List ℕ) (n : ℕ) → metres_of text ≡ Some n → Metres text n
metres_right text n e =
    let digits = prefix_len is_digit text in
    let sum = sum_up_some (decimal_few (take digits text)) (hundredths_of (drop digits text)) n e in
    let few = few_right (take digits text) sum.0 sum.2 in
    let part = hundredths_right (drop digits text) sum.1 sum.3 in
    record {
      whole = take digits text;
      fraction = part.0;
      joined = sym (take-append-drop digits text) ∙ ap (λ ys. take digits text ++ ys) part.1;
      whole_digits = leading_passes is_digit text;
      whole_one = few.0;
      whole_four = few.1;
      fraction_digits = part.2;
      fraction_two = part.3;
      value = omega (arith, few.2, part.4, sum.4);
    }

-- no digit begins what may follow the whole metres
point_first : (fraction : List ℕ) → prefix_len is_digit (pointed fraction) ≡ 0
point_first [] = refl
point_first (d ∷ ds) = refl

pub right_metres : (text : List ℕ) (n : ℕ) → Metres text n → metres_of text ≡ Some n
right_metres text n m =
    let long : prefix_len is_digit text ≡ length m.whole = ap (prefix_len is_digit) m.joined ∙ leading_front is_digit m.whole (pointed m.fraction) m.whole_digits (point_first m.fraction) in
    let front : take (prefix_len is_digit text) text ≡ m.whole = ap (λ k. take k text) long ∙ ap (take (length m.whole)) m.joined ∙ take_at m.whole (pointed m.fraction) (length m.whole) refl in
    let back : drop (prefix_len is_digit text) text ≡ pointed m.fraction = ap (λ k. drop k text) long ∙ ap (drop (length m.whole)) m.joined ∙ drop_at m.whole (pointed m.fraction) (length m.whole) refl in
    ap (λ xs. sum_up (decimal_few xs) (hundredths_of (drop (prefix_len is_digit text) text))) front
    ∙ ap (λ xs. sum_up (decimal_few m.whole) (hundredths_of xs)) back
    ∙ ap (λ o. sum_up o (hundredths_of (pointed m.fraction))) (right_few m.whole m.whole_one m.whole_four)
    ∙ ap (λ o. sum_up (Some (decimal_of m.whole)) o) (right_hundredths m.fraction m.fraction_digits m.fraction_two)
    ∙ ap Some (omega (arith, m.value))
