-- The lines of an input are its one right cut.
use Rattle.std.proofs.Common.{◌≡◌, ℕ, suc, ◌+◌, ◌-◌, true, false, cond, eqb, List, [], ◌∷◌, ◌++◌, length, get_or, sym, refl, ap, ◌∙◌, ⊎_elim, arith}
use Rattle.std.specs.List.{flat_map, AllByRecursion}
use Rattle.std.proofs.ByRecursion.{All-push, All-take}
use Rattle.std.proofs.lemmas.List.{append-nil, append_assoc, length_push, get_or_push, take_at, take_more, take_all}
use Rattle.std.proofs.lemmas.Bool.{cases_Bool, false≢true, eqb-true, eqb-false, eq-eqb, ne_eqb, cond_both}
use Rattle.lines.specs.Ends.{IsPlain}
use Rattle.lines.specs.Lines.{End, lf, cr_lf, none, Line, Cut, CutRight, CutOnce, end_bytes, line_bytes, but_last, ends_in_cr, without_cr, ended_line, last_line, lines_from, lines_of}

-- All but the last of a list.

module _ {X : Type 0} where
  but_last_cons : (x y : X) (ys : List X) → but_last (x ∷ y ∷ ys) ≡ x ∷ but_last (y ∷ ys)
  but_last_cons x y ys = let e : suc (suc (length ys)) - 1 ≡ suc (suc (length ys) - 1) = omega arith in rw e

  but_last_push : (xs : List X) (x : X) → but_last (xs ++ x ∷ []) ≡ xs
  but_last_push xs x = take_at xs (x ∷ []) _ (omega (arith, length_push xs x))

  all_but_last : (P : X → Type 0) (x : X) (xs : List X) → P x → AllByRecursion P (but_last xs) → AllByRecursion P (but_last (x ∷ xs))
  all_but_last P x [] p h = tt
  all_but_last P x (y ∷ ys) p h = rw (but_last_cons x y ys) (p, h)

  all_but_last_rest : (P : X → Type 0) (x : X) (xs : List X) → AllByRecursion P (but_last (x ∷ xs)) → AllByRecursion P (but_last xs)
  all_but_last_rest P x [] h = tt
  all_but_last_rest P x (y ∷ ys) h = (rw (but_last_cons x y ys) at h).1

-- A CR at the end.

ends_in_cr_push : (bytes : List ℕ) → ends_in_cr (bytes ++ 13 ∷ []) ≡ true
ends_in_cr_push bytes = eq-eqb _ 13 (get_or_push bytes 13 0 _ (omega (arith, length_push bytes 13)))

but_last_cr : (bytes : List ℕ) → ends_in_cr bytes ≡ true → but_last bytes ++ 13 ∷ [] ≡ bytes
but_last_cr [] ends = absurd (false≢true ends)
but_last_cr (b ∷ bs) ends =
    let at : ℕ = length (b ∷ bs) - 1 in
    let cr = eqb-true (get_or (b ∷ bs) at 0) 13 ends in
    let more = take_more (b ∷ bs) at 0 (omega arith) in
    let all = take_all (at + 1) (b ∷ bs) (omega arith) in
    ap (λ x. but_last (b ∷ bs) ++ x ∷ []) (sym cr) ∙ sym more ∙ all

bytes_ended_line : (raw : List ℕ) → line_bytes (ended_line raw) ≡ raw ++ 10 ∷ []
bytes_ended_line raw =
    ⊎_elim
    (λ (ends : ends_in_cr raw ≡ true). rw ends (sym (append_assoc (but_last raw) (13 ∷ []) (10 ∷ [])) ∙ ap (λ bytes. bytes ++ 10 ∷ []) (but_last_cr raw ends)))
    (λ (ends : ends_in_cr raw ≡ false). rw ends refl)
    (cases_Bool (ends_in_cr raw))

-- The lines of an input are a right cut of it.

cut_cons : (input : List ℕ) (line : Line) (lines : List Line) → IsPlain line.text → (line.end ≡ lf → ends_in_cr line.text ≡ false) → (line.end ≡ none → ⊥) → Cut input lines → Cut (line_bytes line ++ input) (line ∷ lines)
cut_cons input line lines plain stripped ended cut = record {
  whole = ap (λ bytes. line_bytes line ++ bytes) cut.whole;
  plain = (plain, cut.plain);
  stripped = (stripped, cut.stripped);
  ended = all_but_last (λ l. l.end ≡ none → ⊥) line lines ended cut.ended;
  filled = ((λ is _. ended is), cut.filled);
}

cut_ended : (input raw : List ℕ) (lines : List Line) → IsPlain raw → Cut input lines → Cut (raw ++ 10 ∷ input) (ended_line raw ∷ lines)
cut_ended input raw lines plain cut = rw (sym bytes) (cut_cons input (ended_line raw) lines text stripped ended cut)
  where
    bytes : line_bytes (ended_line raw) ++ input ≡ raw ++ 10 ∷ input
    bytes = ap (λ xs. xs ++ input) (bytes_ended_line raw) ∙ append_assoc raw (10 ∷ []) input

    text : IsPlain (without_cr raw)
    text = cond_both (ends_in_cr raw) (but_last raw) raw IsPlain (λ _. All-take (λ b. b ≡ 10 → ⊥) (length raw - 1) raw plain) (λ _. plain)

    stripped : cond (ends_in_cr raw) cr_lf lf ≡ lf → ends_in_cr (without_cr raw) ≡ false
    stripped is = grind arith

    ended : cond (ends_in_cr raw) cr_lf lf ≡ none → ⊥
    ended is = grind arith

cut_last : (raw : List ℕ) → IsPlain raw → Cut raw (last_line raw)
cut_last [] plain = record { whole = refl; plain = tt; stripped = tt; ended = tt; filled = tt }
cut_last (b ∷ bs) plain = record {
  whole = append-nil _ ∙ append-nil (b ∷ bs);
  plain = (plain, tt);
  stripped = ((λ is. grind arith), tt);
  ended = tt;
  filled = ((λ _ is. grind arith), tt);
}

cut_from : (raw bs : List ℕ) → IsPlain raw → Cut (raw ++ bs) (lines_from raw bs)
cut_from raw [] plain = rw (append-nil raw) (cut_last raw plain)
cut_from raw (b ∷ bs) plain =
    ⊎_elim
    (λ (is : eqb b 10 ≡ true). rw is (rw (eqb-true b 10 is) (cut_ended bs raw (lines_from [] bs) plain (cut_from [] bs tt))))
    (λ (is_not : eqb b 10 ≡ false). rw is_not (rw (sym (append_assoc raw (b ∷ []) bs)) (cut_from (raw ++ b ∷ []) bs (All-push (λ x. x ≡ 10 → ⊥) raw b plain (eqb-false b 10 is_not)))))
    (cases_Bool (eqb b 10))

pub right : CutRight
right input = cut_from [] input tt

-- A right cut is the lines of the input.

lines_from_plain : (raw text rest : List ℕ) → IsPlain text → lines_from raw (text ++ rest) ≡ lines_from (raw ++ text) rest
lines_from_plain raw [] rest plain = ap (λ xs. lines_from xs rest) (sym (append-nil raw))
lines_from_plain raw (b ∷ bs) rest plain = rw (ne_eqb b 10 plain.0) (lines_from_plain (raw ++ b ∷ []) bs rest plain.1 ∙ ap (λ xs. lines_from xs rest) (append_assoc raw (b ∷ []) bs))

ended_line_lf : (text : List ℕ) → ends_in_cr text ≡ false → ended_line text ≡ record { text = text; end = lf }
ended_line_lf text other = rw other refl

ended_line_cr_lf : (text : List ℕ) → ended_line (text ++ 13 ∷ []) ≡ record { text = text; end = cr_lf }
ended_line_cr_lf text = rw (ends_in_cr_push text) (ap (λ t. record { text = t; end = cr_lf }) (but_last_push text 13))

last_line_some : (text : List ℕ) → (text ≡ [] → ⊥) → last_line text ≡ record { text = text; end = none } ∷ []
last_line_some [] some = absurd (some refl)
last_line_some (b ∷ bs) some = refl

-- Its first line, once the text has come.
lines_from_end : (text : List ℕ) (end : End) (lines : List Line) → (end ≡ lf → ends_in_cr text ≡ false) → (end ≡ none → text ≡ [] → ⊥) → AllByRecursion (λ line. line.end ≡ none → ⊥) (but_last (record { text = text; end = end } ∷ lines)) → lines_from text (end_bytes end ++ flat_map line_bytes lines) ≡ record { text = text; end = end } ∷ lines_of (flat_map line_bytes lines)
lines_from_end text lf lines stripped filled ended = ap (λ line. line ∷ lines_of (flat_map line_bytes lines)) (ended_line_lf text (stripped refl))
lines_from_end text cr_lf lines stripped filled ended = ap (λ line. line ∷ lines_of (flat_map line_bytes lines)) (ended_line_cr_lf text)
lines_from_end text none [] stripped filled ended = last_line_some text (filled refl)
lines_from_end text none (next ∷ lines) stripped filled ended = absurd ((rw (but_last_cons (record { text = text; end = none }) next lines) at ended).0 refl)

cut_rest : (input : List ℕ) (line : Line) (lines : List Line) → Cut input (line ∷ lines) → Cut (flat_map line_bytes lines) lines
cut_rest input line lines cut = record {
  whole = refl;
  plain = cut.plain.1;
  stripped = cut.stripped.1;
  ended = all_but_last_rest (λ l. l.end ≡ none → ⊥) line lines cut.ended;
  filled = cut.filled.1;
}

lines_of_cut : (input : List ℕ) (lines : List Line) → Cut input lines → lines_of (flat_map line_bytes lines) ≡ lines
lines_of_cut input [] cut = refl
lines_of_cut input (line ∷ lines) cut =
    let rest = flat_map line_bytes lines in
    ap lines_of (append_assoc line.text (end_bytes line.end) rest)
    ∙ lines_from_plain [] line.text (end_bytes line.end ++ rest) cut.plain.0
    ∙ lines_from_end line.text line.end lines cut.stripped.0 cut.filled.0 cut.ended
    ∙ ap (λ ls. line ∷ ls) (lines_of_cut rest lines (cut_rest input line lines cut))

pub once : CutOnce
once input xs ys left other = sym (lines_of_cut input xs left) ∙ ap lines_of (left.whole ∙ sym other.whole) ∙ lines_of_cut input ys other
