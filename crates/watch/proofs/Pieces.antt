-- Bytes that come one after another, and piece after piece: what is treated, printed and read of them.
use Rattle.std.proofs.Common.{◌≡◌, ℕ, ◌+◌, List, [], ◌∷◌, ◌++◌, length, sym, refl, ap, ◌∙◌, subst, append_assoc, arith, length-append, Result}
use Rattle.std.proofs.lemmas.List.{append-nil}
use Rattle.std.proofs.lemmas.List.Elements.{filter_map-append}
use Rattle.std.proofs.lemmas.List.Sums.{fold-append}
use Rattle.std.proofs.lemmas.Bool.{ne_eqb}
use Rattle.std.proofs.lemmas.Bool.Decides.{nat_tests}
use Rattle.std.specs.Result.{result_ok}
use Rattle.lines.specs.Ends.{IsPlain, PartsAtLf}
use Rattle.lines.specs.Kept.{keep_byte}
use Rattle.sentences.specs.declared.error.SentenceError.{SentenceError}
use Rattle.watch.specs.Progress.{Progress, Watched, Fed, start, take_byte, byte_texts, kept_more, take_bytes, texts_ended, bytes_text, bytes_values}
use Rattle.watch.specs.Report.{lines_report, outcome_text, values_of}

texts_append : (p : Progress) (bs more : List ℕ) → texts_ended p (bs ++ more) ≡ texts_ended p bs ++ texts_ended (take_bytes p bs) more
texts_append p [] more = refl
texts_append p (b ∷ bs) more =
    ap (λ texts. byte_texts p b ++ texts) (texts_append (take_byte p b) bs more)
    ∙ sym (append_assoc (byte_texts p b) (texts_ended (take_byte p b) bs) (texts_ended (take_bytes p (b ∷ bs)) more))

-- Each text that is treated is a line more.
lines_byte : (p : Progress) (b : ℕ) → (take_byte p b).lines ≡ p.lines + length (byte_texts p b)
lines_byte p b = grind (arith, nat_tests)

pub lines_come : (p : Progress) (bs : List ℕ) → (take_bytes p bs).lines ≡ p.lines + length (texts_ended p bs)
lines_come p [] = omega arith
lines_come p (b ∷ bs) = omega (arith, lines_come (take_byte p b) bs, lines_byte p b, length-append (byte_texts p b) (texts_ended (take_byte p b) bs))

-- Bytes with no LF are kept, and no line ends.

plain_come : (p : Progress) (bs : List ℕ) → IsPlain bs → take_bytes p bs ≡ kept_more p bs
plain_come p [] plain = refl
plain_come p (b ∷ bs) plain = rw (ne_eqb b 10 plain.0) (plain_come (record { kept = keep_byte p.kept b; lines = p.lines }) bs plain.1)

plain_texts : (p : Progress) (bs : List ℕ) → IsPlain bs → texts_ended p bs ≡ []
plain_texts p [] plain = refl
plain_texts p (b ∷ bs) plain = rw (ne_eqb b 10 plain.0) (plain_texts (record { kept = keep_byte p.kept b; lines = p.lines }) bs plain.1)

-- What is left of a line comes, and the LF that ends it.

line_come : (p : Progress) (line : List ℕ) → IsPlain line → take_bytes p (line ++ 10 ∷ []) ≡ take_byte (kept_more p line) 10
line_come p line plain = fold-append take_byte p line (10 ∷ []) ∙ ap (λ q. take_byte q 10) (plain_come p line plain)

line_texts : (p : Progress) (line : List ℕ) → IsPlain line → texts_ended p (line ++ 10 ∷ []) ≡ byte_texts (kept_more p line) 10
line_texts p line plain =
    texts_append p line (10 ∷ [])
    ∙ ap (λ texts. texts ++ texts_ended (take_bytes p line) (10 ∷ [])) (plain_texts p line plain)
    ∙ append-nil (byte_texts (take_bytes p line) 10)
    ∙ ap (λ q. byte_texts q 10) (plain_come p line plain)

module _ {V : Type 0} (reading : List ℕ → Result V SentenceError) where
  pub report_append : (n : ℕ) (xs ys : List (List ℕ)) → lines_report reading n (xs ++ ys) ≡ lines_report reading n xs ++ lines_report reading (n + length xs) ys
  report_append n [] ys = ap (λ m. lines_report reading m ys) (omega arith)
  report_append n (x ∷ xs) ys =
      let e : n + 1 + length xs ≡ n + length (x ∷ xs) = omega arith in
      ap (λ t. outcome_text n (reading x) ++ t) (report_append (n + 1) xs ys ∙ ap (λ m. lines_report reading (n + 1) xs ++ lines_report reading m ys) e)
      ∙ sym (append_assoc (outcome_text n (reading x)) (lines_report reading (n + 1) xs) (lines_report reading (n + length (x ∷ xs)) ys))

  text_append : (p : Progress) (bs more : List ℕ) → bytes_text reading p (bs ++ more) ≡ bytes_text reading p bs ++ bytes_text reading (take_bytes p bs) more
  text_append p bs more =
      let ended = texts_ended p bs in
      let next = texts_ended (take_bytes p bs) more in
      let e : p.lines + 1 + length ended ≡ (take_bytes p bs).lines + 1 = omega (arith, lines_come p bs) in
      ap (lines_report reading (p.lines + 1)) (texts_append p bs more)
      ∙ report_append (p.lines + 1) ended next
      ∙ ap (λ n. lines_report reading (p.lines + 1) ended ++ lines_report reading n next) e

  values_append : (p : Progress) (bs more : List ℕ) → bytes_values reading p (bs ++ more) ≡ bytes_values reading p bs ++ bytes_values reading (take_bytes p bs) more
  values_append p bs more =
      ap (values_of reading) (texts_append p bs more) ∙ filter_map-append (λ text. result_ok (reading text)) (texts_ended p bs) (texts_ended (take_bytes p bs) more)

  module _ {C : Type 0} (holds : C → List V → Type 0) where
    -- How a piece has left progress, counter and text after some of its bytes.
    pub record Come (before : Watched C) (said : List ℕ) (bs : List ℕ) (after : Watched C) (told : List ℕ) : Type 0 where
      pub place : after.progress ≡ take_bytes before.progress bs
      pub text : told ≡ said ++ bytes_text reading before.progress bs
      pub counted : (values : List V) → holds before.counter values → holds after.counter (values ++ bytes_values reading before.progress bs)

    -- More bytes of it.
    come_more : (before : Watched C) (said bs : List ℕ) (after : Watched C) (told more : List ℕ) (next : Watched C) (now : List ℕ)
        → Come before said bs after told
        → next.progress ≡ take_bytes after.progress more
        → now ≡ told ++ bytes_text reading after.progress more
        → ((values : List V) → holds after.counter values → holds next.counter (values ++ bytes_values reading after.progress more))
        → Come before said (bs ++ more) next now
    come_more before said bs after told more next now come place text counted = record {
      place = place ∙ ap (λ p. take_bytes p more) come.place ∙ sym (fold-append take_byte before.progress bs more);
      text =
          text ∙ ap (λ t. t ++ bytes_text reading after.progress more) come.text
          ∙ append_assoc said (bytes_text reading before.progress bs) (bytes_text reading after.progress more)
          ∙ ap (λ t. said ++ t) (ap (λ p. bytes_text reading before.progress bs ++ bytes_text reading p more) come.place ∙ sym (text_append before.progress bs more));
      counted = λ values h.
          subst (holds next.counter)
          (append_assoc values (bytes_values reading before.progress bs) (bytes_values reading after.progress more)
          ∙ ap (λ vs. values ++ vs) (ap (λ p. bytes_values reading before.progress bs ++ bytes_values reading p more) come.place ∙ sym (values_append before.progress bs more)))
          (counted _ (come.counted values h));
    }

    -- The same beside what is left of the piece.
    pub record Beside (before : Watched C) (said piece rest : List ℕ) (after : Watched C) (told : List ℕ) : Type 0 where
      pub bytes : List ℕ
      pub whole : piece ≡ bytes ++ rest
      pub come : Come before said bytes after told

    module _ (before : Watched C) (said piece rest : List ℕ) (after : Watched C) (told : List ℕ) (b : Beside before said piece rest after told) where
      -- What is left has an LF, and a line ends.
      pub beside_line : (line behind : List ℕ) (next : Watched C) (now : List ℕ)
          → PartsAtLf rest line behind
          → next.progress ≡ take_byte (kept_more after.progress line) 10
          → now ≡ told ++ lines_report reading (after.progress.lines + 1) (byte_texts (kept_more after.progress line) 10)
          → ((values : List V) → holds after.counter values → holds next.counter (values ++ values_of reading (byte_texts (kept_more after.progress line) 10)))
          → Beside before said piece behind next now
      beside_line line behind next now parts place text counted =
          let ended = line ++ 10 ∷ [] in
          let texts = line_texts after.progress line parts.1 in
          record {
            bytes = b.bytes ++ ended;
            whole =
                b.whole ∙ ap (λ bs. b.bytes ++ bs) (parts.0 ∙ sym (append_assoc line (10 ∷ []) behind)) ∙ sym (append_assoc b.bytes ended behind);
            come =
                come_more before said b.bytes after told ended next now b.come
                (place ∙ sym (line_come after.progress line parts.1))
                (text ∙ ap (λ t. told ++ lines_report reading (after.progress.lines + 1) t) (sym texts))
                (λ values h. subst (λ t. holds next.counter (values ++ values_of reading t)) (sym texts) (counted values h));
          }

      -- What is left has no LF, and is kept.
      pub beside_rest : (next : Watched C) → IsPlain rest → next.progress ≡ kept_more after.progress rest → next.counter ≡ after.counter → Come before said piece next told
      beside_rest next plain place same =
          let none = plain_texts after.progress rest plain in
          subst (λ bs. Come before said bs next told) (sym b.whole)
          (come_more before said b.bytes after told rest next told b.come
          (place ∙ sym (plain_come after.progress rest plain))
          (sym (ap (λ t. told ++ lines_report reading (after.progress.lines + 1) t) none ∙ append-nil told))
          (λ values h. subst (λ vs. holds next.counter (values ++ vs)) (ap (values_of reading) (sym none)) (subst (λ counter. holds counter (values ++ [])) (sym same) (subst (holds after.counter) (sym (append-nil values)) h))))

    -- One more piece.
    pub fed_more : (before : Watched C) (input said bs : List ℕ) (after : Watched C) → Fed reading holds before input said
        → after.progress ≡ take_bytes before.progress bs
        → ((values : List V) → holds before.counter values → holds after.counter (values ++ bytes_values reading before.progress bs))
        → Fed reading holds after (input ++ bs) (said ++ bytes_text reading before.progress bs)
    fed_more before input said bs after fed place counted = record {
      came = place ∙ ap (λ p. take_bytes p bs) fed.came ∙ sym (fold-append take_byte start input bs);
      counted =
          subst (holds after.counter)
          (ap (λ p. bytes_values reading start input ++ bytes_values reading p bs) fed.came ∙ sym (values_append start input bs))
          (counted (bytes_values reading start input) fed.counted);
      text =
          ap (λ t. t ++ bytes_text reading before.progress bs) fed.text
          ∙ ap (λ p. bytes_text reading start input ++ bytes_text reading p bs) fed.came ∙ sym (text_append start input bs);
    }
