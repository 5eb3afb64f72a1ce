-- What is written about an input that is read piece by piece.
use Rattle.std.proofs.Common.{◌≡◌, ℕ, ◌<◌, ◌≤◌, arith, List, [], ◌++◌, length, take, Some, None, Option, Result, Ok, Err, sym, refl, ap, ◌∙◌, subst, append_assoc}
use Rattle.std.proofs.Math.Seq.{take-append_seam}
use Rattle.std.proofs.lemmas.List.{append-nil}
use Rattle.std.proofs.lemmas.List.Sums.{fold-append}
use Rattle.std.specs.Result.{OnOk}
use Rattle.std.specs.Io.KnownBytes.{Appends, Consumes, IsAtEnd}
use Rattle.sentences.specs.declared.error.SentenceError.{SentenceError}
use Rattle.watch.specs.Progress.{Progress, Watched, Fed, bytes_text, start, take_byte, take_bytes}
use Rattle.watch.specs.Report.{most_lines}
use Rattle.watch.specs.Stream.{most_bytes, ReadAsNeeded}

consumed : (rest : List ℕ) (left : Option (List ℕ)) (piece : List ℕ) → Consumes (Some rest) left piece → (more : List ℕ) × (left ≡ Some more) × (rest ≡ piece ++ more)
consumed rest None piece h = absurd h
consumed rest (Some more) piece h = (more, refl, h)

appended : (text : List ℕ) (written : Option (List ℕ)) (piece : List ℕ) → Appends (Some text) written piece → written ≡ Some (text ++ piece)
appended text None piece h = absurd h
appended text (Some all) piece h = ap Some h

ended : (more : List ℕ) (left : Option (List ℕ)) → left ≡ Some more → IsAtEnd left → more ≡ []
ended more left e h = subst IsAtEnd e h

pub on_ok : {T E : Type 0} (r : Result T E) {X : Type 0} → X → OnOk r X
on_ok (Ok value) x = x
on_ok (Err error) x = tt

-- A buffer that was read into whole.
pub whole_buffer : (size : ℕ) (piece buffer rest : List ℕ) → piece ≡ take size (buffer ++ rest) → length buffer ≡ size → piece ≡ buffer
whole_buffer size piece buffer rest is long = is ∙ ap (λ n. take n (buffer ++ rest)) (sym long) ∙ take-append_seam buffer rest

-- How far a watch has come beside what is left of an input, of which no more was read than was needed.
pub record Taken (bytes : List ℕ) (left : Option (List ℕ)) (progress : Progress) : Type 0 where
  pub rest : List ℕ
  pub is_left : left ≡ Some rest
  pub enough : ReadAsNeeded bytes rest
  pub come : progress ≡ take_bytes start (enough.before ++ enough.last)

pub none_taken : (bytes : List ℕ) (left : Option (List ℕ)) (progress : Progress) → left ≡ Some bytes → progress ≡ start → Taken bytes left progress
none_taken bytes left progress is_left at_start = record {
  rest = bytes;
  is_left = is_left;
  enough = record { before = []; last = []; whole = refl; needed = omega arith; short = omega arith };
  come = at_start;
}

module _ (bytes : List ℕ) (left : Option (List ℕ)) (progress : Progress) (t : Taken bytes left progress) (left' : Option (List ℕ)) where
  -- One piece more, before which not all lines had come.
  pub piece_taken : (piece : List ℕ) (progress' : Progress) → Consumes left left' piece → progress.lines < most_lines → length piece ≤ most_bytes → progress' ≡ take_bytes progress piece
      → Taken bytes left' progress'
  piece_taken piece progress' takes needed short comes =
      let next = consumed t.rest left' piece (subst (λ l. Consumes l left' piece) t.is_left takes) in
      let before = t.enough.before ++ t.enough.last in
      record {
        rest = next.0;
        is_left = next.1;
        enough = record {
          before = before;
          last = piece;
          whole = t.enough.whole ∙ sym (append_assoc t.enough.before t.enough.last t.rest) ∙ ap (λ more. before ++ more) next.2;
          needed = subst (λ p. p.lines < most_lines) t.come needed;
          short = short;
        };
        come = comes ∙ ap (λ p. take_bytes p piece) t.come ∙ sym (fold-append take_byte start before piece);
      }

  -- A read that gave no byte.
  pub nothing_taken : Consumes left left' [] → (rest : List ℕ) × (left' ≡ Some rest) × ReadAsNeeded bytes rest
  nothing_taken takes =
      let next = consumed t.rest left' [] (subst (λ l. Consumes l left' []) t.is_left takes) in
      (next.0, next.1, subst (λ rest. ReadAsNeeded bytes rest) next.2 t.enough)

module _ {V C : Type 0} (reading : List ℕ → Result V SentenceError) (holds : C → List V → Type 0) where
  -- A watch beside the bytes that are left of an input, and the text that is written about the others.
  pub record Beside (bytes before : List ℕ) (left written : Option (List ℕ)) (watch : Watched C) : Type 0 where
    pub came : List ℕ
    pub rest : List ℕ
    pub said : List ℕ
    pub whole : bytes ≡ came ++ rest
    pub is_left : left ≡ Some rest
    pub is_written : written ≡ Some (before ++ said)
    pub fed : Fed reading holds watch came said

  pub none_came : (bytes before : List ℕ) (left written : Option (List ℕ)) (watch : Watched C) → left ≡ Some bytes → written ≡ Some before → Fed reading holds watch [] [] → Beside bytes before left written watch
  none_came bytes before left written watch is_left is_written fed = record {
    came = [];
    rest = bytes;
    said = [];
    whole = refl;
    is_left = is_left;
    is_written = is_written ∙ ap Some (sym (append-nil before));
    fed = fed;
  }

  module _ (bytes before : List ℕ) (left written : Option (List ℕ)) (watch : Watched C) (b : Beside bytes before left written watch) (left' : Option (List ℕ)) where
    -- A piece was read and fed, and what is printed of it is written.
    pub beside_piece : (written' : Option (List ℕ)) (watch' : Watched C) (piece came text : List ℕ)
        → Consumes left left' piece → came ≡ piece
        → Appends written written' text → text ≡ bytes_text reading watch.progress came
        → ((input said : List ℕ) → Fed reading holds watch input said → Fed reading holds watch' (input ++ came) (said ++ bytes_text reading watch.progress came))
        → Beside bytes before left' written' watch'
    beside_piece written' watch' piece came text takes same appends printed fed =
        let next = consumed b.rest left' came (subst (λ p. Consumes (Some b.rest) left' p) (sym same) (subst (λ l. Consumes l left' piece) b.is_left takes)) in
        record {
          came = b.came ++ came;
          rest = next.0;
          said = b.said ++ bytes_text reading watch.progress came;
          whole = b.whole ∙ ap (λ more. b.came ++ more) next.2 ∙ sym (append_assoc b.came came next.0);
          is_left = next.1;
          is_written =
              appended (before ++ b.said) written' text (subst (λ w. Appends w written' text) b.is_written appends)
              ∙ ap (λ t. Some (before ++ b.said ++ t)) printed ∙ ap Some (append_assoc before b.said (bytes_text reading watch.progress came));
          fed = fed b.came b.said b.fed;
        }

    -- Where a read gives no byte, all have come.
    pub all_came : Consumes left left' [] → IsAtEnd left' → bytes ≡ b.came
    all_came takes end =
        let next = consumed b.rest left' [] (subst (λ l. Consumes l left' []) b.is_left takes) in
        b.whole ∙ ap (λ more. b.came ++ more) (next.2 ∙ ended next.0 left' next.1 end) ∙ append-nil b.came
