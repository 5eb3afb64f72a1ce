-- What is printed byte by byte is the report of the input's lines.
use Rattle.std.proofs.Common.{◌≡◌, ℕ, suc, ◌+◌, ◌-◌, ◌<◌, ◌≤◌, true, false, eqb, List, [], ◌∷◌, ◌++◌, map, length, take, Result, sym, refl, ap, ◌∙◌, ⊎_elim, append_assoc, arith}
use Rattle.std.specs.List.{cons_option, flat_map}
use Rattle.std.specs.Option.{option_to_list}
use Rattle.std.specs.Result.{result_ok}
use Rattle.std.proofs.lemmas.List.{append-nil, take_all, take-take}
use Rattle.std.proofs.lemmas.List.Elements.{filter_map-append}
use Rattle.std.proofs.lemmas.Bool.{cases_Bool, cases_lt, lt-ltb, le-ltb}
use Rattle.lines.specs.Kept.{keep_byte, line_of, last_of}
use Rattle.lines.specs.Lines.{without_cr, last_line, lines_from}
use Rattle.lines.proofs.Keeps.{keep_byte_take, line_of_take}
use Rattle.sentences.specs.declared.error.SentenceError.{SentenceError}
use Rattle.watch.specs.Progress.{Progress, Watched, Fed, start, lines_after, treated, take_byte, byte_texts, take_bytes, texts_ended, last_texts, bytes_values, last_text}
use Rattle.watch.specs.Report.{most_lines, texts_of, outcome_text, lines_report, values_of, report}
use Rattle.watch.proofs.Pieces.{lines_come, report_append}

-- From the bytes to the texts of the lines.

-- The texts that are treated of all the bytes that come from a state on.
abbrev all_texts : Progress → List ℕ → List (List ℕ)
all_texts p [] = last_texts p
all_texts p (b ∷ bs) = byte_texts p b ++ all_texts (take_byte p b) bs

all_append : (p : Progress) (bs more : List ℕ) → all_texts p (bs ++ more) ≡ texts_ended p bs ++ all_texts (take_bytes p bs) more
all_append p [] more = refl
all_append p (b ∷ bs) more =
    ap (λ texts. byte_texts p b ++ texts) (all_append (take_byte p b) bs more)
    ∙ sym (append_assoc (byte_texts p b) (texts_ended (take_byte p b) bs) (all_texts (take_bytes p (b ∷ bs)) more))

-- What is handed out of lines that end from a state on, if they are treated.
abbrev shown : ℕ → List (List ℕ) → List (List ℕ)
shown lines texts = map (take 81) (take (most_lines - lines) texts)

shown_more : (lines : ℕ) (text : List ℕ) (texts : List (List ℕ)) → treated lines (take 81 text) ++ shown (lines_after lines) texts ≡ shown lines (text ∷ texts)
shown_more lines text texts =
    ⊎_elim
    (λ (few : lines < most_lines).
    let more : most_lines - lines ≡ suc (most_lines - (lines + 1)) = omega arith in
    rw (lt-ltb lines most_lines few) (rw more refl))
    (λ (many : most_lines ≤ lines).
    let none : most_lines - lines ≡ 0 = omega arith in
    rw (le-ltb lines most_lines many) (rw none refl))
    (cases_lt lines most_lines)

shown_none : (lines : ℕ) → shown lines [] ≡ []
shown_none lines = rw (take_all {A = List ℕ} (most_lines - lines) [] (omega arith)) refl

-- The end of the input, with the bytes `raw` since the last LF.
last_shown : (lines : ℕ) (raw : List ℕ) → flat_map (treated lines) (option_to_list (last_of (take 82 raw))) ≡ shown lines (map (λ line. line.text) (last_line raw))
last_shown lines [] = sym (shown_none lines)
last_shown lines (b ∷ bs) =
    ap (λ text. treated lines text ++ []) (take-take 81 82 (b ∷ bs) (omega arith))
    ∙ ap (λ texts. treated lines (take 81 (b ∷ bs)) ++ texts) (sym (shown_none (lines_after lines)))
    ∙ shown_more lines (b ∷ bs) []

all_shown : (p : Progress) (raw bs : List ℕ) → p.kept ≡ take 82 raw → all_texts p bs ≡ shown p.lines (map (λ line. line.text) (lines_from raw bs))
all_shown p raw [] kept = ap (λ bytes. flat_map (treated p.lines) (option_to_list (last_of bytes))) kept ∙ last_shown p.lines raw
all_shown p raw (b ∷ bs) kept =
    ⊎_elim
    (λ (is : eqb b 10 ≡ true).
    rw is
    (ap (λ texts. treated p.lines (line_of p.kept) ++ texts) (all_shown (record { kept = []; lines = lines_after p.lines }) [] bs refl)
    ∙ ap (λ t. treated p.lines t ++ shown (lines_after p.lines) (map (λ line. line.text) (lines_from [] bs))) (ap line_of kept ∙ line_of_take raw)
    ∙ shown_more p.lines (without_cr raw) (map (λ line. line.text) (lines_from [] bs))))
    (λ (other : eqb b 10 ≡ false).
    rw other (all_shown (record { kept = keep_byte p.kept b; lines = p.lines }) (raw ++ b ∷ []) bs (ap (λ bytes. keep_byte bytes b) kept ∙ keep_byte_take raw b)))
    (cases_Bool (eqb b 10))

-- Once the millionth line has come, more input changes nothing.
none_full : (lines : ℕ) (texts : List (List ℕ)) → most_lines ≤ lines → flat_map (treated lines) texts ≡ []
none_full lines [] full = refl
none_full lines (text ∷ texts) full = rw (le-ltb lines most_lines full) (none_full lines texts full)

all_full : (p : Progress) (bs : List ℕ) → most_lines ≤ p.lines → all_texts p bs ≡ []
all_full p [] full = none_full p.lines (option_to_list (last_of p.kept)) full
all_full p (b ∷ bs) full =
    ⊎_elim
    (λ (is : eqb b 10 ≡ true). rw is (rw (le-ltb p.lines most_lines full) (all_full (record { kept = []; lines = p.lines }) bs full)))
    (λ (other : eqb b 10 ≡ false). rw other (all_full (record { kept = keep_byte p.kept b; lines = p.lines }) bs full))
    (cases_Bool (eqb b 10))

-- From the texts of the lines to the report.

module _ {V : Type 0} (reading : List ℕ → Result V SentenceError) (decided : (text : List ℕ) → reading (take 81 text) ≡ reading text) (ending : List V → List ℕ) where
  -- A line is judged by the first 81 bytes of its text.
  report_shown : (n : ℕ) (texts : List (List ℕ)) → lines_report reading n (map (take 81) texts) ≡ lines_report reading n texts
  report_shown n [] = refl
  report_shown n (text ∷ texts) = rw (decided text) (ap (λ t. outcome_text n (reading text) ++ t) (report_shown (n + 1) texts))

  values_shown : (texts : List (List ℕ)) → values_of reading (map (take 81) texts) ≡ values_of reading texts
  values_shown [] = refl
  values_shown (text ∷ texts) = rw (decided text) (ap (cons_option (result_ok (reading text))) (values_shown texts))

  -- All that is printed of texts.
  abbrev told : List (List ℕ) → List ℕ
  told texts = lines_report reading 1 texts ++ ending (values_of reading texts)

  report_told : (input : List ℕ) → told (all_texts start input) ≡ report reading ending input
  report_told input =
      ap told (all_shown start [] input refl)
      ∙ ap (λ t. t ++ ending (values_of reading (map (take 81) (texts_of input)))) (report_shown 1 (texts_of input))
      ∙ ap (λ values. lines_report reading 1 (texts_of input) ++ ending values) (values_shown (texts_of input))

  module _ {C : Type 0} (holds : C → List V → Type 0) (watch : Watched C) (input said : List ℕ) (fed : Fed reading holds watch input said) where
    pub fed_report : said ++ last_text reading ending watch.progress (bytes_values reading start input) ≡ report reading ending input
    fed_report =
        let p = watch.progress in
        let ended = texts_ended start input in
        let last = last_texts p in
        let values = values_of reading ended ++ values_of reading last in
        let next : p.lines + 1 ≡ 1 + length ended = omega (arith, lines_come start input, ap (λ q. q.lines) fed.came) in
        let all : ended ++ last ≡ all_texts start input = ap (λ q. ended ++ last_texts q) fed.came ∙ sym (all_append start input []) ∙ ap (all_texts start) (append-nil input) in
        ap (λ t. t ++ last_text reading ending p (values_of reading ended)) fed.text
        ∙ sym (append_assoc (lines_report reading 1 ended) (lines_report reading (p.lines + 1) last) (ending values))
        ∙ ap (λ n. lines_report reading 1 ended ++ lines_report reading n last ++ ending values) next
        ∙ ap (λ t. t ++ ending values) (sym (report_append reading 1 ended last))
        ∙ ap (λ vs. lines_report reading 1 (ended ++ last) ++ ending vs) (sym (filter_map-append (λ text. result_ok (reading text)) ended last))
        ∙ ap told all
        ∙ report_told input

    pub fed_rest : (more : List ℕ) → watch.progress.lines ≡ most_lines → report reading ending (input ++ more) ≡ report reading ending input
    fed_rest more done =
        let ended = texts_ended start input in
        let full : most_lines ≤ (take_bytes start input).lines = omega (arith, ap (λ q. q.lines) fed.came) in
        let same : (bs : List ℕ) → all_texts start (input ++ bs) ≡ ended ++ [] = λ bs. all_append start input bs ∙ ap (λ texts. ended ++ texts) (all_full (take_bytes start input) bs full) in
        sym (report_told (input ++ more)) ∙ ap told (same more ∙ sym (same []) ∙ ap (all_texts start) (append-nil input)) ∙ report_told input
