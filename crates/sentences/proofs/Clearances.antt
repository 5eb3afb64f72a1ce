-- Fields give a clearance exactly if they are a depth, an offset and at most one field more.
use Rattle.std.proofs.Common.{◌≡◌, ℕ, ◌+◌, Bool, true, false, cond, eqb, List, [], ◌∷◌, ◌++◌, length, take, drop, ℤ, pos, ◌-ℤ◌, Some, None, Ok, Err, Option, Result, sym, refl, ap, ◌∙◌, inl, inr, append-nil, arith}
use Rattle.std.specs.List.{prefix_len, AllByRecursion}
use Rattle.std.proofs.ByRecursion.{All-weaker, All-append}
use Rattle.std.proofs.lemmas.List.{take_at, drop_at, take-append-drop, nil_from_length}
use Rattle.std.proofs.lemmas.Bool.{eqb-true, eqb-false, ne_eqb, not-true, not-false, not_from_false}
use Rattle.sentences.specs.Bytes.{is_digit}
use Rattle.sentences.specs.Fields.{not_comma, next_field, metres_of, keel_of, fourth_at, extra_of, needed, unless_extra, clearance_of}
use Rattle.sentences.specs.Format.{CommaFirst, pointed, Metres, OneField}
use Rattle.sentences.specs.declared.error.SentenceError.{SentenceError}
use Rattle.sentences.specs.declared.error.SentenceError.TheVariants.{NoClearance}
use Rattle.sentences.proofs.Leading.{leading_front, leading_passes, leading_stops, fails_leading, Fails}
use Rattle.sentences.proofs.Numbers.{metres_right, right_metres}
use Rattle.sentences.proofs.Somes.{none_some, same_some, err_ok}

abbrev InField : List ℕ → Type 0
InField xs = AllByRecursion (λ b. not_comma b ≡ true) xs

-- a field, and what follows it, cut off a list that begins with a comma

split_right : (fields text rest : List ℕ) → CommaFirst fields → next_field fields ≡ Some (text, rest) → (fields ≡ 44 ∷ (text ++ rest)) × InField text × CommaFirst rest
split_right [] text rest first e = none_some e
split_right (b ∷ bs) text rest first e =
    let both = same_some e in
    let front : take (prefix_len not_comma bs) bs ≡ text = ap (λ p. p.0) both in
    let back : drop (prefix_len not_comma bs) bs ≡ rest = ap (λ p. p.1) both in (
      ap (λ c. c ∷ bs) first ∙ ap (λ ys. 44 ∷ ys) (sym (take-append-drop (prefix_len not_comma bs) bs) ∙ ap (λ ys. ys ++ drop (prefix_len not_comma bs) bs) front ∙ ap (λ ys. text ++ ys) back),
      rw front at (leading_passes not_comma bs),
      comma rest (rw back at (leading_stops not_comma bs)),
    )
  where
    comma : (ys : List ℕ) → Fails not_comma ys → CommaFirst ys
    comma [] h = tt
    comma (y ∷ ys) h = eqb-true y 44 (not-false (eqb y 44) h)

right_split : (c : ℕ) (text rest : List ℕ) → InField text → CommaFirst rest → next_field (c ∷ (text ++ rest)) ≡ Some (text, rest)
right_split c text rest all first =
    let long : prefix_len not_comma (text ++ rest) ≡ length text = leading_front not_comma text rest all (fails_leading not_comma rest (fails rest first)) in
    ap (λ n. Some (take n (text ++ rest), drop n (text ++ rest))) long ∙ ap (λ xs. Some (xs, drop (length text) (text ++ rest))) (take_at text rest (length text) refl) ∙ ap (λ xs. Some (text, xs)) (drop_at text rest (length text) refl)
  where
    fails : (ys : List ℕ) → CommaFirst ys → Fails not_comma ys
    fails [] h = tt
    fails (y ∷ ys) h = ap not_comma h

-- a number has no comma

digit_not_comma : (b : ℕ) → is_digit b ≡ true → not_comma b ≡ true
digit_not_comma b d = grind arith

pointed_not_comma : (fraction : List ℕ) → AllByRecursion (λ b. is_digit b ≡ true) fraction → InField (pointed fraction)
pointed_not_comma [] all = tt
pointed_not_comma (d ∷ ds) all = (refl, All-weaker _ _ digit_not_comma (d ∷ ds) all)

metres_not_comma : (text : List ℕ) (n : ℕ) → Metres text n → InField text
metres_not_comma text n m =
    rw m.joined (All-append _ m.whole (pointed m.fraction) (All-weaker _ _ digit_not_comma m.whole m.whole_digits) (pointed_not_comma m.fraction m.fraction_digits))

keel_right : (text : List ℕ) (n : ℕ) → keel_of text ≡ Some n → (offset : List ℕ) × (text ≡ 45 ∷ offset) × Metres offset n
keel_right [] n e = none_some e
keel_right (b ∷ bs) n e = by (eqb b 45) refl e
  where
    by : (t : Bool) → eqb b 45 ≡ t → cond t (metres_of bs) None ≡ Some n → (offset : List ℕ) × (b ∷ bs ≡ 45 ∷ offset) × Metres offset n
    by false minus e = none_some e
    by true minus e = (bs, ap (λ c. c ∷ bs) (eqb-true b 45 minus), metres_right bs n e)

-- at most one field more

extra_right : (column : ℕ) (rest : List ℕ) → CommaFirst rest → extra_of column rest ≡ None → OneField rest
extra_right column [] first e = inl refl
extra_right column (b ∷ bs) first e = by (eqb (length (drop (prefix_len not_comma bs) bs)) 0) refl e
  where
    by : (t : Bool) → eqb (length (drop (prefix_len not_comma bs) bs)) 0 ≡ t → cond t None (Some (column + 2 + length (take (prefix_len not_comma bs) bs))) ≡ None → OneField (b ∷ bs)
    by false more e = none_some (sym e)
    by true none e =
        let empty = nil_from_length (drop (prefix_len not_comma bs) bs) (eqb-true _ 0 none) in
        let whole : take (prefix_len not_comma bs) bs ≡ bs = sym (append-nil _) ∙ ap (λ ys. take (prefix_len not_comma bs) bs ++ ys) (sym empty) ∙ take-append-drop (prefix_len not_comma bs) bs in
        inr (bs, ap (λ c. c ∷ bs) first, All-weaker _ _ (λ c h. eqb-false c 44 (not-true (eqb c 44) h)) bs (rw whole at (leading_passes not_comma bs)))

right_extra : (column : ℕ) (rest : List ℕ) → OneField rest → extra_of column rest ≡ None
right_extra column rest (inl none) = ap (extra_of column) none
right_extra column rest (inr (text, is, plain)) =
    let all : InField text = All-weaker _ _ (λ c h. not_from_false (eqb c 44) (ne_eqb c 44 h)) text plain in
    let split : next_field (44 ∷ text) ≡ Some (text, []) = ap (λ ys. next_field (44 ∷ ys)) (sym (append-nil text)) ∙ right_split 44 text [] all tt in
    ap (extra_of column) is ∙ ap (fourth_at column) split

one_comma_first : (rest : List ℕ) → OneField rest → CommaFirst rest
one_comma_first rest (inl none) = rw none tt
one_comma_first rest (inr (text, is, plain)) = rw is refl

-- the parts of fields that give a clearance
pub record Depth (fields : List ℕ) (clearance : ℤ) : Type 0 where
  pub depth : List ℕ
  pub offset : List ℕ
  pub rest : List ℕ
  pub deep : ℕ
  pub keel : ℕ
  pub joined : fields ≡ 44 ∷ (depth ++ (44 ∷ 45 ∷ (offset ++ rest)))
  pub depth_metres : Metres depth deep
  pub offset_metres : Metres offset keel
  pub rest_one : OneField rest
  pub value : clearance ≡ pos deep -ℤ pos keel

needed_ok : {A : Type 0} (o : Option A) (column : ℕ) (next : A → Result ℤ SentenceError) (x : ℤ) → needed o column next ≡ Ok x → (y : A) × (o ≡ Some y) × (next y ≡ Ok x)
needed_ok None column next x e = err_ok e
needed_ok (Some y) column next x e = (y, refl, e)

unless_ok : (o : Option ℕ) (z x : ℤ) → unless_extra o z ≡ Ok x → (o ≡ None) × (x ≡ z)
unless_ok o z x e = grind arith

pub clearance_right : (column : ℕ) (fields : List ℕ) (x : ℤ) → CommaFirst fields → clearance_of column fields ≡ Ok x → Depth fields x
clearance_right column fields x first e =
    let depth = needed_ok (next_field fields) column _ x e in
    let deep = needed_ok (metres_of depth.0.0) (column + 1) _ x depth.2 in
    let offset = needed_ok (next_field depth.0.1) (column + 1 + length depth.0.0) _ x deep.2 in
    let keel = needed_ok (keel_of offset.0.0) (column + 1 + length depth.0.0 + 1) _ x offset.2 in
    let last = unless_ok (extra_of (column + 1 + length depth.0.0 + 1 + length offset.0.0) offset.0.1) (pos deep.0 -ℤ pos keel.0) x keel.2 in
    let one = split_right fields depth.0.0 depth.0.1 first depth.1 in
    let two = split_right depth.0.1 offset.0.0 offset.0.1 one.2 offset.1 in
    let minus = keel_right offset.0.0 keel.0 keel.1 in
    record {
      depth = depth.0.0;
      offset = minus.0;
      rest = offset.0.1;
      deep = deep.0;
      keel = keel.0;
      joined = one.0 ∙ ap (λ ys. 44 ∷ (depth.0.0 ++ ys)) (two.0 ∙ ap (λ ys. 44 ∷ (ys ++ offset.0.1)) minus.1);
      depth_metres = metres_right depth.0.0 deep.0 deep.1;
      offset_metres = minus.2;
      rest_one = extra_right _ offset.0.1 two.2 last.0;
      value = last.1;
    }

-- how the clearance goes on from the offset, whose comma stands at `at`
abbrev pub past_offset : ℕ → ℕ → List ℕ × List ℕ → Result ℤ SentenceError
past_offset at deep offset =
    needed (keel_of offset.0) (at + 1) (λ keel. unless_extra (extra_of (at + 1 + length offset.0) offset.1) (pos deep -ℤ pos keel))

-- the clearance once depth and offset are cut off and the depth is a number
pub clearance_past : (column : ℕ) (fields text rest : List ℕ) (deep : ℕ) (text' rest' : List ℕ) → next_field fields ≡ Some (text, rest) → metres_of text ≡ Some deep → next_field rest ≡ Some (text', rest') → clearance_of column fields ≡ past_offset (column + 1 + length text) deep (text', rest')
clearance_past column fields text rest deep text' rest' one metres two = grind arith

-- the offset is no number behind a minus
pub offset_refused : (at deep column : ℕ) (text rest : List ℕ) → keel_of text ≡ None → column ≡ at + 1 → past_offset at deep (text, rest) ≡ Err (NoClearance column)
offset_refused at deep column text rest none place = grind arith

-- the offset is one, and no fourth field follows
pub offset_read : (at deep keel column : ℕ) (text rest : List ℕ) → keel_of text ≡ Some keel → column ≡ at + 1 + length text → ◌≡◌ {A = Result (Unit {0}) SentenceError} (Ok tt) (unless_extra (extra_of column rest) tt) → past_offset at deep (text, rest) ≡ Ok (pos deep -ℤ pos keel)
offset_read at deep keel column text rest some place end = grind arith

pub right_clearance : (column : ℕ) (fields : List ℕ) (x : ℤ) → Depth fields x → clearance_of column fields ≡ Ok x
right_clearance column fields x d =
    let behind = 44 ∷ 45 ∷ (d.offset ++ d.rest) in
    let one : next_field fields ≡ Some (d.depth, behind) = ap next_field d.joined ∙ right_split 44 d.depth behind (metres_not_comma d.depth d.deep d.depth_metres) refl in
    let two : next_field behind ≡ Some (45 ∷ d.offset, d.rest) = right_split 44 (45 ∷ d.offset) d.rest (refl, metres_not_comma d.offset d.keel d.offset_metres) (one_comma_first d.rest d.rest_one) in
    let at : ℕ = column + 1 + length d.depth in
    clearance_past column fields d.depth behind d.deep (45 ∷ d.offset) d.rest one (right_metres d.depth d.deep d.depth_metres) two
    ∙ ap (λ o. needed o (at + 1) (λ keel. unless_extra (extra_of (at + 1 + length (45 ∷ d.offset)) d.rest) (pos d.deep -ℤ pos keel))) (right_metres d.offset d.keel d.offset_metres)
    ∙ ap (λ o. unless_extra o (pos d.deep -ℤ pos d.keel)) (right_extra (at + 1 + length (45 ∷ d.offset)) d.rest d.rest_one)
    ∙ ap Ok (sym d.value)
