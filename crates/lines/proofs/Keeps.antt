-- The bytes that a cutter keeps, beside all the bytes of the line.
use Rattle.std.proofs.Common.{◌≡◌, ℕ, suc, ◌-◌, ◌<◌, ◌≤◌, List, [], ◌∷◌, ◌++◌, map, length, take, sym, refl, ap, ◌∙◌, ⊎_elim, arith}
use Rattle.std.specs.Option.{option_to_list}
use Rattle.std.proofs.lemmas.List.{append-nil, append_assoc, length-take, length_push, take_all, take-take, take-append-le}
use Rattle.std.proofs.lemmas.Bool.{cases_lt, lt-ltb, le-ltb, cond_both}
use Rattle.lines.specs.Kept.{keep_byte, keep_bytes, line_of, last_of}
use Rattle.lines.specs.Lines.{but_last, ends_in_cr, without_cr, shown, last_line}

-- Of more bytes so many are kept as there is room for.
pub keep_bytes_front : (bytes bs : List ℕ) → length bytes ≤ 82 → keep_bytes bytes bs ≡ bytes ++ take (82 - length bytes) bs
keep_bytes_front bytes [] fits = sym (ap (λ more. bytes ++ more) (take_all (82 - length bytes) [] (omega arith)) ∙ append-nil bytes)
keep_bytes_front bytes (b ∷ bs) fits =
    ⊎_elim
    (λ (room : length bytes < 82).
    let next = bytes ++ b ∷ [] in
    let more : 82 - length bytes ≡ suc (82 - length next) = omega (arith, length_push bytes b) in
    rw (lt-ltb (length bytes) 82 room) (rw more (keep_bytes_front next bs (omega (arith, length_push bytes b)) ∙ append_assoc bytes (b ∷ []) (take (82 - length next) bs))))
    (λ (full : 82 ≤ length bytes).
    let none : 82 - length bytes ≡ 0 = omega arith in
    rw (le-ltb (length bytes) 82 full) (keep_bytes_front bytes bs fits ∙ ap (λ n. bytes ++ take n bs) none ∙ sym (ap (λ n. bytes ++ take n (b ∷ bs)) none)))
    (cases_lt (length bytes) 82)

-- A CR at the end is none of the first bytes.
take_without_cr : (n : ℕ) (raw : List ℕ) → n < length raw → take n (without_cr raw) ≡ take n raw
take_without_cr n raw less = cond_both (ends_in_cr raw) (but_last raw) raw (λ x. take n x ≡ take n raw) (λ _. take-take n (length raw - 1) raw (omega arith)) (λ _. refl)

-- The bytes of a line, however many: what of them is kept, and what is handed out.
module _ (raw : List ℕ) where
  pub keep_byte_take : (b : ℕ) → keep_byte (take 82 raw) b ≡ take 82 (raw ++ b ∷ [])
  keep_byte_take b = grind (arith, take_all 82 raw, take_all 82 (raw ++ b ∷ []), take-append-le 82 raw (b ∷ []), length_push raw b, length-take 82 raw)

  pub line_of_take : line_of (take 82 raw) ≡ take 81 (without_cr raw)
  line_of_take =
      ⊎_elim
      (λ (few : length raw < 82). rw (take_all 82 raw (omega arith)) refl)
      (λ (many : 82 ≤ length raw).
      rw (take_without_cr 81 (take 82 raw) (omega (arith, length-take 82 raw))) (rw (take_without_cr 81 raw (omega arith)) (take-take 81 82 raw (omega arith))))
      (cases_lt (length raw) 82)

pub keep_bytes_take : (raw bs : List ℕ) → keep_bytes (take 82 raw) bs ≡ take 82 (raw ++ bs)
keep_bytes_take raw [] = ap (take 82) (sym (append-nil raw))
keep_bytes_take raw (b ∷ bs) =
    ap (λ bytes. keep_bytes bytes bs) (keep_byte_take raw b) ∙ keep_bytes_take (raw ++ b ∷ []) bs ∙ ap (take 82) (append_assoc raw (b ∷ []) bs)

pub last_of_take : (raw : List ℕ) → option_to_list (last_of (take 82 raw)) ≡ map shown (last_line raw)
last_of_take [] = refl
last_of_take (b ∷ bs) = ap (λ bytes. bytes ∷ []) (take-take 81 82 (b ∷ bs) (omega arith))
