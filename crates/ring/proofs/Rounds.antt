-- The keys of consecutive puts in rows that are used in turn. Assumes nothing.
use Rattle.std.proofs.Common.{◌≡◌, ℕ, zero, suc, ◌+◌, ◌-◌, ◌%◌, ◌<◌, ◌≤◌, ◌≢◌, List, [], ◌∷◌, ◌++◌, map, length, get_or, take, drop, set, sym, refl, ap, ◌∙◌, ⊎_elim, add-zero, mod-eq_of_lt, arith, length-append, length-drop, length-set}
use native.Mathlib.Nat.{mod-add-mod, mod-eq-sub-mod}
use Rattle.std.proofs.lemmas.Nat.{mod_below}
use Rattle.std.proofs.Math.Seq.{drop-drop, take-add}
use Rattle.std.proofs.lemmas.List.{append-nil, append_assoc, drop_more, get_or_append_left, get_or_push, get_or-set_other, get_or-set_same, length-map, length_push, length-take, map-append, same_lists}
use Rattle.std.proofs.lemmas.Bool.{cases_lt}
use Rattle.tally.specs.declared.rows.Row.{Row}
use Rattle.ring.specs.Rings.{key_in, keys_from}

-- fewer than `rounds` puts apart, two puts have different rows
rows_differ : (m apart rounds : ℕ) → 0 < apart → apart < rounds → m % rounds ≢ (m + apart) % rounds
rows_differ m apart rounds some few same =
    let rest : ℕ = m % rounds in
    let below : rest < rounds = mod_below m rounds (omega arith) in
    let turned : (rest + apart) % rounds ≡ rest = mod-add-mod m rounds apart ∙ sym same in
    ⊎_elim
    (λ (h : rest + apart < rounds). omega (arith, mod-eq_of_lt h, turned))
    (λ (h : rounds ≤ rest + apart). let once : rest + apart - rounds < rounds = omega arith in omega (arith, mod-eq-sub-mod h, mod-eq_of_lt once, turned))
    (cases_lt (rest + apart) rounds)

-- `size` puts back, in the same round or in the one before
turned_back : (puts size rounds : ℕ) → 0 < rounds → size ≤ puts → size ≤ rounds
    → (size ≤ puts % rounds → (puts - size) % rounds ≡ puts % rounds - size) × (puts % rounds < size → (puts - size) % rounds ≡ rounds - (size - puts % rounds))
turned_back puts size rounds some came few =
    let back : ℕ = (puts - size) % rounds in
    let below : back < rounds = mod_below (puts - size) rounds some in
    let here : puts % rounds < rounds = mod_below puts rounds some in
    let again : puts - size + size ≡ puts = omega arith in
    let turned : (back + size) % rounds ≡ puts % rounds = mod-add-mod (puts - size) rounds size ∙ ap (λ m. m % rounds) again in
    ⊎_elim
    (λ (h : back + size < rounds). let same : back + size ≡ puts % rounds = sym (mod-eq_of_lt h) ∙ turned in (λ near. omega arith, λ far. omega arith))
    (λ (h : rounds ≤ back + size).
    let once : back + size - rounds < rounds = omega arith in
    let same : back + size - rounds ≡ puts % rounds = sym (mod-eq-sub-mod h ∙ mod-eq_of_lt once) ∙ turned in
    (λ near. omega arith, λ far. omega arith))
    (cases_lt (back + size) rounds)

module _ {K : Type 0} where
  key_in_at : (rows : List (Row K)) (i : ℕ) (r : Row K) → i < length rows → key_in rows i ≡ (get_or rows i r).key ∷ []
  key_in_at rows i r within = ap (λ rest. map (λ row. row.key) (take 1 rest)) (drop_more rows i r within)

  keys_split : (rows : List (Row K)) (rounds from a b : ℕ) → keys_from rows rounds from (a + b) ≡ keys_from rows rounds from a ++ keys_from rows rounds (from + a) b
  keys_split rows rounds from zero b =
      let none : 0 + b ≡ b = omega arith in
      ap (keys_from rows rounds from) none ∙ ap (λ m. keys_from rows rounds m b) (sym (add-zero from))
  keys_split rows rounds from (suc a) b =
      let after : from + 1 + a ≡ from + suc a = omega arith in
      let one : suc a + b ≡ suc (a + b) = omega arith in
      ap (keys_from rows rounds from) one
      ∙ ap (λ ks. key_in rows (from % rounds) ++ ks) (keys_split rows rounds (from + 1) a b ∙ ap (λ m. keys_from rows rounds (from + 1) a ++ keys_from rows rounds m b) after)
      ∙ sym (append_assoc (key_in rows (from % rounds)) (keys_from rows rounds (from + 1) a) (keys_from rows rounds (from + suc a) b))

  -- puts of one round lie side by side
  keys_run : (rows : List (Row K)) (rounds from at n : ℕ) → from % rounds ≡ at → at + n ≤ rounds → keys_from rows rounds from n ≡ map (λ row. row.key) (take n (drop at rows))
  keys_run rows rounds from at zero here fits = refl
  keys_run rows rounds from at (suc zero) here fits = append-nil (key_in rows (from % rounds)) ∙ ap (key_in rows) here
  keys_run rows rounds from at (suc (suc n)) here fits =
      let two : suc (suc n) ≡ 1 + suc n = omega arith in
      let next : (from + 1) % rounds ≡ at + 1 = sym (mod-add-mod from rounds 1) ∙ ap (λ m. (m + 1) % rounds) here ∙ mod-eq_of_lt (omega arith) in
      (λ t. key_in rows (here t) ++ keys_run rows rounds (from + 1) (at + 1) (suc n) next (omega arith) t)
      ∙ sym (map-append (λ row. row.key) (take 1 (drop at rows)) (take (suc n) (drop (at + 1) rows)))
      ∙ ap (map (λ row. row.key)) (ap (λ rest. take 1 (drop at rows) ++ take (suc n) rest) (sym (drop-drop 1 at rows)) ∙ sym (take-add 1 (suc n) (drop at rows)) ∙ ap (λ m. take m (drop at rows)) (sym two))

  module _ (rows : List (Row K)) (puts size rounds end : ℕ) (some : 0 < rounds) (came : size ≤ puts) (few : size ≤ rounds) (next : end ≡ puts % rounds) where
    below : end < rounds
    below = omega (arith, next, mod_below puts rounds some)

    -- a window that ends before the row of the next put lies in one piece
    pub window_once : size ≤ end → map (λ row. row.key) (take size (drop (end - size) rows)) ≡ keys_from rows rounds (puts - size) size
    window_once near =
        let start : (puts - size) % rounds ≡ end - size = (turned_back puts size rounds some came few).0 (omega (arith, next)) ∙ ap (λ m. m - size) (sym next) in
        sym (keys_run rows rounds (puts - size) (end - size) size start (omega (arith, below)))

    -- a window that goes past the last row lies in two
    pub window_twice : end < size
        → map (λ row. row.key) (take (size - end) (drop (rounds - (size - end)) rows) ++ take end rows) ≡ keys_from rows rounds (puts - size) size
    window_twice far =
        let both : size ≡ size - end + end = omega arith in
        let turn : puts - end ≡ puts - size + (size - end) = omega arith in
        let start : (puts - size) % rounds ≡ rounds - (size - end) = (turned_back puts size rounds some came few).1 (omega (arith, next)) ∙ ap (λ m. rounds - (size - m)) (sym next) in
        let again : (puts - end) % rounds ≡ 0 = omega (arith, next, (turned_back puts end rounds some (omega arith) (omega (arith, below))).0 (omega (arith, next))) in
        let older = keys_run rows rounds (puts - size) (rounds - (size - end)) (size - end) start (omega arith) in
        let newer = keys_run rows rounds (puts - end) 0 end again (omega (arith, below)) in
        map-append (λ row. row.key) (take (size - end) (drop (rounds - (size - end)) rows)) (take end rows)
        ∙ sym (λ t. older t ++ newer t)
        ∙ ap (λ m. keys_from rows rounds (puts - size) (size - end) ++ keys_from rows rounds m end) turn
        ∙ sym (keys_split rows rounds (puts - size) (size - end) end)
        ∙ ap (keys_from rows rounds (puts - size)) (sym both)

  -- in tables of any length: no more keys than puts
  key_in_few : (rows : List (Row K)) (i : ℕ) → length (key_in rows i) ≤ 1
  key_in_few rows i = omega (arith, length-map (take 1 (drop i rows)) (λ (row : Row K). row.key), length-take 1 (drop i rows))

  keys_few : (rows : List (Row K)) (rounds from n : ℕ) → length (keys_from rows rounds from n) ≤ n
  keys_few rows rounds from zero = omega arith
  keys_few rows rounds from (suc n) =
      omega (arith, length-append (key_in rows (from % rounds)) (keys_from rows rounds (from + 1) n), key_in_few rows (from % rounds), keys_few rows rounds (from + 1) n)

  tail_is : (front keys : List K) (n : ℕ) (oldest : K) (window : List K) → length front ≤ 1 → length keys ≤ n → front ++ keys ≡ oldest ∷ window → length window ≡ n → keys ≡ window
  tail_is [] keys n oldest window few most e long = absurd (omega (arith, ap length e))
  tail_is (k ∷ []) keys n oldest window few most e long = cc
  tail_is (k ∷ (j ∷ front)) keys n oldest window few most e long = absurd (omega arith)

  -- the oldest key is let go
  pub keys_drop : (rows : List (Row K)) (rounds puts size : ℕ) (oldest : K) (window : List K) → size ≤ puts → size ≡ length (oldest ∷ window) → keys_from rows rounds (puts - size) size ≡ oldest ∷ window
      → keys_from rows rounds (puts - (size - 1)) (size - 1) ≡ window
  keys_drop rows rounds puts zero oldest window within long e = absurd (omega arith)
  keys_drop rows rounds puts (suc n) oldest window within long e =
      let from : puts - (suc n - 1) ≡ puts - suc n + 1 = omega arith in
      let one_less : suc n - 1 ≡ n = omega arith in
      rw (from, one_less)
      (tail_is (key_in rows ((puts - suc n) % rounds)) (keys_from rows rounds (puts - suc n + 1) n) n oldest window (key_in_few rows _) (keys_few rows rounds (puts - suc n + 1) n) e (omega arith))

  -- in tables that are long enough: a key for each put
  module _ (rows : List (Row K)) (rounds : ℕ) (some : 0 < rounds) (enough : rounds ≤ length rows) where
    in_table : (m : ℕ) → m % rounds < length rows
    in_table m = omega (arith, mod_below m rounds some)

    pub keys_length : (from n : ℕ) → length (keys_from rows rounds from n) ≡ n
    keys_length from zero = refl
    keys_length from (suc n) =
        let here = from % rounds in
        omega (arith, length-append (key_in rows here) (keys_from rows rounds (from + 1) n), length-map (take 1 (drop here rows)) (λ (row : Row K). row.key), length-take 1 (drop here rows), length-drop here rows, in_table from, keys_length (from + 1) n)

    pub keys_get_or : (from n i : ℕ) (d : K) (r : Row K) → i < n → get_or (keys_from rows rounds from n) i d ≡ (get_or rows ((from + i) % rounds) r).key
    keys_get_or from zero i d r lt = absurd (omega arith)
    keys_get_or from (suc n) zero d r lt =
        ap (λ ks. get_or (ks ++ keys_from rows rounds (from + 1) n) 0 d) (key_in_at rows (from % rounds) r (in_table from))
        ∙ ap (λ m. (get_or rows (m % rounds) r).key) (sym (add-zero from))
    keys_get_or from (suc n) (suc i) d r lt =
        let next : from + 1 + i ≡ from + suc i = omega arith in
        ap (λ ks. get_or (ks ++ keys_from rows rounds (from + 1) n) (suc i) d) (key_in_at rows (from % rounds) r (in_table from))
        ∙ keys_get_or (from + 1) n i d r (omega arith)
        ∙ ap (λ m. (get_or rows (m % rounds) r).key) next

  -- one key more, in the row of its put
  pub keys_put : (rows : List (Row K)) (rounds puts size : ℕ) (v : Row K) → size ≤ puts → size < rounds → rounds ≤ length rows
      → keys_from (set rows (puts % rounds) v) rounds (puts + 1 - (size + 1)) (size + 1) ≡ keys_from rows rounds (puts - size) size ++ v.key ∷ []
  keys_put rows rounds puts size v within few enough =
      ap (λ m. keys_from after rounds m (size + 1)) same_from
      ∙ same_lists _ _ (keys_length after rounds some enough_after from (size + 1) ∙ sym (length_push old v.key ∙ ap (λ n. n + 1) old_length)) each
    where
      from : ℕ
      from = puts - size

      after : List (Row K)
      after = set rows (puts % rounds) v

      old : List K
      old = keys_from rows rounds from size

      same_from : puts + 1 - (size + 1) ≡ from
      same_from = omega arith

      some : 0 < rounds
      some = omega arith

      enough_after : rounds ≤ length after
      enough_after = omega (arith, length-set rows (puts % rounds) v)

      old_length : length old ≡ size
      old_length = keys_length rows rounds some enough from size

      each : (k : ℕ) (d : K) → k < length (keys_from after rounds from (size + 1)) → get_or (keys_from after rounds from (size + 1)) k d ≡ get_or (old ++ v.key ∷ []) k d
      each k d below =
          let r : Row K = record { key = d; count = 0 } in
          let lt : k < size + 1 = omega (arith, keys_length after rounds some enough_after from (size + 1)) in
          let read = keys_get_or after rounds some enough_after from (size + 1) k d r lt in
          read
          ∙ ⊎_elim
          (λ (older : k < size).
          let last : from + k + (size - k) ≡ puts = omega arith in
          let apart : (from + k) % rounds ≢ puts % rounds = λ same. rows_differ (from + k) (size - k) rounds (omega arith) (omega arith) (same ∙ ap (λ m. m % rounds) (sym last)) in
          ap (λ row. row.key) (get_or-set_other rows (puts % rounds) ((from + k) % rounds) v r apart)
          ∙ sym (keys_get_or rows rounds some enough from size k d r older)
          ∙ sym (get_or_append_left old (v.key ∷ []) d k (omega (arith, old_length))))
          (λ (newest : size ≤ k).
          let here : from + k ≡ puts = omega arith in
          ap (λ m. (get_or after (m % rounds) r).key) here
          ∙ ap (λ row. row.key) (get_or-set_same rows (puts % rounds) v r (omega (arith, mod_below puts rounds some)))
          ∙ sym (get_or_push old v.key d k (omega (arith, old_length))))
          (cases_lt k size)
