-- What rising, entering and falling do to the rows of a tally. Assumes nothing; the last lemmas, on the count of a key, take alike to be symmetric and transitive.
use Rattle.std.proofs.Common.{◌≡◌, ℕ, ◌+◌, ◌-◌, ◌<◌, ◌≤◌, Bool, true, false, cond, nat_lt, List, [], ◌∷◌, ◌++◌, map, length, get_or, take, sum_by, if◌then◌else◌, refl, arith}
use Rattle.std.specs.List.{All}
use Rattle.std.proofs.lemmas.List.{length_push, map-append, take_more}
use Rattle.std.proofs.lemmas.List.Sums.{sum_by-cons}
use Rattle.std.proofs.lemmas.List.Elements.{All-nil, All-cons, All-head, All-tail, All-filter, All-push, All-weaker, All-map, filter-append, filter_passes}
use Rattle.std.proofs.lemmas.Bool.{cond_both, both_ways, ltb-true, ltb-false}
use Rattle.std.proofs.lemmas.Bool.Decides.{nat_tests}
use Rattle.tally.specs.declared.rows.Row.{Row}
use Rattle.tally.specs.Steps.{Summary, entered, raised, lowered, known, count_in, risen, fallen, rise, enter, fall, step}
use Rattle.tally.specs.Laws.{Unlike}

module _ {K : Type 0} where
  -- all counts together
  abbrev pub total : List (Row K) → ℕ
  total rows = sum_by (λ row. row.count) rows

  total_cons : (row : Row K) (rows : List (Row K)) → total (row ∷ rows) ≡ row.count + total rows
  total_cons row rows = sum_by-cons (λ r. r.count) row rows

  -- every count falls
  pub length_fallen : (rows : List (Row K)) → length (fallen rows) ≤ length rows
  length_fallen [] = omega arith
  length_fallen (row ∷ rows) = let again = length_fallen rows in grind (arith, nat_tests)

  -- one row more has fallen
  pub fallen_more : (rows : List (Row K)) (i : ℕ) (row : Row K) → i < length rows → row ≡ get_or rows i row
      → fallen (take (i + 1) rows) ≡ fallen (take i rows) ++ (if nat_lt 0 (lowered row).count then lowered row ∷ [] else [])
  fallen_more rows i row within read = let more = take_more rows i row within in grind (arith, map-append, filter-append)

  pub total_fallen : (rows : List (Row K)) → All (λ row. 1 ≤ row.count) rows → total (fallen rows) + length rows ≡ total rows
  total_fallen [] counted = refl
  total_fallen (row ∷ rows) counted =
      let here = All-head (λ r. 1 ≤ r.count) row rows counted in
      let again = total_fallen rows (All-tail (λ r. 1 ≤ r.count) row rows counted) in
      let before = total_cons row rows in
      let after = total_cons (lowered row) (fallen rows) in
      grind (arith, nat_tests)

  pub all_fallen : (P : Row K → Type 0) (rows : List (Row K)) → All (λ row. P (lowered row)) rows → All P (fallen rows)
  all_fallen P rows h = All-filter _ P (map lowered rows) (All-map P lowered rows h)

  pub counted_fallen : (rows : List (Row K)) → All (λ row. 1 ≤ row.count) (fallen rows)
  counted_fallen rows = All-weaker _ _ (λ row. ltb-true 0 row.count) (fallen rows) (filter_passes _ (map lowered rows))

module _ {K : Type 0} (alike : K → K → Bool) where
  -- a key is known in the first row or behind it
  known_first : (row : Row K) (rows : List (Row K)) (x : K) → known alike (row ∷ rows) x ≡ cond (alike row.key x) true (known alike rows x)
  known_first row rows x = grind (arith, nat_tests)

  -- the first row alike to a known key rises
  pub length_risen : (rows : List (Row K)) (x : K) → length (risen alike rows x) ≡ length rows
  length_risen [] x = refl
  length_risen (row ∷ rows) x = let again = length_risen rows x in grind arith

  pub total_risen : (rows : List (Row K)) (x : K) → known alike rows x ≡ true → total rows < 4294967295 → total (risen alike rows x) ≡ total rows + 1
  total_risen [] x old small = absurd (both_ways false refl old)
  total_risen (row ∷ rows) x old small =
      let again = total_risen rows x in
      let before = total_cons row rows in
      let here = total_cons (raised row) rows in
      let later = total_cons row (risen alike rows x) in
      grind (arith, known_first)

  pub all_risen : (P : Row K → Type 0) (rows : List (Row K)) (x : K) → ((row : Row K) → P row → P (raised row)) → All P rows → All P (risen alike rows x)
  all_risen P [] x keeps h = All-nil P
  all_risen P (row ∷ rows) x keeps h =
      cond_both (alike row.key x) _ _ (All P)
      (λ _. All-cons P (raised row) rows (keeps row (All-head P row rows h)) (All-tail P row rows h))
      (λ _. All-cons P row (risen alike rows x) (All-head P row rows h) (all_risen P rows x keeps (All-tail P row rows h)))

  -- no two rows are alike, and so it stays
  pub unlike_risen : (rows : List (Row K)) (x : K) → Unlike alike rows → Unlike alike (risen alike rows x)
  unlike_risen [] x unlike = tt
  unlike_risen (row ∷ rows) x unlike =
      cond_both (alike row.key x) _ _ (Unlike alike)
      (λ _. unlike)
      (λ _. (all_risen (λ other. alike row.key other.key ≡ false) rows x (λ _ h. h) unlike.0, unlike_risen rows x unlike.1))

  pub unlike_push : (rows : List (Row K)) (x : K) → known alike rows x ≡ false → Unlike alike rows → Unlike alike (rows ++ entered x ∷ [])
  unlike_push [] x new unlike = (All-nil _, tt)
  unlike_push (row ∷ rows) x new unlike =
      let first = known_first row rows x in
      (All-push (λ other. alike row.key other.key ≡ false) rows (entered x) unlike.0 (grind arith), unlike_push rows x (grind arith) unlike.1)

  pub unlike_fallen : (rows : List (Row K)) → Unlike alike rows → Unlike alike (fallen rows)
  unlike_fallen [] unlike = tt
  unlike_fallen (row ∷ rows) unlike =
      cond_both (nat_lt 0 (row.count - 1)) _ _ (Unlike alike)
      (λ _. (all_fallen (λ other. alike row.key other.key ≡ false) rows unlike.0, unlike_fallen rows unlike.1))
      (λ _. unlike_fallen rows unlike.1)

  -- what holds after each of the three ways holds after a step
  pub step_ways : (P : Summary K → Type 0) (room : ℕ) (t : Summary K) (x : K)
      → (known alike t.rows x ≡ true → P (rise alike t x))
      → (known alike t.rows x ≡ false → length t.rows < room → P (enter t x))
      → (known alike t.rows x ≡ false → room ≤ length t.rows → P (fall t))
      → P (step alike room t x)
  step_ways P room t x rises enters falls =
      cond_both (known alike t.rows x) (rise alike t x) _ P rises
      (λ new. cond_both (nat_lt (length t.rows) room) (enter t x) (fall t) P (λ free. enters new (ltb-true _ _ free)) (λ full. falls new (ltb-false _ _ full)))

  pub length_step : (room : ℕ) (t : Summary K) (k : K) → length t.rows ≤ room → length (step alike room t k).rows ≤ room
  length_step room t k few =
      let rises = length_risen t.rows k in
      let falls = length_fallen t.rows in
      grind (arith, nat_tests, length_push)

  -- the count of a key, before and after x comes
  pub count_none : (rows : List (Row K)) (k : K) → known alike rows k ≡ false → count_in alike rows k ≡ 0
  count_none [] k new = refl
  count_none (row ∷ rows) k new = let again = count_none rows k in grind (arith, known_first)

  module _ (symm : (x y : K) → alike x y ≡ true → alike y x ≡ true) (tran : (x y z : K) → alike x y ≡ true → alike y z ≡ true → alike x z ≡ true) where
    pub count_same : (rows : List (Row K)) (x k : K) → alike x k ≡ true → count_in alike rows x ≡ count_in alike rows k
    count_same [] x k e = refl
    count_same (row ∷ rows) x k e = let again = count_same rows x k e in grind arith

    pub count_risen : (rows : List (Row K)) (x k : K) → known alike rows x ≡ true → total rows < 4294967295 → count_in alike (risen alike rows x) k ≡ count_in alike rows k + cond (alike x k) 1 0
    count_risen [] x k old small = absurd (both_ways false refl old)
    count_risen (row ∷ rows) x k old small =
        let again = count_risen rows x k in
        grind (arith, known_first, total_cons)

    pub count_push : (rows : List (Row K)) (x k : K) → known alike rows x ≡ false → count_in alike (rows ++ entered x ∷ []) k ≡ count_in alike rows k + cond (alike x k) 1 0
    count_push [] x k new = grind arith
    count_push (row ∷ rows) x k new = let again = count_push rows x k in grind (arith, known_first)

    -- rows that are unlike a key are unlike every key alike to it
    count_unlike : (rows : List (Row K)) (x k : K) → All (λ row. alike x row.key ≡ false) rows → alike x k ≡ true → count_in alike rows k ≡ 0
    count_unlike [] x k unlike e = refl
    count_unlike (row ∷ rows) x k unlike e =
        let here = All-head (λ other. alike x other.key ≡ false) row rows unlike in
        let again = count_unlike rows x k (All-tail (λ other. alike x other.key ≡ false) row rows unlike) e in
        grind arith

    pub count_fallen : (rows : List (Row K)) (k : K) → Unlike alike rows → count_in alike (fallen rows) k ≡ count_in alike rows k - 1
    count_fallen [] k unlike = refl
    count_fallen (row ∷ rows) k unlike =
        let again = count_fallen rows k unlike.1 in
        let gone = count_unlike rows row.key k unlike.0 in
        grind (arith, nat_tests)
