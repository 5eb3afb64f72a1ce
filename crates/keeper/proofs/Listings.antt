-- The entries of a list: one key after another, place by place, and why they are right as the list of a window. Assumes nothing, but for the last part, which takes alike to be symmetric and transitive.
use Rattle.std.proofs.Common.{◌≡◌, ℕ, ◌+◌, ◌-◌, ◌*◌, min, ◌^◌, ◌<◌, ◌≤◌, Bool, true, false, cond, not, ◌||◌, leb, List, [], ◌∷◌, ◌++◌, map, length, Some, None, filter, Option, sym, refl, ap, ◌∙◌, subst, mul-le-mul_left, arith, length-append, take, drop, slice_index_or, ⊎_elim}
use Rattle.std.proofs.lemmas.List.Elements.{filter-append, All-nil, All-cons, All-head, All-tail, All-filter, All-map, All-weaker, filter_passes}
use Rattle.std.proofs.lemmas.List.{append-nil, map-append, length_push, append_assoc, flat_map_more, get_or-map, length-map, length-take, take_all, take_more, take-append-drop, take-take, take_rest}
use Rattle.std.proofs.lemmas.List.Folds.{list_any-append}
use Rattle.std.proofs.lemmas.List.Concat.{flat_map-cons}
use Rattle.std.proofs.lemmas.List.Sums.{sum_by-cons, count_by-le-length, length-filter}
use Rattle.std.proofs.lemmas.Bool.{both_ways, cases_lt, cond_both, not-true, or_left, or_right, le-leb, leb-true}
use Rattle.std.specs.List.{All, list_any}
use Rattle.std.proofs.Math.Seq.{set_out, take-append_seam, take-length}
use Rattle.tally.specs.declared.rows.Row.{Row}
use Rattle.tally.proofs.Over.{over_more}
use Rattle.likeness.specs.Counts.{Stands, true_count}
use Rattle.likeness.proofs.Counting.{true_count_same}
use Rattle.keeper.specs.declared.entry.Entry.{Entry}
use Rattle.keeper.specs.Listing.{all_keys, Apart, among, firsts, keys_in, listed, named_after, entry_of, bracket_in, written_over, IsPiece}
use Rattle.std.proofs.lemmas.Grind.{common_steps, flat_map-append}
use Rattle.std.specs.Prelude.{slice_set}
use Rattle.keeper.specs.Rules.{Bracket, Lists}

-- one entry more is written to the place that it has, if it has one
written_push : {X : Type 0} (es : List X) (e : X) (xs : List X) → slice_set (written_over es xs) (length es) e ≡ written_over (es ++ e ∷ []) xs
written_push es e xs = ⊎_elim (λ room. grind (arith, common_steps, over_more)) (λ full. grind (arith, common_steps, set_out)) (cases_lt (length es) (length xs))

module _ {K : Type 0} where
  -- one row more
  pub keys_next : (earlier : List K) (rows : List (Row K)) (place : ℕ) (row : Row K) → place < length rows → row ≡ slice_index_or rows place row
      → (earlier ++ keys_in (take place rows)) ++ row.key ∷ [] ≡ earlier ++ keys_in (take (place + 1) rows)
  keys_next earlier rows place row within here =
      append_assoc earlier (keys_in (take place rows)) (row.key ∷ [])
      ∙ ap (λ ks. earlier ++ ks)
      (sym (map-append (λ r. r.key) (take place rows) (row ∷ [])) ∙ ap keys_in (ap (λ r. take place rows ++ r ∷ []) here ∙ sym (take_more rows place row within)))

  -- pieces that are seen through references
  module _ {B : Type 0} (now : B → List (Row K)) (pieces : List B) (whole : List (List (Row K))) (same : map now pieces ≡ whole) (number : ℕ) (piece : B) (within : number < length pieces) (here : piece ≡ slice_index_or pieces number piece) where
    piece_here : slice_index_or whole number (now piece) ≡ now piece
    piece_here = ap (λ w. slice_index_or w number (now piece)) (sym same) ∙ get_or-map now pieces number piece (now piece) within ∙ ap now (sym here)

    here_within : number < length whole
    here_within = omega (arith, within, ap length same, length-map pieces now)

    -- one piece more
    pub keys_piece : (place : ℕ) → length (now piece) ≤ place → all_keys (take number whole) ++ keys_in (take place (now piece)) ≡ all_keys (take (number + 1) whole)
    keys_piece place all =
        ap (λ rows. all_keys (take number whole) ++ keys_in rows) (take_all place (now piece) all)
        ∙ flat_map_more keys_in [] (take number whole) (now piece)
        ∙ ap all_keys (ap (λ rows. take number whole ++ rows ∷ []) (sym piece_here) ∙ sym (take_more whole number (now piece) here_within))

    -- it is the piece of its number, wherever it is cut in two
    pub is_piece : (place : ℕ) → IsPiece whole number (take place (now piece) ++ take (length (now piece) - place) (drop place (now piece)))
    is_piece place =
        sym (take-append-drop (number + 1) whole)
        ∙ ap (λ ps. ps ++ drop (number + 1) whole) (take_more whole number (now piece) here_within)
        ∙ append_assoc (take number whole) (slice_index_or whole number (now piece) ∷ []) (drop (number + 1) whole)
        ∙ ap (λ rows. take number whole ++ rows ∷ drop (number + 1) whole) (piece_here ∙ sym (ap (λ rows. take place (now piece) ++ rows) (take_rest (now piece) place) ∙ take-append-drop place (now piece)))

    -- the keys before a row, and the others
    pub keys_split : (place : ℕ)
        → all_keys whole ≡ (all_keys (take number whole) ++ keys_in (take place (now piece))) ++ (keys_in (take (length (now piece) - place) (drop place (now piece))) ++ all_keys (drop (number + 1) whole))
    keys_split place =
        let before = take place (now piece) in
        let rows = take (length (now piece) - place) (drop place (now piece)) in
        let later = drop (number + 1) whole in
        ap all_keys (is_piece place)
        ∙ flat_map-append keys_in (take number whole) ((before ++ rows) ∷ later)
        ∙ ap (λ ks. all_keys (take number whole) ++ ks)
        (flat_map-cons keys_in (before ++ rows) later ∙ ap (λ ks. ks ++ all_keys later) (map-append (λ row. row.key) before rows) ∙ append_assoc (keys_in before) (keys_in rows) (all_keys later))
        ∙ sym (append_assoc (all_keys (take number whole)) (keys_in before) (keys_in rows ++ all_keys later))

module _ {K : Type 0} (alike : K → K → Bool) where
  first_more : (test : K → Bool) (x k : K) (ys : List K) (a b : Bool) → test k ≡ not a
      → x ∷ filter test (cond b ys (ys ++ k ∷ [])) ≡ cond (a || b) (x ∷ filter test ys) ((x ∷ filter test ys) ++ k ∷ [])
  first_more test x k ys true true e = refl
  first_more test x k ys false true e = refl
  first_more test x k ys true false e =
      ap (λ zs. x ∷ zs) (filter-append test ys (k ∷ []) ∙ ap (λ t. filter test ys ++ cond t (k ∷ []) []) e ∙ append-nil (filter test ys))
  first_more test x k ys false false e =
      ap (λ zs. x ∷ zs) (filter-append test ys (k ∷ []) ∙ ap (λ t. filter test ys ++ cond t (k ∷ []) []) e)

  -- one key more: it has its first place here, unless one before it is alike
  firsts_push : (xs : List K) (k : K) → firsts alike (xs ++ k ∷ []) ≡ cond (among alike xs k) (firsts alike xs) (firsts alike xs ++ k ∷ [])
  firsts_push [] k = refl
  firsts_push (x ∷ xs) k =
      ap (λ ys. x ∷ filter (λ other. not (alike x other)) ys) (firsts_push xs k)
      ∙ first_more (λ other. not (alike x other)) x k (firsts alike xs) (alike x k) (among alike xs k) refl

  -- a key among those of rows, and among those of rows in pieces
  pub among_rows : (rows : List (Row K)) (k : K) → list_any (λ row. alike row.key k) rows ≡ among alike (keys_in rows) k
  among_rows [] k = refl
  among_rows (row ∷ rows) k = ap (λ b. alike row.key k || b) (among_rows rows k)

  pub among_pieces : {B : Type 0} (now : B → List (Row K)) (pieces : List B) (k : K) → list_any (λ piece. among alike (keys_in (now piece)) k) pieces ≡ among alike (all_keys (map now pieces)) k
  among_pieces now [] k = refl
  among_pieces now (piece ∷ pieces) k =
      ap (λ b. among alike (keys_in (now piece)) k || b) (among_pieces now pieces k)
      ∙ sym (ap (λ ks. among alike ks k) (flat_map-cons keys_in (now piece) (map now pieces)) ∙ list_any-append (λ x. alike x k) (keys_in (now piece)) (all_keys (map now pieces)))

  pub all_firsts : (P : K → Type 0) (xs : List K) → All P xs → All P (firsts alike xs)
  all_firsts P [] h = All-nil P
  all_firsts P (x ∷ xs) h = All-cons P x _ (All-head P x xs h) (All-filter (λ other. not (alike x other)) P (firsts alike xs) (all_firsts P xs (All-tail P x xs h)))

  few_firsts : (xs : List K) → length (firsts alike xs) ≤ length xs
  few_firsts [] = omega arith
  few_firsts (x ∷ xs) =
      let test : K → Bool = λ other. not (alike x other) in
      omega (arith, few_firsts xs, length-filter test (firsts alike xs), count_by-le-length test (firsts alike xs))

  apart_kept : (test : K → Bool) (xs : List K) → Apart alike xs → Apart alike (filter test xs)
  apart_kept test [] h = tt
  apart_kept test (x ∷ xs) h =
      let again = apart_kept test xs h.1 in
      cond_both (test x) _ _ (Apart alike) (λ _. (All-filter test (λ other. alike x other ≡ false) xs h.0, again)) (λ _. again)

  firsts_apart : (xs : List K) → Apart alike (firsts alike xs)
  firsts_apart [] = tt
  firsts_apart (x ∷ xs) =
      let test : K → Bool = λ other. not (alike x other) in
      (All-weaker (λ other. test other ≡ true) (λ other. alike x other ≡ false) (λ other. not-true (alike x other)) (filter test (firsts alike xs)) (filter_passes test (firsts alike xs)), apart_kept test (firsts alike xs) (firsts_apart xs))

  among_kept : (test : K → Bool) (xs : List K) (k : K) → ((x : K) → alike x k ≡ true → test x ≡ true) → among alike xs k ≡ true → among alike (filter test xs) k ≡ true
  among_kept test [] k pass h = h
  among_kept test (x ∷ xs) k pass h = ways (test x) (alike x k) refl (pass x) (among_kept test xs k pass) h
    where
      ways : (b a : Bool) → alike x k ≡ a → (alike x k ≡ true → b ≡ true) → (among alike xs k ≡ true → among alike (filter test xs) k ≡ true)
          → (a || among alike xs k) ≡ true → among alike (cond b (x ∷ filter test xs) (filter test xs)) k ≡ true
      ways true true e p again g = or_left _ _ e
      ways true false e p again g = or_right _ _ (again g)
      ways false true e p again g = absurd (both_ways false refl (p e))
      ways false false e p again g = again g

  module _ (bracket : K → ℕ × ℕ) (threshold : ℕ) where
    entry : K → Entry K
    entry x = entry_of x (bracket x)

    high : K → Bool
    high x = leb threshold (bracket x).1

    -- entries, and one more if there is one
    abbrev extended : List (Entry K) → Option (Entry K) → List (Entry K)
    extended es None = es
    extended es (Some e) = es ++ e ∷ []

    listed_push : (xs : List K) (k : K) → listed alike bracket threshold (xs ++ k ∷ []) ≡ extended (listed alike bracket threshold xs) (named_after alike bracket threshold xs k)
    unfolding entry high
    listed_push xs k = ap (λ ks. map entry (filter high ks)) (firsts_push xs k) ∙ ways (among alike xs k) (high k) refl
      where
        ways : (a b : Bool) → high k ≡ b
            → map entry (filter high (cond a (firsts alike xs) (firsts alike xs ++ k ∷ []))) ≡ extended (map entry (filter high (firsts alike xs))) (cond a None (cond b (Some (entry k)) None))
        ways true b e = refl
        ways false true e =
            ap (map entry) (filter-append high (firsts alike xs) (k ∷ []) ∙ ap (λ t. filter high (firsts alike xs) ++ cond t (k ∷ []) []) e)
            ∙ map-append entry (filter high (firsts alike xs)) (k ∷ [])
        ways false false e =
            ap (map entry) (filter-append high (firsts alike xs) (k ∷ []) ∙ ap (λ t. filter high (firsts alike xs) ++ cond t (k ∷ []) []) e ∙ append-nil (filter high (firsts alike xs)))

    extended_front : (es : List (Entry K)) (more : Option (Entry K)) → take (length es) (extended es more) ≡ es
    extended_front es None = take-length es
    extended_front es (Some e) = take-append_seam es (e ∷ [])

    extended_longer : (es : List (Entry K)) (more : Option (Entry K)) → length es ≤ length (extended es more)
    extended_longer es None = omega arith
    extended_longer es (Some e) = omega (arith, length-append es (e ∷ []))

    -- the entries of keys are the first of those of the same keys and more
    pub listed_before : (xs ys : List K) → take (length (listed alike bracket threshold xs)) (listed alike bracket threshold (xs ++ ys)) ≡ listed alike bracket threshold xs
    listed_before xs [] =
        let es = listed alike bracket threshold xs in
        ap (λ ks. take (length es) (listed alike bracket threshold ks)) (append-nil xs) ∙ take-length es
    listed_before xs (y ∷ ys) =
        let es = listed alike bracket threshold xs in
        let more = named_after alike bracket threshold xs y in
        let next = listed_push xs y in
        ap (λ ks. take (length es) (listed alike bracket threshold ks)) (sym (append_assoc xs (y ∷ []) ys))
        ∙ sym (take-take (length es) (length (listed alike bracket threshold (xs ++ y ∷ []))) (listed alike bracket threshold ((xs ++ y ∷ []) ++ ys)) (omega (arith, ap length next, extended_longer es more)))
        ∙ ap (take (length es)) (listed_before (xs ++ y ∷ []) ys ∙ next)
        ∙ extended_front es more

    -- the entries of these keys are counted, and stand over the front of a list that was `list` before
    pub record Written (keys : List K) (count : ℕ) (list written : List (Entry K)) : Type 0 where
      pub counted : count ≡ length (listed alike bracket threshold keys)
      pub there : written ≡ written_over (listed alike bracket threshold keys) list

    -- one key more, with an entry and without one
    pub written_entry : (keys : List K) (k : K) (e : Entry K) (count : ℕ) (list written : List (Entry K)) → named_after alike bracket threshold keys k ≡ Some e
        → Written keys count list written → Written (keys ++ k ∷ []) (count + 1) list (slice_set written count e)
    written_entry keys k e count list written adds before =
        let all = listed_push keys k ∙ ap (extended (listed alike bracket threshold keys)) adds in
        record {
          counted = omega (arith, before.counted, ap length all, length_push (listed alike bracket threshold keys) e);
          there = (λ i. slice_set (before.there i) (before.counted i) e) ∙ written_push (listed alike bracket threshold keys) e list ∙ ap (λ es. written_over es list) (sym all);
        }

    pub written_no_entry : (keys : List K) (k : K) (count : ℕ) (list written : List (Entry K)) → named_after alike bracket threshold keys k ≡ None
        → Written keys count list written → Written (keys ++ k ∷ []) count list written
    written_no_entry keys k count list written adds before =
        let all = listed_push keys k ∙ ap (extended (listed alike bracket threshold keys)) adds in
        record { counted = before.counted ∙ ap length (sym all); there = before.there ∙ ap (λ es. written_over es list) (sym all) }

    -- of keys, so many of whose entries are wanted, no key behind the last of these makes a difference
    pub written_enough : (keys behind whole : List K) (most named : ℕ) (list written : List (Entry K)) → whole ≡ keys ++ behind → named ≡ most → Written keys named list written
        → (named ≡ min most (length (listed alike bracket threshold whole))) × (written ≡ written_over (take most (listed alike bracket threshold whole)) list)
    written_enough keys behind whole most named list written split enough so_far =
        let es = listed alike bracket threshold keys in
        let all = listed alike bracket threshold whole in
        let front : take (length es) all ≡ es = ap (λ ks. take (length es) (listed alike bracket threshold ks)) split ∙ listed_before keys behind in
        let first : take most all ≡ es = ap (λ n. take n all) (sym enough ∙ so_far.counted) ∙ front in (
          omega (arith, so_far.counted, enough, ap length front, length-take (length es) all),
          so_far.there ∙ ap (λ entries. written_over entries list) (sym first),
        )

    -- and where fewer are there than wanted, all are
    pub written_all : (keys : List K) (most named : ℕ) (list written : List (Entry K)) → named ≤ most → Written keys named list written
        → (named ≡ min most (length (listed alike bracket threshold keys))) × (written ≡ written_over (take most (listed alike bracket threshold keys)) list)
    written_all keys most named list written within so_far =
        let es = listed alike bracket threshold keys in (
          omega (arith, so_far.counted, within),
          so_far.there ∙ ap (λ entries. written_over entries list) (sym (take_all most es (omega (arith, so_far.counted, within)))),
        )

    -- there are no more entries than keys
    pub few_listed : (keys : List K) → length (listed alike bracket threshold keys) ≤ length keys
    unfolding entry high
    few_listed keys = omega (arith, length-map (filter high (firsts alike keys)) entry, length-filter high (firsts alike keys), count_by-le-length high (firsts alike keys), few_firsts keys)

    -- each entry has its key's bracket
    pub listed_counts : (xs : List K) → All (λ e. bracket_in e ≡ bracket e.key) (listed alike bracket threshold xs)
    listed_counts xs = All-map (λ e. bracket_in e ≡ bracket e.key) (λ k. entry_of k (bracket k)) _ (λ _ _ _. refl)

    listed_keys : (ks : List K) → map (λ e. e.key) (map (λ k. entry_of k (bracket k)) ks) ≡ ks
    listed_keys [] = refl
    listed_keys (k ∷ ks) = ap (λ xs. k ∷ xs) (listed_keys ks)

  -- each key of a window stands in it
  pub all_stand : ((x : K) → alike x x ≡ true) → (xs : List K) → All (Stands alike xs) xs
  all_stand self [] = All-nil _
  all_stand self (x ∷ xs) =
      let here = self x in
      let sum : (k : K) → true_count alike (x ∷ xs) k ≡ cond (alike x k) 1 0 + true_count alike xs k = λ k. sum_by-cons (λ y. cond (alike y k) 1 0) x xs in
      let own = sum x in
      All-cons (Stands alike (x ∷ xs)) x xs (grind arith) (All-weaker (Stands alike xs) (Stands alike (x ∷ xs)) (λ k h. omega (arith, sum k)) xs (all_stand self xs))

  module _ (symm : (x y : K) → alike x y ≡ true → alike y x ≡ true) (tran : (x y z : K) → alike x y ≡ true → alike y z ≡ true → alike x z ≡ true) where
    among_firsts : (xs : List K) (k : K) → among alike xs k ≡ true → among alike (firsts alike xs) k ≡ true
    among_firsts [] k h = h
    among_firsts (x ∷ xs) k h = ways (alike x k) refl (among_firsts xs k) h
      where
        unlike : alike x k ≡ false → (y : K) → alike y k ≡ true → (b : Bool) → alike x y ≡ b → not b ≡ true
        unlike e y near true f = absurd (both_ways (alike x k) e (tran x y k f near))
        unlike e y near false f = refl

        ways : (a : Bool) → alike x k ≡ a → (among alike xs k ≡ true → among alike (firsts alike xs) k ≡ true) → (a || among alike xs k) ≡ true → among alike (firsts alike (x ∷ xs)) k ≡ true
        ways true e again g = or_left _ _ e
        ways false e again g =
            or_right _ _ (among_kept (λ other. not (alike x other)) (firsts alike xs) k (λ y near. unlike e y near (alike x y) refl) (again g))

    -- brackets that are right for a window, and keys that stand in it and miss none that counts the threshold: the list is right
    pub listed_lists : (a threshold : ℕ) (bracket : K → ℕ × ℕ) (keys window : List K)
        → ((k : K) → Bracket a (length window) (true_count alike window k) (bracket k))
        → All (Stands alike window) keys
        → ((k : K) → threshold ≤ true_count alike window k → among alike keys k ≡ true)
        → Lists alike a threshold window (listed alike bracket threshold keys)
    listed_lists a threshold bracket keys window right stand cover =
        let test : K → Bool = λ k. leb threshold (bracket k).1 in
        let named : List K = filter test (firsts alike keys) in
        let standing : All (Stands alike window) named = All-filter test (Stands alike window) (firsts alike keys) (all_firsts (Stands alike window) keys stand) in
        let near_threshold : (k : K) → threshold ≤ (bracket k).1 → Stands alike window k → 2 ^ a * (threshold - true_count alike window k) < length window =
        λ k high stands.
        let gap : threshold - true_count alike window k ≤ (bracket k).1 - (bracket k).0 = omega (arith, (right k).floor) in
        omega (arith, mul-le-mul_left (2 ^ a) gap, (right k).near (omega (arith, count_by-le-length (λ x. alike x k) window))) in
        record {
          once = subst (Apart alike) (sym (listed_keys bracket threshold named)) (apart_kept test (firsts alike keys) (firsts_apart keys));
          all = λ k enough.
              subst (λ ks. among alike ks k ≡ true) (sym (listed_keys bracket threshold named))
              (among_kept test (firsts alike keys) k
              (λ x near. le-leb _ _ (omega (arith, true_count_same alike symm tran window x k near, (right x).ceiling)))
              (among_firsts keys k (cover k enough)));
          stand = All-map (λ e. Stands alike window e.key) (λ k. entry_of k (bracket k)) named standing;
          near = All-map (λ e. 2 ^ a * (threshold - true_count alike window e.key) < length window) (λ k. entry_of k (bracket k)) named
              (λ i d within. near_threshold _ (leb-true threshold _ (filter_passes test (firsts alike keys) i d within)) (standing i d within));
          brackets = All-map (λ e. Bracket a (length window) (true_count alike window e.key) (bracket_in e)) (λ k. entry_of k (bracket k)) named (λ i d within. right _);
        }
