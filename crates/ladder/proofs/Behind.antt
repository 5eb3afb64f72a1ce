-- A key to which no row before some rows is alike is counted by these rows and the later pieces alone. Assumes nothing.
use Rattle.std.proofs.Common.{◌≡◌, ℕ, ◌+◌, ◌<◌, min, Bool, false, cond, List, [], ◌∷◌, ◌++◌, length, take, drop, Some, find, sum_by, refl, sym, ap, ◌∙◌, arith, ⊎_elim}
use Rattle.std.proofs.lemmas.Bool.{cases_lt, or_parts}
use Rattle.std.proofs.lemmas.List.{append-nil, drop_all}
use Rattle.std.proofs.lemmas.List.Concat.{flat_map-cons}
use Rattle.std.proofs.lemmas.List.Folds.{list_any-append}
use Rattle.std.proofs.lemmas.List.Sums.{sum_by-append, sum_by-cons}
use Rattle.std.specs.Option.{option_map_or}
use Rattle.keeper.specs.Listing.{all_keys, among, IsFirstFrom, keys_in}
use Rattle.tally.specs.declared.rows.Row.{Row}
use Rattle.tally.specs.Steps.{count_in}

module _ {K : Type 0} (alike : K → K → Bool) (key : K) where
  abbrev count : List (Row K) → ℕ
  count rows = count_in alike rows key

  -- rows before, none of which is alike
  count_behind : (before rows : List (Row K)) → among alike (keys_in before) key ≡ false → count (before ++ rows) ≡ count rows
  count_behind [] rows none = refl
  count_behind (row ∷ before) rows none =
      let parts = or_parts (alike row.key key) (among alike (keys_in before) key) none in
      ap (λ found. option_map_or (λ r. r.count) (cond found (Some row) (find (λ r. alike r.key key) (before ++ rows))) 0) parts.0
      ∙ count_behind before rows parts.1

  -- pieces in which none is
  none_counted : (pieces : List (List (Row K))) → among alike (all_keys pieces) key ≡ false → sum_by count pieces ≡ 0
  none_counted [] none = refl
  none_counted (rows ∷ pieces) none =
      let whole = ap (λ keys. among alike keys key) (flat_map-cons keys_in rows pieces) ∙ list_any-append (λ x. alike x key) (keys_in rows) (all_keys pieces) in
      let parts = or_parts (among alike (keys_in rows) key) (among alike (all_keys pieces) key) (sym whole ∙ none) in
      omega (arith, sum_by-cons count rows pieces, ap count (append-nil rows), count_behind rows [] parts.0, none_counted pieces parts.1)

  pub counted_from : (pieces : List (List (Row K))) (number : ℕ) (rows : List (Row K)) → IsFirstFrom alike pieces number rows key
      → sum_by count pieces ≡ count rows + sum_by count (drop (number + 1) pieces)
  counted_from pieces number rows is =
      let earlier = take number pieces in
      let parts = or_parts (among alike (all_keys earlier) key) (among alike (keys_in is.before) key) (sym (list_any-append (λ x. alike x key) (all_keys earlier) (keys_in is.before)) ∙ is.first) in
      omega (
        arith,
        ap (sum_by count) is.piece,
        sum_by-append count earlier ((is.before ++ rows) ∷ drop (number + 1) pieces),
        sum_by-cons count (is.before ++ rows) (drop (number + 1) pieces),
        none_counted earlier parts.0,
        count_behind is.before rows parts.1,
      )

-- a number of elements to drop that is held below the list's length
pub drop_clamped : {X : Type 0} (xs : List X) (i j : ℕ) → i ≡ min (length xs) (min j 18446744073709551615) → length xs < 18446744073709551615 → drop i xs ≡ drop j xs
drop_clamped xs i j is few =
    ⊎_elim
    (λ some. ap (λ n. drop n xs) (omega (arith, is, some, few)))
    (λ all. drop_all i xs (omega (arith, is, all, few)) ∙ sym (drop_all j xs all))
    (cases_lt j (length xs))
