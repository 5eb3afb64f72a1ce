-- Counting the rows that pass a test, one after another, and the keys of a window from a first place on. Assumes nothing.
use Rattle.std.proofs.Common.{◌≡◌, ℕ, ◌+◌, ◌<◌, ◌≤◌, Bool, true, false, cond, List, [], ◌∷◌, ◌++◌, count_by, sum_by, get_or, length, map, take, drop, refl, sym, ap, arith, ◌∙◌}
use Rattle.std.proofs.lemmas.Bool.{or_parts}
use Rattle.std.proofs.lemmas.Grind.{flat_map-append}
use Rattle.std.proofs.lemmas.List.{drop-map, drop_all, drop_more, length-take-le, map-append}
use Rattle.std.proofs.lemmas.List.Concat.{flat_map-cons}
use Rattle.std.proofs.lemmas.List.Sums.{count_by-le-length, count_by_more_no, count_by_more_yes, sum_by-append, sum_by-cons}
use Rattle.tally.specs.declared.rows.Row.{Row}
use Rattle.likeness.specs.Counts.{true_count}
use Rattle.keeper.specs.Listing.{all_keys, among, IsFirstFrom, keys_in}
use mir.Val.{bool_byte}

module _ {X : Type 0} (p : X → Bool) (xs : List X) (i count : ℕ) (so_far : count ≡ count_by p (take i xs)) where
  -- one row more, which passes or not
  pub counted_more : (x : X) (passes : Bool) → i < length xs → x ≡ get_or xs i x → passes ≡ p x → count + bool_byte passes ≡ count_by p (take (i + 1) xs)
  counted_more x true within here is = ap (λ n. n + 1) so_far ∙ sym (count_by_more_yes p xs i x within (ap p (sym here) ∙ sym is))
  counted_more x false within here is = omega (arith, so_far, count_by_more_no p xs i x within (ap p (sym here) ∙ sym is))

  -- no more pass than there are
  pub counted_few : (passes : Bool) → i < length xs → count + bool_byte passes ≤ length xs
  counted_few true within = omega (arith, so_far, within, count_by-le-length p (take i xs), length-take-le i xs)
  counted_few false within = omega (arith, so_far, within, count_by-le-length p (take i xs), length-take-le i xs)

-- no key is alike, so none is counted
uncounted : {K : Type 0} (alike : K → K → Bool) (keys : List K) (k : K) → among alike keys k ≡ false → true_count alike keys k ≡ 0
uncounted alike [] k none = refl
uncounted alike (x ∷ keys) k none =
    let parts = or_parts (alike x k) (among alike keys k) none in
    omega (arith, sum_by-cons (λ y. cond (alike y k) 1 0) x keys, ap {B = ℕ} (λ b. cond b 1 0) parts.0, uncounted alike keys k parts.1)

-- a key is counted from its first place on
pub counted_from : {K : Type 0} (alike : K → K → Bool) (pieces : List (List (Row K))) (number : ℕ) (rows : List (Row K)) (k : K) → IsFirstFrom alike pieces number rows k
    → true_count alike (all_keys pieces) k ≡ true_count alike (keys_in rows) k + true_count alike (all_keys (drop (number + 1) pieces)) k
counted_from {K = K} alike pieces number rows k is =
    let one : K → ℕ = λ x. cond (alike x k) 1 0 in
    let earlier = all_keys (take number pieces) in
    let later = all_keys (drop (number + 1) pieces) in
    let keys : all_keys pieces ≡ earlier ++ ((keys_in is.before ++ keys_in rows) ++ later) =
    ap all_keys is.piece
    ∙ flat_map-append keys_in (take number pieces) ((is.before ++ rows) ∷ drop (number + 1) pieces)
    ∙ ap (λ ks. earlier ++ ks) (flat_map-cons keys_in (is.before ++ rows) (drop (number + 1) pieces) ∙ ap (λ ks. ks ++ later) (map-append (λ row. row.key) is.before rows)) in
    omega (
      arith,
      uncounted alike (earlier ++ keys_in is.before) k is.first,
      ap (sum_by one) keys,
      sum_by-append one earlier ((keys_in is.before ++ keys_in rows) ++ later),
      sum_by-append one (keys_in is.before ++ keys_in rows) later,
      sum_by-append one (keys_in is.before) (keys_in rows),
      sum_by-append one earlier (keys_in is.before),
    )

-- of two elements, there is the second behind the first, and nothing behind that
pub second_behind : {X Y : Type 0} (f : X → Y) (xs : List X) (x : X) → length xs ≡ 2 → x ≡ get_or xs 1 x → drop 1 (map f xs) ≡ f x ∷ []
second_behind f xs x two here =
    drop-map f 1 xs
    ∙ ap (map f) (drop_more xs 1 x (omega (arith, two)) ∙ (λ t. sym here t ∷ drop_all 2 xs (omega (arith, two)) t))
