-- A list laid over the first elements of another. Assumes nothing.
use Rattle.std.proofs.Common.{◌≡◌, ℕ, ◌<◌, ◌≤◌, List, [], ◌∷◌, ◌++◌, length, get_or, take, drop, set, arith}
use Rattle.std.proofs.lemmas.List.{drop-append-le, drop_more, set-append_left, set_at, take-append-drop}
use Rattle.std.proofs.lemmas.Grind.{common_steps}
use Rattle.tally.specs.Slots.{over}

module _ {X : Type 0} where
  pub length_over : (front xs : List X) → length front ≤ length xs → length (over front xs) ≡ length xs
  length_over front xs h = grind (arith, common_steps)

  -- one more element is written behind the front
  pub over_more : (front xs : List X) (x : X) → length front < length xs → set (over front xs) (length front) x ≡ over (front ++ x ∷ []) xs
  over_more front xs x h = grind (arith, common_steps, drop_more xs (length front) x h, set_at)

  -- an element past the front is as it was
  pub over_read : (front xs : List X) (i : ℕ) (d : X) → length front ≤ i → get_or (over front xs) i d ≡ get_or xs i d
  over_read front xs i d h = grind (arith, common_steps)

  over_take : (n : ℕ) (xs : List X) → n ≤ length xs → over (take n xs) xs ≡ xs
  over_take n xs h = grind (arith, common_steps, take-append-drop)

  -- one element of the front is written
  pub over_set : (n : ℕ) (xs : List X) (i : ℕ) (x : X) → n ≤ length xs → i < n → set xs i x ≡ over (set (take n xs) i x) xs
  over_set n xs i x h lt = let whole = take-append-drop n xs in grind (arith, common_steps, set-append_left)

  -- one element is written behind the first n
  pub over_push : (n : ℕ) (xs : List X) (x : X) → n < length xs → set xs n x ≡ over (take n xs ++ x ∷ []) xs
  over_push n xs x h = let whole = over_take n xs in grind (arith, common_steps, over_more)

  -- what lies behind a part of the first n, and then what lies behind these
  pub drop_part : (m n : ℕ) (xs : List X) → m ≤ n → n ≤ length xs → drop m (take n xs) ++ drop n xs ≡ drop m xs
  drop_part m n xs h all = let whole = take-append-drop n xs in grind (arith, common_steps, drop-append-le)
