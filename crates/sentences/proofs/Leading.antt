-- The longest front of a list that passes a test.
use Rattle.std.proofs.Common.{◌≡◌, ℕ, suc, ◌+◌, Bool, true, false, cond, List, [], ◌∷◌, ◌++◌, length, take, drop, refl, ap, ◌∙◌, one-add}
use Rattle.std.specs.List.{prefix_len, AllByRecursion}

module _ (p : ℕ → Bool) where
  -- a front that passes, and what begins with no more of it
  pub leading_front : (xs ys : List ℕ) → AllByRecursion (λ b. p b ≡ true) xs → prefix_len p ys ≡ 0 → prefix_len p (xs ++ ys) ≡ length xs
  leading_front [] ys all none = none
  leading_front (x ∷ xs) ys all none =
      ap (λ t. cond t (1 + prefix_len p (xs ++ ys)) 0) all.0 ∙ one-add (prefix_len p (xs ++ ys)) ∙ ap suc (leading_front xs ys all.1 none)

  pub leading_passes : (xs : List ℕ) → AllByRecursion (λ b. p b ≡ true) (take (prefix_len p xs) xs)
  leading_passes [] = tt
  leading_passes (x ∷ xs) = by (p x) refl (leading_passes xs)
    where
      by : (t : Bool) → p x ≡ t → AllByRecursion (λ b. p b ≡ true) (take (prefix_len p xs) xs) → AllByRecursion (λ b. p b ≡ true) (take (cond t (1 + prefix_len p xs) 0) (x ∷ xs))
      by false fails again = tt
      by true passes again = rw one-add (passes, again)

  -- what follows the front begins with what fails, if anything follows
  abbrev pub Fails : List ℕ → Type 0
  Fails [] = Unit {0}
  Fails (b ∷ bs) = p b ≡ false

  pub leading_stops : (xs : List ℕ) → Fails (drop (prefix_len p xs) xs)
  leading_stops [] = tt
  leading_stops (x ∷ xs) = by (p x) refl (leading_stops xs)
    where
      by : (t : Bool) → p x ≡ t → Fails (drop (prefix_len p xs) xs) → Fails (drop (cond t (1 + prefix_len p xs) 0) (x ∷ xs))
      by false fails again = fails
      by true passes again = rw one-add again

  pub fails_leading : (xs : List ℕ) → Fails xs → prefix_len p xs ≡ 0
  fails_leading [] h = refl
  fails_leading (x ∷ xs) h = ap (λ t. cond t (1 + prefix_len p xs) 0) h
