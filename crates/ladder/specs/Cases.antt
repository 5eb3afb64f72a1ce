-- Worked cases, by the keys that came; keys are numbers. Assumes nothing.
use Rattle.std.specs.Prelude.{◌≡◌, ℕ, List, [], ◌∷◌, ◌++◌, nat_eq, replicate}
use Rattle.keeper.specs.declared.entry.Entry.{Entry}
use Rattle.ladder.specs.Exact.{counts, lists}

abbrev pub entry_with : ℕ → ℕ → ℕ → Entry ℕ
entry_with key floor ceiling = record { key = key; floor = floor; ceiling = ceiling }

-- seventeen 2 and two 3, after a 1 was let go
abbrev pub nineteen : List ℕ
nineteen = replicate 17 2 ++ (3 ∷ 3 ∷ [])

-- accuracy 1 and span 5: the scale that answers has blocks of an even number of arrivals
pub record CountCases : Type 0 where
  pub gone : counts nat_eq 1 5 (1 ∷ []) nineteen 1 ≡ (0, 1)
  pub cut : counts nat_eq 1 5 (1 ∷ []) nineteen 2 ≡ (16, 17)
  pub whole : counts nat_eq 1 5 (1 ∷ []) nineteen 3 ≡ (2, 3)

-- of seventeen keys that are alike, 17, the ceiling, is the highest threshold that names the key. At accuracy 2, entries come by the first places of their keys in the cover
pub record ListCases : Type 0 where
  pub at_ceiling : lists nat_eq 1 5 [] (replicate 17 7) 17 ≡ entry_with 7 16 17 ∷ []
  pub above : lists nat_eq 1 5 [] (replicate 17 7) 18 ≡ []
  pub in_order : lists nat_eq 2 5 (1 ∷ 1 ∷ []) (6 ∷ 7 ∷ 8 ∷ 6 ∷ 7 ∷ 8 ∷ []) 2 ≡ entry_with 6 2 2 ∷ entry_with 7 2 2 ∷ entry_with 8 2 2 ∷ []
