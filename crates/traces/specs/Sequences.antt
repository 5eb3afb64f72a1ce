-- Calls made one after the other, and their answers: each judged by the account as it is then, and each performed where the one before it left off. Assumes nothing.
use Rattle.std.specs.Prelude.{◌≡◌, List, [], ◌∷◌}

-- `next` is the account after one call, so `fold next` is the account after all of them; `meets` says which answers are right
module _ {A C R : Type 0} (next : A → C → A) (meets : A → C → R → Type 0) where
  -- calls have one answer each, which is right by the account as it is then
  abbrev pub AllMeet : A → List C → List R → Type 0
  AllMeet a [] [] = Unit {0}
  AllMeet a (call ∷ calls) (answer ∷ answers) = meets a call answer × AllMeet (next a call) calls answers
  AllMeet a calls answers = ⊥

-- `performed` says what one call does: what it finds, what it answers, and what it leaves
module _ {S C R : Type 0} (performed : S → C → R → S → Type 0) where
  -- calls have one answer each, and each call finds what the one before it left
  abbrev pub AllPerformed : S → List C → List R → S → Type 0
  AllPerformed s [] [] s' = s' ≡ s
  AllPerformed s (call ∷ calls) (answer ∷ answers) s' = (s1 : S) × performed s call answer s1 × AllPerformed s1 calls answers s'
  AllPerformed s calls answers s' = ⊥
