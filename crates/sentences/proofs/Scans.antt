-- The scan for a sentence's first wrong column, byte by byte.
use Rattle.std.proofs.Common.{◌≡◌, ℕ, zero, suc, ◌+◌, ◌<◌, ◌≤◌, ltb, List, [], ◌∷◌, length, take, Some, None, Option, sym, refl, ap, ◌∙◌, ⊎_elim, arith}
use Rattle.std.proofs.lemmas.Bool.{cases_lt, lt-ltb, le-ltb, cond-true, cond-false}
use Rattle.sentences.specs.Shape.{after, end_fault, fault_from}
use Rattle.sentences.specs.declared.shape.Expect.{Expect}
use Rattle.sentences.specs.declared.shape.Expect.TheVariants.{End}
use Rattle.sentences.proofs.Runs.{run, bind_some, run_step}

module _ (e : Expect) (column b : ℕ) (bs : List ℕ) where
  -- past the limit
  pub byte_over : 80 < column → fault_from e column (b ∷ bs) ≡ Some column
  byte_over past = cond-true (ltb 80 column) _ _ (lt-ltb 80 column past)

  pub byte_wrong : (column ≤ 80) → after e b ≡ None → fault_from e column (b ∷ bs) ≡ Some column
  byte_wrong under wrong = cond-false (ltb 80 column) _ _ (le-ltb 80 column under) ∙ rw wrong

  pub byte_right : (next : Expect) → (column ≤ 80) → after e b ≡ Some next → fault_from e column (b ∷ bs) ≡ fault_from next (column + 1) bs
  byte_right next under right = cond-false (ltb 80 column) _ _ (le-ltb 80 column under) ∙ rw right

never_some : {P : Type 0} (n : ℕ) → ◌≡◌ {A = Option ℕ} (Some n) None → P
never_some n e = absurd cc

-- the bytes up to column 81 decide
pub fault_decided : (xs : List ℕ) (e : Expect) (column n : ℕ) → column + n ≡ 81 → fault_from e column (take (suc n) xs) ≡ fault_from e column xs
fault_decided [] e column n at = refl
fault_decided (b ∷ bs) e column zero at =
    byte_over e column b [] (omega arith) ∙ sym (byte_over e column b bs (omega arith))
fault_decided (b ∷ bs) e column (suc n) at =
    by (omega arith) (λ next. fault_decided bs next (column + 1) n (omega arith)) (after e b) refl
  where
    by : (column ≤ 80) → ((next : Expect) → fault_from next (column + 1) (take (suc n) bs) ≡ fault_from next (column + 1) bs) → (o : Option Expect) → after e b ≡ o → fault_from e column (b ∷ take (suc n) bs) ≡ fault_from e column (b ∷ bs)
    by under again None wrong = byte_wrong e column b (take (suc n) bs) under wrong ∙ sym (byte_wrong e column b bs under wrong)
    by under again (Some next) right =
        byte_right e column b (take (suc n) bs) next under right ∙ again next ∙ sym (byte_right e column b bs next under right)

-- no fault: the run reaches the end within the limit
abbrev Passes : List ℕ → Type 0
Passes xs = (e : Expect) (column : ℕ) → column ≤ 81 → fault_from e column xs ≡ None → (run e xs ≡ Some End) × (column + length xs ≤ 81)

no_end_fault : (e : Expect) (column : ℕ) → end_fault e column ≡ None → e ≡ End
no_end_fault e column f = grind arith

pub no_fault : (xs : List ℕ) → Passes xs
no_fault [] e column low f = (ap Some (no_end_fault e column f), omega arith)
no_fault (b ∷ bs) e column low f =
    ⊎_elim (λ (at : 80 < column). never_some column (sym (byte_over e column b bs at) ∙ f)) (λ (under : column ≤ 80). by under (no_fault bs) (after e b) refl) (cases_lt 80 column)
  where
    by : (column ≤ 80) → Passes bs → (o : Option Expect) → after e b ≡ o → (run e (b ∷ bs) ≡ Some End) × (column + length (b ∷ bs) ≤ 81)
    by under again None wrong = never_some column (sym (byte_wrong e column b bs under wrong) ∙ f)
    by under again (Some next) right =
        let rest = again next (column + 1) (omega arith) (sym (byte_right e column b bs next under right) ∙ f) in
        (run_step e next b bs right ∙ rest.0, omega arith)

-- and back
pub run_no_fault : (xs : List ℕ) (e : Expect) (column : ℕ) → run e xs ≡ Some End → column + length xs ≤ 81 → fault_from e column xs ≡ None
run_no_fault [] e column led short = let end : e ≡ End = cc in ap (λ x. end_fault x column) end
run_no_fault (b ∷ bs) e column led short =
    let next = bind_some (after e b) (λ n. run n bs) End led in
    byte_right e column b bs next.0 (omega arith) next.1 ∙ run_no_fault bs next.0 (column + 1) next.2 (omega arith)
