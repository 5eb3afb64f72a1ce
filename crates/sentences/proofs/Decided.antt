-- What is read of bytes is decided by the first 81.
use Rattle.std.proofs.Common.{◌≡◌, ℕ, ◌<◌, ◌≤◌, List, length, take, Some, None, Err, Option, sym, refl, ap, ◌∙◌, ⊎_elim, arith}
use Rattle.std.proofs.lemmas.List.{take_all}
use Rattle.std.proofs.lemmas.Bool.{cases_lt}
use Rattle.sentences.specs.Reader.{address_of, reading_of}
use Rattle.sentences.specs.Shape.{shape_fault}
use Rattle.sentences.specs.declared.error.SentenceError.TheVariants.{Shape}
use Rattle.sentences.specs.declared.shape.Expect.TheVariants.{Dollar}
use Rattle.sentences.proofs.Faults.{shape_lengths}
use Rattle.sentences.proofs.Readings.{address_unshaped, reading_unshaped}
use Rattle.sentences.proofs.Scans.{fault_decided}

-- anything that a wrong shape decides alone
decided : {A : Type 0} (read : List ℕ → A) (refused : ℕ → A) → ((xs : List ℕ) (column : ℕ) → shape_fault xs ≡ Some column → read xs ≡ refused column) → (xs : List ℕ) → read (take 81 xs) ≡ read xs
decided read refused unshaped xs =
    ⊎_elim (λ (long : 81 < length xs). by long (shape_fault xs) refl) (λ (short : length xs ≤ 81). ap read (take_all 81 xs short)) (cases_lt 81 (length xs))
  where
    by : 81 < length xs → (o : Option ℕ) → shape_fault xs ≡ o → read (take 81 xs) ≡ read xs
    by long None none = let lengths = shape_lengths xs none in absurd (omega arith)
    by long (Some column) fault =
        unshaped (take 81 xs) column (fault_decided xs Dollar 1 80 refl ∙ fault) ∙ sym (unshaped xs column fault)

pub address_decided : (xs : List ℕ) → address_of (take 81 xs) ≡ address_of xs
address_decided = decided address_of (λ column. Err (Shape column)) address_unshaped

pub reading_decided : (xs : List ℕ) → reading_of (take 81 xs) ≡ reading_of xs
reading_decided = decided reading_of (λ column. Err (Shape column)) reading_unshaped
