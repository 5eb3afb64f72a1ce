-- What the first wrong column says of the bytes.
use Rattle.std.proofs.Common.{◌≡◌, ℕ, suc, ◌+◌, ◌-◌, ◌<◌, ◌≤◌, ◌⊎◌, List, [], ◌∷◌, ◌++◌, length, take, drop, Some, None, Option, sym, refl, ap, ◌∙◌, subst, ⊎_elim, arith}
use Rattle.std.proofs.lemmas.List.{append_assoc, length-append, take-append-drop, take-take}
use Rattle.std.proofs.lemmas.Bool.{cases_lt, cases_order}
use Rattle.sentences.specs.Format.{Shaped, WellShaped, Begins, FirstWrong}
use Rattle.sentences.specs.Shape.{after, end_fault, fault_from}
use Rattle.sentences.specs.declared.shape.Expect.{Expect}
use Rattle.sentences.specs.declared.shape.Expect.TheVariants.{Dollar, End}
use Rattle.sentences.proofs.Accepts.{accepted_shape, shape_accepted}
use Rattle.sentences.proofs.Runs.{run, run_step, run_wrong, run_append, run_front, ending, ending_right}
use Rattle.sentences.proofs.Somes.{same_some}
use Rattle.sentences.proofs.Scans.{byte_over, byte_wrong, byte_right, no_fault, run_no_fault}

-- where the scan stops: so many right bytes come first
record Found (e : Expect) (column : ℕ) (xs : List ℕ) (c : ℕ) : Type 0 where
  good : ℕ
  place : c ≡ column + good
  within : good ≤ length xs
  limit : c ≤ 81
  led : Expect
  leads : run e (take good xs) ≡ Some led
  wrong : good < length xs → c ≤ 80 → run e (take (suc good) xs) ≡ None
  short : good ≡ length xs → run e xs ≡ Some End → ⊥

abbrev Stops : List ℕ → Type 0
Stops xs = (e : Expect) (column c : ℕ) → column ≤ 81 → fault_from e column xs ≡ Some c → Found e column xs c

not_ended : (e : Expect) (column c : ℕ) → end_fault e column ≡ Some c → (c ≡ column) × (run e [] ≡ Some End → ⊥)
not_ended e column c s = grind arith

-- the scan stops at its first byte, or before one
stopped : (e : Expect) (column : ℕ) (xs : List ℕ) (c : ℕ) → c ≡ column → column ≤ 81 → (0 < length xs → c ≤ 80 → run e (take 1 xs) ≡ None) → (0 ≡ length xs → run e xs ≡ Some End → ⊥) → Found e column xs c
stopped e column xs c at low wrong short =
    record { good = 0; place = omega arith; within = omega arith; limit = omega arith; led = e; leads = refl; wrong = wrong; short = short }

found_at : (e : Expect) (column b : ℕ) (bs : List ℕ) (c : ℕ) → Stops bs → column ≤ 81 → column ≤ 80 → fault_from e column (b ∷ bs) ≡ Some c → (o : Option Expect) → after e b ≡ o → Found e column (b ∷ bs) c
found_at e column b bs c again low under f None wrong =
    let at : c ≡ column = sym (same_some (sym (byte_wrong e column b bs under wrong) ∙ f)) in
    stopped e column (b ∷ bs) c at low (λ _ _. run_wrong e b [] wrong) (λ z. absurd (omega arith))
found_at e column b bs c again low under f (Some next) right =
    let rest = again next (column + 1) c (omega arith) (sym (byte_right e column b bs next under right) ∙ f) in
    record {
      good = suc rest.good;
      place = omega arith;
      within = omega arith;
      limit = rest.limit;
      led = rest.led;
      leads = run_step e next b (take rest.good bs) right ∙ rest.leads;
      wrong = λ more low. run_step e next b (take (suc rest.good) bs) right ∙ rest.wrong (omega arith) low;
      short = λ all r. rest.short (omega arith) (sym (run_step e next b bs right) ∙ r);
    }

found : (xs : List ℕ) → Stops xs
found [] e column c low f =
    let at = not_ended e column c f in
    stopped e column [] c at.0 low (λ more. absurd (omega arith)) (λ _ r. at.1 r)
found (b ∷ bs) e column c low f =
    ⊎_elim
    (λ (at : 80 < column).
    let here : c ≡ column = sym (same_some (sym (byte_over e column b bs at) ∙ f)) in
    stopped e column (b ∷ bs) c here low (λ _ under. absurd (omega arith)) (λ z. absurd (omega arith)))
    (λ (under : column ≤ 80). found_at e column b bs c (found bs) low under f (after e b) refl)
    (cases_lt 80 column)

-- bytes that lead anywhere begin a well-shaped sentence, and no others do
led_begins : (xs : List ℕ) (e : Expect) → run Dollar xs ≡ Some e → Begins xs
led_begins xs e leads =
    (ending e, accepted_shape (xs ++ ending e) (run_append xs (ending e) Dollar e leads ∙ ending_right e))

begins_led : (xs : List ℕ) → Begins xs → run Dollar xs ≡ None → ⊥
begins_led xs (rest, shape) none =
    let front = run_front xs rest Dollar End (shape_accepted (xs ++ rest) shape) in
    cc

pub first_wrong : (xs : List ℕ) (c : ℕ) → fault_from Dollar 1 xs ≡ Some c → FirstWrong xs c
first_wrong xs c f =
    let at = found xs Dollar 1 c (omega arith) f in
    let before : c - 1 ≡ at.good = omega arith in
    let here : c ≡ suc at.good = omega arith in
    record {
      from_one = omega arith;
      within = omega arith;
      limit = at.limit;
      before = rw before (led_begins (take at.good xs) at.led at.leads);
      here = λ in_bytes low begins. begins_led (take c xs) begins (ap (λ n. run Dollar (take n xs)) here ∙ at.wrong (omega arith) low);
      ended = λ end shape. at.short (omega arith) (shape_accepted xs shape);
    }

-- without a fault the sentence is well-shaped and short enough
pub well_shaped : (xs : List ℕ) → fault_from Dollar 1 xs ≡ None → WellShaped xs × (length xs ≤ 80)
well_shaped xs f =
    let passes = no_fault xs Dollar 1 (omega arith) f in
    (accepted_shape xs passes.0, omega arith)

pub no_shape_fault : (xs : List ℕ) → WellShaped xs → length xs ≤ 80 → fault_from Dollar 1 xs ≡ None
no_shape_fault xs shape short = run_no_fault xs Dollar 1 (shape_accepted xs shape) (omega arith)

pub shaped_length : (xs address fields digits : List ℕ) → Shaped xs address fields digits → length xs ≡ length fields + 9
shaped_length xs address fields digits s =
    let whole = ap length s.joined in
    let all = length-append address (fields ++ (42 ∷ digits)) in
    let rest = length-append fields (42 ∷ digits) in
    let five = s.address_five in
    let two = s.digits_two in
    omega arith

pub shape_lengths : (xs : List ℕ) → fault_from Dollar 1 xs ≡ None → (9 ≤ length xs) × (length xs ≤ 80)
shape_lengths xs f =
    let right = well_shaped xs f in
    let long = shaped_length xs right.0.0 right.0.1 right.0.2 right.0.3 in
    (omega arith, right.1)

-- a shorter front begins what a longer one begins
front_begins : (xs : List ℕ) (m n : ℕ) → m ≤ n → Begins (take n xs) → Begins (take m xs)
front_begins xs m n le (rest, shape) =
    let front : take n xs ≡ take m xs ++ drop m (take n xs) = sym (take-append-drop m (take n xs)) ∙ ap (λ ys. ys ++ drop m (take n xs)) (take-take m n xs le) in
    (drop m (take n xs) ++ rest, subst (λ (ys : List ℕ). WellShaped ys) (ap (λ ys. ys ++ rest) front ∙ append_assoc (take m xs) (drop m (take n xs)) rest) shape)

-- of two first wrong columns, none comes earlier
not_earlier : (xs : List ℕ) (c d : ℕ) → FirstWrong xs c → FirstWrong xs d → c < d → ⊥
not_earlier xs c d wrong later less =
    wrong.here (omega (arith, later.within)) (omega (arith, later.limit)) (front_begins xs c (d - 1) (omega arith) later.before)

-- only the first wrong column is refused
pub wrong_first : (xs : List ℕ) (c : ℕ) → FirstWrong xs c → fault_from Dollar 1 xs ≡ Some c
wrong_first xs c wrong = by (fault_from Dollar 1 xs) refl
  where
    by : (o : Option ℕ) → fault_from Dollar 1 xs ≡ o → o ≡ Some c
    by (Some d) f =
        let at = first_wrong xs d f in
        ⊎_elim (λ (same : d ≡ c). ap Some same) (λ (order : (d < c) ⊎ (c < d)). absurd (⊎_elim (not_earlier xs d c at wrong) (not_earlier xs c d wrong at) order)) (cases_order d c)
    by None f =
        let right = well_shaped xs f in
        absurd (⊎_elim
        (λ (within : c < length xs + 1). wrong.here (omega arith) (omega (arith, right.1)) (drop c xs, subst (λ (ys : List ℕ). WellShaped ys) (sym (take-append-drop c xs)) right.0))
        (λ (past : length xs + 1 ≤ c). wrong.ended (omega (arith, wrong.within)) right.0)
        (cases_lt c (length xs + 1)))
