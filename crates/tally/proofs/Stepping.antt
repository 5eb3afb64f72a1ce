-- One step, from the rows in use to the whole slot. Assumes nothing.
use Rattle.std.proofs.Common.{◌≡◌, ℕ, ◌<◌, ◌≤◌, Bool, true, List, [], ◌∷◌, length, get_or, take, set, Some, refl, ◌∙◌, arith}
use Rattle.std.proofs.lemmas.List.{length-take-le}
use Rattle.std.specs.List.{position_or_len}
use Rattle.std.proofs.lemmas.Bool.Decides.{nat_tests}
use Rattle.std.proofs.lemmas.Grind.{common_steps}
use Rattle.tally.specs.declared.rows.Row.{Row}
use Rattle.tally.specs.declared.rows.Head.{Head}
use Rattle.tally.specs.Steps.{Summary, known, place, risen, raised}
use Rattle.tally.specs.Slots.{room, in_use, held, stepped, head_of, over}
use Rattle.tally.proofs.Changes.{length_step}
use Rattle.tally.proofs.Over.{length_over, over_set}

module _ {K : Type 0} (alike : K → K → Bool) (k : K) where
  -- how many rows stand before the first alike one
  abbrev pub before : List (Row K) → ℕ
  before rows = position_or_len (λ row. alike row.key k) rows

  pub place_some : (rows : List (Row K)) (i : ℕ) → Some i ≡ place alike rows k → (known alike rows k ≡ true) × (i ≡ before rows) × (i < length rows)
  place_some rows i e = grind (arith, nat_tests)

  pub found_raised : (rows : List (Row K)) (d : Row K) → risen alike rows k ≡ set rows (before rows) (raised (get_or rows (before rows) d))
  found_raised [] d = refl
  found_raised (row ∷ rows) d = let again = found_raised rows d in grind arith

-- the first alike row of the first n rises, and with it the row of the slot
pub risen_over : {K : Type 0} (alike : K → K → Bool) (slot : List (Row K)) (n i : ℕ) (k : K) (row : Row K)
    → n ≤ length slot → Some i ≡ place alike (take n slot) k → row ≡ get_or slot i row → set slot i (raised row) ≡ over (risen alike (take n slot) k) slot
risen_over alike slot n i k row fits found read =
    let at = place_some alike k (take n slot) i found in
    let raises = found_raised alike k (take n slot) row in
    grind (arith, common_steps, over_set)

-- a tally that was laid into a slot is held there
held_over : {K : Type 0} (t : Summary K) (slot : List (Row K)) → length t.rows ≤ room slot → held (over t.rows slot) (head_of t) ≡ t
held_over t slot few = grind (arith, common_steps, length_over t.rows slot)

-- what a slot holds when a step has been laid into it
pub held_stepped : {K : Type 0} (alike : K → K → Bool) (slot slot' : List (Row K)) (head head' : Head) (k : K)
    → slot' ≡ over (stepped alike slot head k).rows slot → head' ≡ head_of (stepped alike slot head k) → held slot' head' ≡ stepped alike slot head k
held_stepped alike slot slot' head head' k rows used =
    (λ i. held (rows i) (used i)) ∙ held_over (stepped alike slot head k) slot (length_step alike (room slot) (held slot head) k (omega (arith, length-take-le (in_use slot head) slot (omega arith))))
