-- A part of a table, and the table with another part in its place. Assumes nothing.
use Rattle.std.proofs.Common.{◌≡◌, ℕ, ◌+◌, ◌<◌, ◌≤◌, List, length, get_or, drop, ◌⊎◌, ⊎_elim, ◌∙◌, sym, arith}
use Rattle.std.proofs.lemmas.Grind.{common_steps}
use Rattle.std.proofs.lemmas.List.{get_or-drop, get_or-take, same_lists}
use Rattle.std.proofs.lemmas.Slice.{drop-put_mid}
use Rattle.std.proofs.Math.Seq.{take-append_seam}
use Rattle.layout.specs.declared.place.Place.{Place}
use Rattle.ladder.specs.Tables.{part, with_part}

module _ {X : Type 0} (p : Place) (ys xs : List X) (there : p.start + p.rows ≤ length xs) (same : length ys ≡ p.rows) where
  pub length_with_part : length (with_part p ys xs) ≡ length xs
  length_with_part = grind (arith, common_steps)

  pub part_same : part p (with_part p ys xs) ≡ ys
  part_same = grind (arith, common_steps, take-append_seam)

  pub cell_other : (x : ℕ) (d : X) → (x < p.start) ⊎ (p.start + p.rows ≤ x) → get_or (with_part p ys xs) x d ≡ get_or xs x d
  cell_other x d = ⊎_elim (λ (lo : x < p.start). grind (arith, common_steps)) (λ (hi : p.start + p.rows ≤ x). grind (arith, common_steps))

  -- a part that shares no cell with it
  pub part_other : (q : Place) → q.start + q.rows ≤ length xs → ((x : ℕ) → q.start ≤ x → x < q.start + q.rows → (x < p.start) ⊎ (p.start + p.rows ≤ x)) → part q (with_part p ys xs) ≡ part q xs
  part_other q within apart =
      let long = length_with_part in
      same_lists (part q (with_part p ys xs)) (part q xs) (grind (arith, common_steps))
      (λ k d lo.
      let inside : k < q.rows = grind (arith, common_steps) in
      get_or-take q.rows (drop q.start (with_part p ys xs)) k d inside
      ∙ get_or-drop q.start (with_part p ys xs) k d
      ∙ cell_other (q.start + k) d (apart (q.start + k) (omega arith) (omega arith))
      ∙ sym (get_or-drop q.start xs k d)
      ∙ sym (get_or-take q.rows (drop q.start xs) k d inside))

  pub rest_kept : (n : ℕ) → p.start + p.rows ≤ n → drop n (with_part p ys xs) ≡ drop n xs
  rest_kept n past = drop-put_mid p.start p.rows xs ys n past (omega (arith, there)) same
