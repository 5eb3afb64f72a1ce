-- What one visit does to the tables. Assumes nothing.
use Rattle.std.proofs.Common.{◌≡◌, ℕ, ◌+◌, ◌<◌, ◌≤◌, Bool, List, length, drop, slice_set, ◌==◌, if◌then◌else◌, refl, ◌∙◌, ⊎_elim, inl, inr, arith, length-set}
use Rattle.std.proofs.lemmas.Bool.{cases_lt}
use Rattle.std.proofs.lemmas.List.{get_or-set_other, get_or-set_same, length-take-le, length-drop, drop-set-lt}
use Rattle.tally.specs.declared.rows.Head.{Head}
use Rattle.tally.specs.declared.rows.Row.{Row}
use Rattle.tally.specs.Slots.{held, head_of, in_use, over, room, stepped}
use Rattle.tally.proofs.Changes.{length_step}
use Rattle.tally.proofs.Over.{length_over}
use Rattle.layout.specs.declared.place.Place.{Place}
use Rattle.layout.specs.Slots.{Shape}
use Rattle.layout.specs.Blocks.{Stretch, first, slot_of}
use Rattle.layout.specs.Laws.{IsBlock}
use Rattle.layout.proofs.SlotsOfBlocks.{rows_filled, heads_filled}
use Rattle.ladder.specs.Tables.{stepped_at, empty_head, HasRoom, head_at, Lies, part, rows_after, rows_of, Tables, tables, visited, with_part}
use Rattle.ladder.proofs.Parts.{length_with_part, part_other, part_same, rest_kept}
use Rattle.ladder.proofs.Rooms.{slot_lies}

module _ {K : Type 0} (alike : K → K → Bool) (m : ℕ) (key : K) where
  -- rows and a head that were worked out from a block's slot
  pub visit_is : (rows : List (Row K)) (heads : List Head) (b : Stretch) (place : Place) (before : Head) (slot : List (Row K)) (head : Head) → place ≡ slot_of b
      → before ≡ (if first b == m then empty_head else head_at (tables rows heads) b)
      → slot ≡ over (stepped alike (part place rows) before key).rows (part place rows)
      → head ≡ head_of (stepped alike (part place rows) before key)
      → tables (with_part place slot rows) (slice_set heads place.head head) ≡ visited alike m key (tables rows heads) b
  unfolding visited
  visit_is rows heads b place before slot head there found written counted = rw written (rw counted (rw found (rw there refl)))

  module _ (t : Tables K) (b : Stretch) (lies : Lies (slot_of b) t.rows t.heads) where
    long : length (rows_after alike m key t b) ≡ (slot_of b).rows
    long =
        let slot = rows_of t b in
        let before : Head = if first b == m then empty_head else head_at t b in
        let few = length_step alike (room slot) (held slot before) key (omega (arith, length-take-le (in_use slot before) slot (omega arith))) in
        length_over (stepped_at alike m key t b).rows slot (omega (arith, few)) ∙ length-take-le (slot_of b).rows (drop (slot_of b).start t.rows) (omega (arith, lies.rows_there, length-drop (slot_of b).start t.rows))

    pub rows_long : length (visited alike m key t b).rows ≡ length t.rows
    unfolding visited
    rows_long = length_with_part (slot_of b) (rows_after alike m key t b) t.rows lies.rows_there long

    pub heads_long : length (visited alike m key t b).heads ≡ length t.heads
    unfolding visited
    heads_long = length-set t.heads (slot_of b).head (head_of (stepped_at alike m key t b))

    -- the block's slot takes the step
    pub rows_here : rows_of (visited alike m key t b) b ≡ rows_after alike m key t b
    unfolding visited
    rows_here = part_same (slot_of b) (rows_after alike m key t b) t.rows lies.rows_there long

    pub head_here : head_at (visited alike m key t b) b ≡ head_of (stepped_at alike m key t b)
    unfolding visited
    head_here = get_or-set_same t.heads (slot_of b).head (head_of (stepped_at alike m key t b)) empty_head lies.head_there

    -- what lies behind the slot stays
    pub rows_behind : (n : ℕ) → (slot_of b).start + (slot_of b).rows ≤ n → drop n (visited alike m key t b).rows ≡ drop n t.rows
    unfolding visited
    rows_behind n past = rest_kept (slot_of b) (rows_after alike m key t b) t.rows lies.rows_there long n past

    pub heads_behind : (n : ℕ) → (slot_of b).head < n → drop n (visited alike m key t b).heads ≡ drop n t.heads
    unfolding visited
    heads_behind n past = drop-set-lt n t.heads (slot_of b).head (head_of (stepped_at alike m key t b)) past

  -- another slot stays as it is
  module _ (shape : Shape) (t : Tables K) (room : HasRoom shape t.rows t.heads) (b c : Stretch) (isb : IsBlock shape b) (isc : IsBlock shape c) (apart : slot_of b ≡ slot_of c → ⊥) where
    pub rows_there : rows_of (visited alike m key t b) c ≡ rows_of t c
    unfolding visited
    rows_there =
        let p = slot_of b in
        let q = slot_of c in
        let lies = slot_lies shape t.rows t.heads room in
        part_other p (rows_after alike m key t b) t.rows (lies b isb).rows_there (long t b (lies b isb)) q (lies c isc).rows_there
        (λ x from below. ⊎_elim
        (λ (lo : x < p.start). inl lo)
        (λ (hi : p.start ≤ x). ⊎_elim
        (λ (in_it : x < p.start + p.rows). absurd (apart ((rows_filled shape).apart x b c isb isc (record { from = hi; below = in_it }) (record { from = from; below = below }))))
        (λ (past : p.start + p.rows ≤ x). inr past)
        (cases_lt x (p.start + p.rows)))
        (cases_lt x p.start))

    pub head_there : head_at (visited alike m key t b) c ≡ head_at t c
    unfolding visited
    head_there =
        get_or-set_other t.heads (slot_of b).head (slot_of c).head (head_of (stepped_at alike m key t b)) empty_head
        (λ e. apart ((heads_filled shape).apart (slot_of c).head b c isb isc (record { from = omega (arith, e); below = omega (arith, e) }) (record { from = omega arith; below = omega arith })))
