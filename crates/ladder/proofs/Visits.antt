-- What an arrival does to the tables: each of its blocks takes its step once. Assumes nothing.
use Rattle.std.proofs.Common.{◌≡◌, ◌⊎◌, ℕ, zero, suc, ◌+◌, ◌<◌, ◌≤◌, Bool, List, [], ◌∷◌, ◌++◌, ◌==◌, if◌then◌else◌, All, drop, fold, refl, ap, ◌∙◌, sym, subst, ⊎_elim, inl, inr, arith}
use Rattle.std.proofs.lemmas.Bool.{cases_eq}
use Rattle.std.proofs.lemmas.List.Elements.{All-nil, All-cons, All-head, All-tail, All-append}
use Rattle.tally.specs.declared.rows.Head.{Head}
use Rattle.tally.specs.declared.rows.Row.{Row}
use Rattle.tally.specs.Slots.{head_of, over, stepped}
use Rattle.tally.specs.Steps.{Summary}
use Rattle.layout.specs.Slots.{all_heads, all_rows, Shape}
use Rattle.layout.specs.Blocks.{Stretch, block_of, blocks_from, first, scales_from, slot_of, visits_of}
use Rattle.layout.specs.Laws.{IsBlock, IsVisit}
use Rattle.layout.proofs.BlocksOfArrivals.{one_of_level, visits_right}
use Rattle.layout.proofs.SlotsOfBlocks.{rows_filled, heads_filled, same_turn}
use Rattle.ladder.specs.Tables.{stepped_at, empty_head, HasRoom, head_at, put_tables, rows_after, rows_of, Tables, visited}
use Rattle.ladder.proofs.Rooms.{room_kept, slot_lies}
use Rattle.ladder.proofs.Visiting.{head_here, head_there, heads_behind, heads_long, rows_behind, rows_here, rows_long, rows_there}

-- another level, or a level of another scale
abbrev pub Elsewhere : Stretch → Stretch → Type 0
Elsewhere b c = c.scale ≡ b.scale → c.level ≡ b.level → ⊥

-- b is one of the blocks, and the others are of other levels
abbrev pub IsOnce : Stretch → List Stretch → Type 0
IsOnce b [] = ⊥
IsOnce b (c ∷ cs) = ((c ≡ b) × All (Elsewhere b) cs) ⊎ (Elsewhere b c × IsOnce b cs)

once_left : (b : Stretch) (xs ys : List Stretch) → IsOnce b xs → All (Elsewhere b) ys → IsOnce b (xs ++ ys)
once_left b [] ys once others = absurd once
once_left b (c ∷ cs) ys once others = ⊎_elim
    (λ (here : (c ≡ b) × All (Elsewhere b) cs). inl (here.0, All-append (Elsewhere b) cs ys here.1 others))
    (λ (later : Elsewhere b c × IsOnce b cs). inr (later.0, once_left b cs ys later.1 others))
    once

once_right : (b : Stretch) (xs ys : List Stretch) → All (Elsewhere b) xs → IsOnce b ys → IsOnce b (xs ++ ys)
once_right b [] ys others once = once
once_right b (c ∷ cs) ys others once = inr (All-head (Elsewhere b) c cs others, once_right b cs ys (All-tail (Elsewhere b) c cs others) once)

-- an arrival falls into one block of each level
module _ (top m i j : ℕ) where
  later_levels : (n h : ℕ) → j < h → All (Elsewhere (block_of top m i j)) (blocks_from top m i h n)
  later_levels zero h lo = All-nil (Elsewhere (block_of top m i j))
  later_levels (suc n) h lo = All-cons (Elsewhere (block_of top m i j)) (block_of top m i h) (blocks_from top m i (h + 1) n) (λ scale level. omega (arith, level)) (later_levels n (h + 1) (omega arith))

  once_of_levels : (n h : ℕ) → h ≤ j → j < h + n → IsOnce (block_of top m i j) (blocks_from top m i h n)
  once_of_levels zero h lo hi = absurd (omega arith)
  once_of_levels (suc n) h lo hi = ⊎_elim
      (λ (e : h ≡ j). inl (ap (block_of top m i) e, later_levels n (h + 1) (omega arith)))
      (λ (ne : h ≡ j → ⊥). inr (λ scale level. ne level, once_of_levels n (h + 1) (omega arith) (omega arith)))
      (cases_eq h j)

  other_scale : (n h k : ℕ) → (h ≡ i → ⊥) → All (Elsewhere (block_of top m i j)) (blocks_from top m h k n)
  other_scale zero h k ne = All-nil (Elsewhere (block_of top m i j))
  other_scale (suc n) h k ne = All-cons (Elsewhere (block_of top m i j)) (block_of top m h k) (blocks_from top m h (k + 1) n) (λ scale level. ne scale) (other_scale n h (k + 1) ne)

  later_scales : (n h : ℕ) → i < h → All (Elsewhere (block_of top m i j)) (scales_from top m h n)
  later_scales zero h lo = All-nil (Elsewhere (block_of top m i j))
  later_scales (suc n) h lo = All-append (Elsewhere (block_of top m i j)) (blocks_from top m h 0 (top + 1)) (scales_from top m (h + 1) n)
      (other_scale (top + 1) h 0 (λ e. omega (arith, e)))
      (later_scales n (h + 1) (omega arith))

  once_of_scales : (n h : ℕ) → h ≤ i → i < h + n → j ≤ top → IsOnce (block_of top m i j) (scales_from top m h n)
  once_of_scales zero h lo hi level = absurd (omega arith)
  once_of_scales (suc n) h lo hi level = ⊎_elim
      (λ (e : h ≡ i). once_left (block_of top m i j) (blocks_from top m h 0 (top + 1)) (scales_from top m (h + 1) n)
      (subst (λ s. IsOnce (block_of top m i j) (blocks_from top m s 0 (top + 1))) (sym e) (once_of_levels (top + 1) 0 (omega arith) (omega arith)))
      (later_scales n (h + 1) (omega arith)))
      (λ (ne : h ≡ i → ⊥). once_right (block_of top m i j) (blocks_from top m h 0 (top + 1)) (scales_from top m (h + 1) n)
      (other_scale (top + 1) h 0 ne)
      (once_of_scales n (h + 1) (omega arith) (omega arith) level))
      (cases_eq h i)

once_visited : (shape : Shape) (m : ℕ) (b : Stretch) → IsVisit shape m b → IsOnce b (visits_of shape m)
once_visited shape m b v =
    subst (λ c. IsOnce c (visits_of shape m)) (one_of_level shape m b v) (once_of_scales shape.top m b.scale b.level shape.scales 0 (omega arith) (omega (arith, v.there.scale)) v.there.level)

-- blocks that use one slot are of one level
elsewhere_apart : (shape : Shape) (b c : Stretch) → IsBlock shape b → IsBlock shape c → Elsewhere b c → slot_of c ≡ slot_of b → ⊥
elsewhere_apart shape b c isb isc other e = let same = same_turn shape b c isb isc e in other same.0 same.1

module _ {K : Type 0} (alike : K → K → Bool) (m : ℕ) (key : K) (shape : Shape) where
  module _ (t : Tables K) (room : HasRoom shape t.rows t.heads) (b : Stretch) (is : IsBlock shape b) where
    room_after : HasRoom shape (visited alike m key t b).rows (visited alike m key t b).heads
    room_after =
        let lies = slot_lies shape t.rows t.heads room b is in
        room_kept shape t.rows _ t.heads _ (rows_long alike m key t b lies) (heads_long alike m key t b lies) room

  -- a slot that none of the blocks uses
  others_keep : (bs : List Stretch) (t : Tables K) → HasRoom shape t.rows t.heads → (c : Stretch) → IsBlock shape c → All (IsBlock shape) bs → All (λ b. slot_of b ≡ slot_of c → ⊥) bs
      → (rows_of (fold (visited alike m key) t bs) c ≡ rows_of t c) × (head_at (fold (visited alike m key) t bs) c ≡ head_at t c)
  others_keep [] t room c isc are apart = (refl, refl)
  others_keep (b ∷ bs) t room c isc are apart =
      let isb = All-head (IsBlock shape) b bs are in
      let not_here = All-head (λ d. slot_of d ≡ slot_of c → ⊥) b bs apart in
      let again = others_keep bs (visited alike m key t b) (room_after t room b isb) c isc (All-tail (IsBlock shape) b bs are) (All-tail (λ d. slot_of d ≡ slot_of c → ⊥) b bs apart) in
      (again.0 ∙ rows_there alike m key shape t room b c isb isc not_here, again.1 ∙ head_there alike m key shape t room b c isb isc not_here)

  -- a block's slot, where the block is one of them
  once_takes : (bs : List Stretch) (t : Tables K) → HasRoom shape t.rows t.heads → (b : Stretch) → IsBlock shape b → All (IsBlock shape) bs → IsOnce b bs
      → (rows_of (fold (visited alike m key) t bs) b ≡ rows_after alike m key t b) × (head_at (fold (visited alike m key) t bs) b ≡ head_of (stepped_at alike m key t b))
  once_takes [] t room b isb are once = absurd once
  once_takes (c ∷ cs) t room b isb are once =
      let isc = All-head (IsBlock shape) c cs are in
      let rest = All-tail (IsBlock shape) c cs are in
      let lies = slot_lies shape t.rows t.heads room b isb in
      ⊎_elim
      (λ (here : (c ≡ b) × All (Elsewhere b) cs).
      let apart : All (λ d. slot_of d ≡ slot_of b → ⊥) cs = λ k d lo. elsewhere_apart shape b _ isb (rest k d lo) (here.1 k d lo) in
      let after = others_keep cs (visited alike m key t b) (room_after t room b isb) b isb rest apart in
      subst (λ d. (rows_of (fold (visited alike m key) (visited alike m key t d) cs) b ≡ rows_after alike m key t b) × (head_at (fold (visited alike m key) (visited alike m key t d) cs) b ≡ head_of (stepped_at alike m key t b))) (sym here.0)
      (after.0 ∙ rows_here alike m key t b lies, after.1 ∙ head_here alike m key t b lies))
      (λ (later : Elsewhere b c × IsOnce b cs).
      let apart = elsewhere_apart shape b c isb isc later.0 in
      let same_rows = rows_there alike m key shape t room c b isc isb apart in
      let same_head = head_there alike m key shape t room c b isc isb apart in
      let after = once_takes cs (visited alike m key t c) (room_after t room c isc) b isb rest later.1 in
      let taken : Stretch → List (Row K) → Head → Summary K = λ d rows head. stepped alike rows (if first d == m then empty_head else head) key in
      let same : stepped_at alike m key (visited alike m key t c) b ≡ stepped_at alike m key t b = λ i. taken b (same_rows i) (same_head i) in
      (after.0 ∙ (λ i. over (same i).rows (same_rows i)), after.1 ∙ ap head_of same))
      once

  -- what lies behind all slots
  behind_kept : (bs : List Stretch) (t : Tables K) → HasRoom shape t.rows t.heads → All (IsBlock shape) bs
      → (drop (all_rows shape) (fold (visited alike m key) t bs).rows ≡ drop (all_rows shape) t.rows)
      × (drop (all_heads shape) (fold (visited alike m key) t bs).heads ≡ drop (all_heads shape) t.heads)
  behind_kept [] t room are = (refl, refl)
  behind_kept (b ∷ bs) t room are =
      let isb = All-head (IsBlock shape) b bs are in
      let lies = slot_lies shape t.rows t.heads room b isb in
      let again = behind_kept bs (visited alike m key t b) (room_after t room b isb) (All-tail (IsBlock shape) b bs are) in (
        again.0 ∙ rows_behind alike m key t b lies (all_rows shape) ((rows_filled shape).within b isb),
        again.1 ∙ heads_behind alike m key t b lies (all_heads shape) (omega (arith, (heads_filled shape).within b isb)),
      )

  visits_are : All (IsBlock shape) (visits_of shape m)
  visits_are k d lo = (visits_right shape m k d lo).there

  module _ (t : Tables K) (room : HasRoom shape t.rows t.heads) where
    pub put_steps : (b : Stretch) → IsVisit shape m b → (rows_of (put_tables alike m key shape t) b ≡ rows_after alike m key t b) × (head_at (put_tables alike m key shape t) b ≡ head_of (stepped_at alike m key t b))
    put_steps b v = once_takes (visits_of shape m) t room b v.there visits_are (once_visited shape m b v)

    pub put_leaves : (b : Stretch) → IsBlock shape b → ((c : Stretch) → IsVisit shape m c → slot_of c ≡ slot_of b → ⊥) → (rows_of (put_tables alike m key shape t) b ≡ rows_of t b) × (head_at (put_tables alike m key shape t) b ≡ head_at t b)
    put_leaves b is apart = others_keep (visits_of shape m) t room b is visits_are (λ k d lo. apart _ (visits_right shape m k d lo))

    pub put_behind : (drop (all_rows shape) (put_tables alike m key shape t).rows ≡ drop (all_rows shape) t.rows)
        × (drop (all_heads shape) (put_tables alike m key shape t).heads ≡ drop (all_heads shape) t.heads)
    put_behind = behind_kept (visits_of shape m) t room visits_are
