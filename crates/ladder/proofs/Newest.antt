-- A put keeps the tables true: each slot that a block has begun holds the tally of its newest block. Assumes nothing.
use Rattle.std.proofs.Common.{◌≡◌, ◌+◌, ◌^◌, ◌<◌, ◌≤◌, min, Bool, List, [], ◌∷◌, ◌++◌, ◌==◌, if◌then◌else◌, length, drop, take, ap, ◌∙◌, sym, ⊎_elim, arith}
use Rattle.std.proofs.lemmas.Bool.{cases_eq, cases_lt}
use Rattle.std.proofs.lemmas.Bool.Decides.{nat_tests}
use Rattle.std.proofs.lemmas.Nat.{pow_pos}
use Rattle.std.proofs.lemmas.List.{drop-append-le, length-drop, length-take, length_push, take-append-le, take_all}
use Rattle.std.proofs.lemmas.List.Sums.{fold-append}
use Rattle.std.proofs.Math.Seq.{drop-append_seam}
use Rattle.tally.specs.declared.rows.Head.{Head}
use Rattle.tally.specs.Slots.{head_of, held, room}
use Rattle.tally.specs.Steps.{empty, run, step}
use Rattle.tally.proofs.Stepping.{held_stepped}
use Rattle.layout.specs.Slots.{all_rows, Shape, rows_at}
use Rattle.layout.specs.Blocks.{Stretch, first, size, slot_of}
use Rattle.layout.specs.Laws.{IsBlock, IsVisit}
use Rattle.layout.proofs.SlotsOfBlocks.{rows_filled, same_turn}
use Rattle.ladder.specs.Tables.{stepped_at, empty_head, HasRoom, head_at, put_tables, rows_of, Tables}
use Rattle.ladder.specs.Truth.{Holds, HoldsTallies, IsNewest, keys_of, block_tally}
use Rattle.ladder.proofs.Rooms.{slot_lies}
use Rattle.ladder.proofs.Visits.{put_leaves, put_steps}

-- the keys of a block when one key more has come
module _ {K : Type 0} (arrivals : List K) (key : K) (b : Stretch) where
  keys_begun : first b ≡ length arrivals → keys_of (arrivals ++ key ∷ []) b ≡ key ∷ []
  keys_begun now =
      let some = pow_pos (b.scale + b.level) in
      ap (λ n. take (size b) (drop n (arrivals ++ key ∷ []))) now ∙ ap (take (size b)) (drop-append_seam arrivals (key ∷ [])) ∙ take_all (size b) (key ∷ []) (omega arith)

  keys_more : first b ≤ length arrivals → length arrivals < first b + size b → keys_of (arrivals ++ key ∷ []) b ≡ keys_of arrivals b ++ key ∷ []
  keys_more from below =
      let left = length-drop (first b) arrivals in
      ap (take (size b)) (drop-append-le (first b) arrivals (key ∷ []) from)
      ∙ take_all (size b) (drop (first b) arrivals ++ key ∷ []) (omega (arith, left, length_push (drop (first b) arrivals) key))
      ∙ ap (λ xs. xs ++ key ∷ []) (sym (take_all (size b) (drop (first b) arrivals) (omega (arith, left))))

  keys_same : first b + size b ≤ length arrivals → keys_of (arrivals ++ key ∷ []) b ≡ keys_of arrivals b
  keys_same complete =
      ap (take (size b)) (drop-append-le (first b) arrivals (key ∷ []) (omega arith))
      ∙ take-append-le (size b) (drop (first b) arrivals) (key ∷ []) (omega (arith, length-drop (first b) arrivals))

module _ {K : Type 0} (alike : K → K → Bool) (shape : Shape) (few : all_rows shape < 4294967296) (arrivals : List K) (key : K) (t : Tables K) (room_for_all : HasRoom shape t.rows t.heads) (holds : HoldsTallies alike shape t arrivals) where
  -- a block that is newest now was newest before, if it had begun
  newest_before : (b : Stretch) → IsNewest shape (length (arrivals ++ key ∷ [])) b → first b < length arrivals → IsNewest shape (length arrivals) b
  newest_before b newest begun = record { there = newest.there; begun = begun; newest = λ c isc same started. newest.newest c isc same (omega (arith, started, length_push arrivals key)) }

  module _ (b : Stretch) (is : IsBlock shape b) where
    room_is : room (rows_of t b) ≡ rows_at b.top b.level
    room_is =
        let lies = slot_lies shape t.rows t.heads room_for_all b is in
        omega (arith, (rows_filled shape).within b is, length-take (slot_of b).rows (drop (slot_of b).start t.rows), length-drop (slot_of b).start t.rows, lies.rows_there)

    -- what the step makes of the slot
    counted_is : (before : Head) (keys : List K) → (if first b == length arrivals then empty_head else head_at t b) ≡ before → held (rows_of t b) before ≡ run alike (rows_at b.top b.level) keys
        → stepped_at alike (length arrivals) key t b ≡ run alike (rows_at b.top b.level) (keys ++ key ∷ [])
    counted_is before keys found told =
        (λ i. step alike (room_is i) (held (rows_of t b) (found i)) key)
        ∙ ap (λ s. step alike (rows_at b.top b.level) s key) told
        ∙ sym (fold-append (step alike (rows_at b.top b.level)) empty keys (key ∷ []))

    -- the slot of a block that the arrival falls into, if the step makes the right tally
    visited_holds : first b ≤ length arrivals → length arrivals < first b + size b → stepped_at alike (length arrivals) key t b ≡ block_tally alike (arrivals ++ key ∷ []) b
        → Holds (put_tables alike (length arrivals) key shape t) b (block_tally alike (arrivals ++ key ∷ []) b)
    visited_holds from below right =
        let stepped = put_steps alike (length arrivals) key shape t room_for_all b (record { there = is; from = from; below = below }) in
        (held_stepped alike (rows_of t b) _ (if first b == length arrivals then empty_head else head_at t b) _ key stepped.0 stepped.1 ∙ right, stepped.1 ∙ ap head_of right)

  -- the block begins with this arrival
  begun_now : (b : Stretch) → IsBlock shape b → first b ≡ length arrivals → Holds (put_tables alike (length arrivals) key shape t) b (block_tally alike (arrivals ++ key ∷ []) b)
  begun_now b is now =
      let none : min 0 (room (rows_of t b)) ≡ 0 = omega arith in
      let cleared : held (rows_of t b) empty_head ≡ empty = λ i. record { rows = take (none i) (rows_of t b); lost = 0 } in
      visited_holds b is (omega arith) (omega (arith, pow_pos (b.scale + b.level)))
      (counted_is b is empty_head [] (grind (arith, nat_tests)) cleared ∙ ap (run alike (rows_at b.top b.level)) (sym (keys_begun arrivals key b now)))

  -- it goes on with it
  goes_on : (b : Stretch) → IsNewest shape (length (arrivals ++ key ∷ [])) b → first b < length arrivals → length arrivals < first b + size b → Holds (put_tables alike (length arrivals) key shape t) b (block_tally alike (arrivals ++ key ∷ []) b)
  goes_on b newest begun below =
      visited_holds b newest.there (omega arith) below
      (counted_is b newest.there (head_at t b) (keys_of arrivals b) (grind (arith, nat_tests)) (holds b (newest_before b newest begun)).0
      ∙ ap (run alike (rows_at b.top b.level)) (sym (keys_more arrivals key b (omega arith) below)))

  -- it ended before
  ended : (b : Stretch) → IsNewest shape (length (arrivals ++ key ∷ [])) b → first b + size b ≤ length arrivals → Holds (put_tables alike (length arrivals) key shape t) b (block_tally alike (arrivals ++ key ∷ []) b)
  ended b newest complete =
      let some = pow_pos (b.scale + b.level) in
      let apart : (c : Stretch) → IsVisit shape (length arrivals) c → slot_of c ≡ slot_of b → ⊥ =
      λ c v e.
      let same = same_turn shape b c newest.there v.there e in
      let wide : size c ≡ size b = λ i. 2 ^ (same.0 i + same.1 i) in
      omega (arith, newest.newest c v.there e (omega (arith, v.from, length_push arrivals key)), v.below, wide) in
      let kept = put_leaves alike (length arrivals) key shape t room_for_all b newest.there apart in
      let before = holds b (newest_before b newest (omega arith)) in
      let same_tally = ap (run alike (rows_at b.top b.level)) (sym (keys_same arrivals key b complete)) in
      ((λ i. held (kept.0 i) (kept.1 i)) ∙ before.0 ∙ same_tally, kept.1 ∙ before.1 ∙ ap head_of same_tally)

  pub put_holds : HoldsTallies alike shape (put_tables alike (length arrivals) key shape t) (arrivals ++ key ∷ [])
  put_holds b newest = ⊎_elim
      (λ (below : length arrivals < first b + size b). ⊎_elim
      (λ (now : first b ≡ length arrivals). begun_now b newest.there now)
      (λ (ne : first b ≡ length arrivals → ⊥). goes_on b newest (omega (arith, newest.begun, length_push arrivals key)) below)
      (cases_eq (first b) (length arrivals)))
      (λ (complete : first b + size b ≤ length arrivals). ended b newest complete)
      (cases_lt (length arrivals) (first b + size b))
