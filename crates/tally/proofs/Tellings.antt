-- A tally tells the truth of the keys that came. Of the laws of a likeness, symmetry and transitivity are used.
use Rattle.std.proofs.Common.{◌≡◌, ℕ, ◌+◌, ◌<◌, ◌≤◌, Bool, true, false, cond, List, [], ◌∷◌, ◌++◌, length, fold, refl, add-mul, mul-add, arith}
use Rattle.std.specs.List.{All, Contains}
use Rattle.std.proofs.lemmas.List.{append-nil, append_assoc, length_push}
use Rattle.std.proofs.lemmas.List.Sums.{sum_by_push}
use Rattle.std.proofs.lemmas.List.Elements.{All-nil, All-push, All-weaker, Contains-append_left, Contains-push}
use Rattle.likeness.specs.Counts.{true_count}
use Rattle.tally.specs.declared.rows.Row.{Row}
use Rattle.tally.specs.Steps.{Summary, empty, up, entered, known, risen, fallen, rise, enter, fall, step, run}
use Rattle.tally.specs.Laws.{Tells}
use Rattle.tally.proofs.Changes.{total, length_fallen, total_fallen, all_fallen, counted_fallen, length_risen, total_risen, all_risen, unlike_risen, unlike_push, unlike_fallen, step_ways, count_none, count_same, count_risen, count_push, count_fallen}

-- what holds of the keys when one more has come
true_count_push : {K : Type 0} (alike : K → K → Bool) (keys : List K) (x k : K) → true_count alike (keys ++ x ∷ []) k ≡ true_count alike keys k + cond (alike x k) 1 0
true_count_push alike keys x k = sum_by_push (λ y. cond (alike y k) 1 0) keys x

came_more : {K : Type 0} (keys : List K) (x : K) (rows : List (Row K)) → All (λ row. Contains keys row.key) rows → All (λ row. Contains (keys ++ x ∷ []) row.key) rows
came_more keys x rows came = All-weaker _ _ (λ row. Contains-append_left keys (x ∷ []) row.key) rows came

module _ {K : Type 0} (alike : K → K → Bool)
    (symm : (x y : K) → alike x y ≡ true → alike y x ≡ true)
    (tran : (x y z : K) → alike x y ≡ true → alike y z ≡ true → alike x z ≡ true) where
  -- x comes to a tally that is true to the keys before it: one lemma for each of the three ways
  module _ (room : ℕ) (keys : List K) (t : Summary K) (x : K) (small : length keys < 4294967295) (told : Tells alike room keys t) where
    rise_tells : known alike t.rows x ≡ true → Tells alike room (keys ++ x ∷ []) (rise alike t x)
    rise_tells old =
        let fits : total t.rows < 4294967295 = omega arith in
        record {
          whole = omega (arith, length_push keys x, total_risen alike t.rows x old fits);
          floor = λ k. omega (arith, told.floor k, true_count_push alike keys x k, count_risen alike symm tran t.rows x k old fits);
          ceiling = λ k. omega (arith, told.ceiling k, true_count_push alike keys x k, count_risen alike symm tran t.rows x k old fits);
          few = omega (arith, length_risen alike t.rows x);
          unlike = unlike_risen alike t.rows x told.unlike;
          counted = all_risen alike (λ row. 1 ≤ row.count) t.rows x (λ _ _. omega arith) told.counted;
          came = all_risen alike (λ row. Contains (keys ++ x ∷ []) row.key) t.rows x (λ _ has. has) (came_more keys x t.rows told.came);
          same = count_same alike symm tran (risen alike t.rows x);
        }

    enter_tells : known alike t.rows x ≡ false → length t.rows < room → Tells alike room (keys ++ x ∷ []) (enter t x)
    enter_tells new free = record {
      whole = omega (arith, length_push keys x, sum_by_push (λ (row : Row K). row.count) t.rows (entered x));
      floor = λ k. omega (arith, told.floor k, true_count_push alike keys x k, count_push alike symm tran t.rows x k new);
      ceiling = λ k. omega (arith, told.ceiling k, true_count_push alike keys x k, count_push alike symm tran t.rows x k new);
      few = omega (arith, length_push t.rows (entered x));
      unlike = unlike_push alike t.rows x new told.unlike;
      counted = All-push (λ row. 1 ≤ row.count) t.rows (entered x) told.counted (omega arith);
      came = All-push (λ row. Contains (keys ++ x ∷ []) row.key) t.rows (entered x) (came_more keys x t.rows told.came) (Contains-push keys x);
      same = count_same alike symm tran (t.rows ++ entered x ∷ []);
    }

    fall_tells : known alike t.rows x ≡ false → room ≤ length t.rows → Tells alike room (keys ++ x ∷ []) (fall t)
    fall_tells new full =
        let more : up t.lost ≡ t.lost + 1 = omega (arith, mul-add t.lost room 1) in
        record {
          whole = rw more (omega (arith, length_push keys x, total_fallen t.rows told.counted, add-mul t.lost 1 (room + 1)));
          floor = λ k. omega (arith, told.floor k, true_count_push alike keys x k, count_fallen alike symm tran t.rows k told.unlike);
          ceiling = λ k.
              let before = told.ceiling k in
              let came = true_count_push alike keys x k in
              let fell = count_fallen alike symm tran t.rows k told.unlike in
              let none = count_none alike t.rows x new in
              let same = told.same x k in
              grind arith;
          few = omega (arith, length_fallen t.rows);
          unlike = unlike_fallen alike t.rows told.unlike;
          counted = counted_fallen t.rows;
          came = all_fallen (λ row. Contains (keys ++ x ∷ []) row.key) t.rows (came_more keys x t.rows told.came);
          same = count_same alike symm tran (fallen t.rows);
        }

  pub step_tells : (room : ℕ) (keys : List K) (t : Summary K) (x : K) → length keys < 4294967295 → Tells alike room keys t → Tells alike room (keys ++ x ∷ []) (step alike room t x)
  step_tells room keys t x small told =
      step_ways alike (Tells alike room (keys ++ x ∷ [])) room t x
      (rise_tells room keys t x small told)
      (enter_tells room keys t x small told)
      (fall_tells room keys t x small told)

  -- key after key, from a tally that is true to the keys seen before
  steps_tell : (room : ℕ) (seen : List K) (t : Summary K) (keys : List K) → length seen + length keys < 4294967296 → Tells alike room seen t → Tells alike room (seen ++ keys) (fold (step alike room) t keys)
  steps_tell room seen t [] small told = rw append-nil told
  steps_tell room seen t (x ∷ keys) small told =
      rw append_assoc at (steps_tell room (seen ++ x ∷ []) (step alike room t x) keys (omega (arith, length_push seen x)) (step_tells room seen t x (omega arith) told))

  empty_tells : (room : ℕ) → Tells alike room [] empty
  empty_tells room = record { whole = omega arith; floor = λ _. omega arith; ceiling = λ _. omega arith; few = omega arith; unlike = tt; counted = All-nil _; came = All-nil _; same = λ _ _ _. refl }

  pub run_tells : (room : ℕ) (keys : List K) → length keys < 4294967296 → Tells alike room keys (run alike room keys)
  run_tells room keys small = steps_tell room [] empty keys (omega arith) (empty_tells room)
