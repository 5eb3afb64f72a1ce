-- A keeper's list, as a call of a trace. Assumes nothing.
use Rattle.std.proofs.Common.{◌≡◌, ℕ, ◌≤◌, ◌*◌, ◌^◌, Bool, true, false, if◌then◌else◌, nat_lt, ◌||◌, ◌==◌, List, take, drop, length, is_ok, Ok, Err, Result, refl, sym, ap, ◌∙◌, subst, arith}
use Rattle.std.proofs.Math.Seq.{take-append_seam}
use Rattle.std.proofs.lemmas.Bool.Decides.{nat_tests}
use Rattle.tally.specs.Slots.{over}
use Rattle.tally.specs.declared.rows.Head.{Head}
use Rattle.tally.specs.declared.rows.Row.{Row}
use Rattle.keeper.specs.declared.entry.Entry.{Entry}
use Rattle.keeper.specs.declared.lengths.Lengths.{Lengths}
use Rattle.keeper.specs.declared.refusal.Refusal.{Refusal}
use Rattle.keeper.specs.declared.refusal.Refusal.TheVariants.{ShortTable, ShortList, Threshold}
use Rattle.keeper.specs.Figures.{Figures}
use Rattle.keeper.specs.Refusals.{question_answer, unfit}
use Rattle.keeper.specs.Rules.{Listed, Lists}
use Rattle.keeper.specs.Tables.{short}
use Rattle.traces.specs.declared.calls.Call.TheVariants.{List as ListAt}
use Rattle.traces.specs.declared.stage.Stage.{Stage}
use Rattle.traces.specs.Account.{Account, State, Terms, figures_of, filling, keeping, sliding}
use Rattle.traces.specs.Determined.{Gives}
use Rattle.traces.specs.Model.{Meets, asked, due_in, list_at, next_by, told_as, unless_refused}
use Rattle.traces.specs.Steps.{Fits, Steps, listed_by}
use Rattle.traces.specs.Stages.{keeper_of, state_of, terms_at, written}

-- The list before and now, and the entries that the keeper means.
module _ {K : Type 0} (before now entries : List (Entry K)) where
  -- what a list answers: too short a table, too low a threshold, too little room, or the entries
  abbrev answered : Bool → Bool → Bool → Result ℕ Refusal
  answered short unfit full =
      if short then Err ShortTable
      else if unfit then Err Threshold
      else if full then Err ShortList
      else Ok (length entries)

  module _ (r : Result ℕ Refusal) (writes : is_ok r ≡ true → now ≡ over entries before) (kept : is_ok r ≡ false → now ≡ before) where
    -- the entries stand at the front of the list, if it was accepted
    at_front : r ≡ Ok (length entries) → take (length entries) now ≡ entries
    at_front e = ap (take (length entries)) (writes (ap is_ok e)) ∙ take-append_seam entries (drop (length entries) before)

    list_written : (short unfit full : Bool) → full ≡ nat_lt (length before) (length entries) → r ≡ answered short unfit full
        → Fits (length before) (listed_by r) × (now ≡ written before (told_as (λ count. take count now) (listed_by r)))
    list_written true unfit full room e = rw e (tt, kept (ap is_ok e))
    list_written false true full room e = rw e (tt, kept (ap is_ok e))
    list_written false false true room e = rw e (tt, kept (ap is_ok e))
    list_written false false false room e = rw e (grind (arith, nat_tests), writes (ap is_ok e) ∙ ap (λ es. over es before) (sym (at_front e)))

    list_gives : (bracket : K → ℕ × ℕ) (threshold : ℕ) (short unfit full : Bool) → r ≡ answered short unfit full
        → Gives bracket (λ any. entries) (ListAt threshold) (told_as (λ count. take count now) (listed_by r))
    list_gives bracket threshold true unfit full e = rw e tt
    list_gives bracket threshold false true full e = rw e tt
    list_gives bracket threshold false false true e = rw e tt
    list_gives bracket threshold false false false e = rw e (at_front e)

    list_right : (alike : K → K → Bool) (t : Terms) (a : Account K) (threshold : ℕ) (short unfit full : Bool) → full ≡ nat_lt (length before) (length entries) → r ≡ answered short unfit full
        → (unfit ≡ false → Lists alike t.accuracy threshold a.window entries)
        → Meets alike t a (length before) (unless_refused (if short then Err ShortTable else if unfit then Err Threshold else Ok tt) (list_at threshold)) (told_as (λ count. take count now) (listed_by r))
    list_right alike t a threshold true unfit full room e right = rw e refl
    list_right alike t a threshold false true full room e right = rw e refl
    list_right alike t a threshold false false true room e right = rw e (refl, (entries, grind (arith, nat_tests), right refl))
    list_right alike t a threshold false false false room e right =
        rw e (subst (λ es. (length es ≤ length before) × Lists alike t.accuracy threshold a.window es) (sym (at_front e)) (grind (arith, nat_tests), right refl))

module _ {K : Type 0} where
  -- every state has lists
  pub asked_list : (s : State) (t : Terms) (a : Account K) (threshold : ℕ) → due_in s t a (ListAt threshold) ≡ asked t a (ListAt threshold)
  asked_list keeping t a threshold = refl
  asked_list (filling goal) t a threshold = refl
  asked_list (sliding goal) t a threshold = refl

  -- a question leaves the account as it is
  next_list : (a : Account K) (r : Result (Unit {0}) Refusal) (threshold : ℕ) → next_by a (unless_refused r (list_at threshold)) ≡ a
  next_list a (Ok done) threshold = refl
  next_list a (Err e) threshold = refl

module _ {P K : Type 0} (figures : P → Figures) (holds : P → List (Row K) → List Head → List K → List K → Type 0) (need : ℕ → ℕ → Lengths) (alike : K → K → Bool)
    (bracket : P → List (Row K) → List Head → K → ℕ × ℕ) (listing : P → List (Row K) → List Head → ℕ → List (Entry K)) where
  pub steps_list : (s : Stage P) (rows : List (Row K)) (heads : List Head) (before now : List (Entry K)) (threshold : ℕ) (r : Result ℕ Refusal)
      → Listed figures holds need alike bracket listing (keeper_of s) rows heads threshold before r now
      → Steps figures holds need alike bracket listing s rows heads before (ListAt threshold) s (listed_by r) rows heads now
  steps_list s rows heads before now threshold r e =
      let p = keeper_of s in
      let t = terms_at figures need p rows heads in
      let entries = listing p rows heads threshold in
      let after = list_written before now entries r e.written e.kept (short t.need t.lent) (unfit (figures p) threshold) _ refl e.answer in
      record {
        goes = λ past window true_to.
            let a : Account K = record { state = state_of s; past = past; window = window } in
            let same : unfit (figures p) threshold ≡ unfit (figures_of t a) threshold = ap (λ n. threshold == 0 || nat_lt (threshold * 2 ^ (figures p).accuracy) n) true_to.size in
            rw (asked_list (state_of s) t a threshold) (rw (next_list a (question_answer t.need t.lent (figures_of t a) threshold (Ok tt)) threshold) (
              list_right before now entries r e.written e.kept alike t a threshold (short t.need t.lent) (unfit (figures_of t a) threshold) _ refl
                  (e.answer ∙ ap (λ low. answered before now entries (short t.need t.lent) low (nat_lt (length before) (length entries))) same)
                  (λ fit. e.right (same ∙ fit) past window true_to),
              record { state = refl; terms = refl; true_to = true_to },
            ));
        gives = list_gives before now entries r e.written e.kept (bracket p rows heads) threshold (short t.need t.lent) (unfit (figures p) threshold) _ e.answer;
        kept = λ told. (refl, refl, refl);
        fits = after.0;
        list_after = after.1;
        rows_rest = refl;
        heads_rest = refl;
      }
