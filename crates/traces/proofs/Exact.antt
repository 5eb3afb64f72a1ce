-- Exactly which counts and lists a call gives, where the keeper's follow from past and window. Assumes nothing.
use Rattle.std.proofs.Common.{◌≡◌, ℕ, Bool, true, false, if◌then◌else◌, List, Ok, Err, refl, ap, ◌∙◌, subst}
use Rattle.tally.specs.declared.rows.Head.{Head}
use Rattle.tally.specs.declared.rows.Row.{Row}
use Rattle.keeper.specs.declared.entry.Entry.{Entry}
use Rattle.keeper.specs.declared.lengths.Lengths.{Lengths}
use Rattle.keeper.specs.declared.refusal.Refusal.TheVariants.{ShortTable, Threshold}
use Rattle.keeper.specs.Figures.{Figures}
use Rattle.keeper.specs.Refusals.{unfit}
use Rattle.keeper.specs.Tables.{short}
use Rattle.traces.specs.declared.calls.Answer.{Answer}
use Rattle.traces.specs.declared.calls.Answer.TheVariants.{Counted, Listed}
use Rattle.traces.specs.declared.calls.Call.{Call}
use Rattle.traces.specs.declared.calls.Call.TheVariants.{Count, List as ListAt}
use Rattle.traces.specs.declared.stage.Stage.{Stage}
use Rattle.traces.specs.Account.{Account, Terms, figures_of}
use Rattle.traces.specs.Determined.{Determined, Gives}
use Rattle.traces.specs.Model.{Meets, due, list_at, unless_refused}
use Rattle.traces.specs.Stages.{Follows, keeper_of}
use Rattle.traces.proofs.Listed.{asked_list}

-- a list is answered only where the threshold is fit
fit_listed : {K : Type 0} (alike : K → K → Bool) (t : Terms) (a : Account K) (room threshold : ℕ) (entries : List (Entry K)) (short unfit : Bool)
    → Meets alike t a room (unless_refused (if short then Err ShortTable else if unfit then Err Threshold else Ok tt) (list_at threshold)) (Listed entries)
    → unfit ≡ false
fit_listed alike t a room threshold entries true unfit met = cc
fit_listed alike t a room threshold entries false true met = cc
fit_listed alike t a room threshold entries false false met = refl

module _ {P K : Type 0} (figures : P → Figures) (holds : P → List (Row K) → List Head → List K → List K → Type 0) (need : ℕ → ℕ → Lengths) (alike : K → K → Bool)
    (bracket : P → List (Row K) → List Head → K → ℕ × ℕ) (listing : P → List (Row K) → List Head → ℕ → List (Entry K))
    (counts : ℕ → ℕ → List K → List K → K → ℕ × ℕ) (lists : ℕ → ℕ → List K → List K → ℕ → List (Entry K)) (determined : Determined figures holds bracket listing counts lists)
    (t : Terms) (a : Account K) (s : Stage P) (rows : List (Row K)) (heads : List Head) (st : Follows figures holds need t a s rows heads) where
  -- what a call gives follows from the account
  pub given_at : (room : ℕ) (call : Call K) (answer : Answer (List (Entry K))) → Meets alike t a room (due t a call) answer
      → Gives (bracket (keeper_of s) rows heads) (listing (keeper_of s) rows heads) call answer
      → Gives (counts t.accuracy t.span a.past a.window) (lists t.accuracy t.span a.past a.window) call answer
  given_at room (Count key) (Counted floor ceiling) met given =
      given ∙ determined.counted (keeper_of s) rows heads a.past a.window st.true_to key ∙ ap (λ t. counts t.accuracy t.span a.past a.window key) st.terms
  given_at room (ListAt threshold) (Listed entries) met given =
      let asked = subst (λ due. Meets alike t a room due (Listed entries)) (asked_list a.state t a threshold) met in
      let fit = fit_listed alike t a room threshold entries (short t.need t.lent) (unfit (figures_of t a) threshold) asked in
      let same_accuracy = ap (λ t. t.accuracy) st.terms in
      given ∙ determined.listed (keeper_of s) rows heads a.past a.window st.true_to threshold (rw (st.true_to.size, same_accuracy) fit)
      ∙ ap (λ t. lists t.accuracy t.span a.past a.window threshold) st.terms
  given_at room call answer met given = tt
