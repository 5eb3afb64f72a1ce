-- A trace of a keeper and its windows, under way and at its end. Assumes nothing.
use Rattle.std.proofs.Common.{◌≡◌, ℕ, Bool, List, [], ◌∷◌, ◌++◌, length, take, drop, sym, ap, subst}
use Rattle.tally.specs.declared.rows.Head.{Head}
use Rattle.tally.specs.declared.rows.Row.{Row}
use Rattle.keeper.specs.declared.entry.Entry.{Entry}
use Rattle.keeper.specs.declared.lengths.Lengths.{Lengths}
use Rattle.keeper.specs.Figures.{Figures}
use Rattle.traces.specs.declared.calls.Answer.{Answer}
use Rattle.traces.specs.declared.calls.Call.{Call}
use Rattle.traces.specs.declared.stage.Stage.{Stage}
use Rattle.traces.specs.Account.{Account, State, Terms, blank}
use Rattle.traces.specs.Determined.{AllExact, Determined, Gives}
use Rattle.traces.specs.Model.{Conform, Meets, due, next, told_as}
use Rattle.traces.specs.Sequences.{AllMeet}
use Rattle.traces.specs.Steps.{Steps}
use Rattle.traces.specs.Stages.{Follows, Place, keeper_of, terms_at, written}
use Rattle.traces.specs.Traces.{Came, Performed}
use Rattle.traces.proofs.Exact.{given_at}
use Rattle.traces.proofs.Progress.{SoFar, all_meet_weaker, came_more, so_far_step}

module _ {P K : Type 0} (figures : P → Figures) (holds : P → List (Row K) → List Head → List K → List K → Type 0) (need : ℕ → ℕ → Lengths) (alike : K → K → Bool)
    (bracket : P → List (Row K) → List Head → K → ℕ × ℕ) (listing : P → List (Row K) → List Head → ℕ → List (Entry K)) where
  -- one call, wherever a trace has come to: it does what is due
  pub step_due : {t : Terms} {a : Account K} {s s' : Stage P} {rows rows' : List (Row K)} {heads heads' : List Head} {list list' : List (Entry K)} {call : Call K} {answer : Answer ℕ}
      → Steps figures holds need alike bracket listing s rows heads list call s' answer rows' heads' list' → Follows figures holds need t a s rows heads
      → Meets alike t a (length list) (due t a call) (told_as (λ count. take count list') answer) × Follows figures holds need t (next t a call) s' rows' heads'
  step_due {a} {s} {s'} {rows} {rows'} {heads} {heads'} {list} {list'} {call} {answer} e st =
      let goes : Terms → State → Type 0 = λ terms state.
      let b : Account K = record { state = state; past = a.past; window = a.window } in
      Meets alike terms b (length list) (due terms b call) (told_as (λ count. take count list') answer) × Follows figures holds need terms (next terms b call) s' rows' heads' in
      subst (λ terms. goes terms a.state) st.terms
      (subst (goes (terms_at figures need (keeper_of s) rows heads)) st.state (e.goes a.past a.window st.true_to))

  module _ (t : Terms) where
    -- an answer is the one that is due, and gives exactly what follows, by whatever functions the keeper's follow by
    abbrev pub RightAndExact : ℕ → Account K → Call K → Answer (List (Entry K)) → Type 0
    RightAndExact room a call answer =
        Meets alike t a room (due t a call) answer
        × ((counts : ℕ → ℕ → List K → List K → K → ℕ × ℕ) (lists : ℕ → ℕ → List K → List K → ℕ → List (Entry K)) → Determined figures holds bracket listing counts lists
        → Gives (counts t.accuracy t.span a.past a.window) (lists t.accuracy t.span a.past a.window) call answer)

    -- and gives exactly what follows
    pub step_at : {a : Account K} {s s' : Stage P} {rows rows' : List (Row K)} {heads heads' : List Head} {list list' : List (Entry K)} {call : Call K} {answer : Answer ℕ}
        → Steps figures holds need alike bracket listing s rows heads list call s' answer rows' heads' list' → Follows figures holds need t a s rows heads
        → RightAndExact (length list) a call (told_as (λ count. take count list') answer) × Follows figures holds need t (next t a call) s' rows' heads'
    step_at {a} {s} {rows} {heads} {list} {call} e st =
        let met = step_due e st in
        let given = given_at figures holds need alike bracket listing in
        ((met.0, λ counts lists determined. given counts lists determined t a s rows heads st (length list) call _ met.0 e.gives), met.1)

    pub right_and_exact : (room : ℕ) (a : Account K) (calls : List (Call K)) (answers : List (Answer (List (Entry K)))) → AllMeet (next t) (RightAndExact room) a calls answers
        → Conform alike t room a calls answers × AllExact figures holds bracket listing t a calls answers
    right_and_exact room a calls answers all = (
      all_meet_weaker (next t) (RightAndExact room) (λ a call answer met. met.0) a calls answers all,
      λ counts lists determined. all_meet_weaker (next t) (RightAndExact room) (λ a call answer met. met.1 counts lists determined) a calls answers all,
    )

    -- how far a trace has come, on these tables and with this list
    abbrev Told : List (Row K) → List Head → List (Entry K) → List (Call K) → List (Answer (List (Entry K))) → Place P K → Type 0
    Told rows heads list calls answers p = SoFar (next t) (RightAndExact (length list)) (Follows figures holds need t) written t.need blank rows heads list calls p.stage answers p.rows p.heads p.list

    -- and the calls themselves
    abbrev pub TraceSoFar : List (Row K) → List Head → List (Entry K) → List (Call K) → List (Answer (List (Entry K))) → Place P K → Type 0
    TraceSoFar rows heads list calls answers p =
        Told rows heads list calls answers p × Came figures holds (Performed figures holds need alike bracket listing) t.accuracy t.span calls rows heads list answers p

    pub trace_step : {rows : List (Row K)} {heads : List Head} {list : List (Entry K)} {calls : List (Call K)} {answers : List (Answer (List (Entry K)))} {p : Place P K} → TraceSoFar rows heads list calls answers p
        → (q : Place P K) (call : Call K) (answer : Answer (List (Entry K))) → Performed figures holds need alike bracket listing p call answer q → length q.list ≡ length p.list
        → TraceSoFar rows heads list (calls ++ call ∷ []) (answers ++ answer ∷ []) q
    trace_step {p} h q call answer e room =
        let step = e.1 in
        let met = step_at step h.0.stands in
        let same_need = ap (λ terms. terms.need) h.0.stands.terms in (
          rw e.2 (so_far_step h.0 (rw (sym h.0.room) met.0) met.1 step.list_after room
              (subst (λ n. drop n.rows q.rows ≡ drop n.rows p.rows) same_need step.rows_rest)
              (subst (λ n. drop n.heads q.heads ≡ drop n.heads p.heads) same_need step.heads_rest)),
          came_more figures holds (Performed figures holds need alike bracket listing) h.1 q call answer e,
        )
