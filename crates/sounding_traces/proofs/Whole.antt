-- A trace on soundings, under way and at its end. Assumes nothing.
use Rattle.std.proofs.Common.{◌≡◌, ℕ, List, [], ◌∷◌, ◌++◌, length, drop, refl, sym, ap, subst}
use Rattle.likeness.specs.Agree.{same_sounding}
use Rattle.likeness.specs.declared.sounding.SoundingKey.{SoundingKey}
use Rattle.tally.specs.declared.rows.Head.{Head}
use Rattle.tally.specs.declared.rows.Row.{Row}
use Rattle.keeper.specs.declared.entry.Entry.{Entry}
use Rattle.keeper.specs.declared.lengths.Lengths.{Lengths}
use Rattle.keeper.specs.Figures.{Figures}
use Rattle.traces.specs.Account.{Account, Terms, blank}
use Rattle.traces.specs.Determined.{Determined}
use Rattle.traces.specs.Sequences.{AllMeet}
use Rattle.traces.specs.Stages.{Follows, Place}
use Rattle.traces.specs.Traces.{Came}
use Rattle.traces.proofs.Progress.{SoFar, all_meet_weaker, came_more, so_far_step}
use Rattle.traces.proofs.Whole.{step_at}
use Rattle.sounding_traces.specs.declared.calls.SoundingAnswer.{SoundingAnswer}
use Rattle.sounding_traces.specs.declared.calls.SoundingAnswer.TheVariants.{Answered, Judged}
use Rattle.sounding_traces.specs.declared.calls.SoundingCall.{SoundingCall}
use Rattle.sounding_traces.specs.declared.calls.SoundingCall.TheVariants.{Plain, Ask}
use Rattle.sounding_traces.specs.Model.{AllGive, Conform, Gives, Meets, next}
use Rattle.sounding_traces.specs.Traces.{Performed, written}
use Rattle.sounding_traces.proofs.Due.{verdict_due, verdict_exact}

module _ {P : Type 0} (figures : P → Figures) (holds : P → List (Row SoundingKey) → List Head → List SoundingKey → List SoundingKey → Type 0) (need : ℕ → ℕ → Lengths)
    (bracket : P → List (Row SoundingKey) → List Head → SoundingKey → ℕ × ℕ) (listing : P → List (Row SoundingKey) → List Head → ℕ → List (Entry SoundingKey)) where
  module _ (t : Terms) where
    -- an answer is the one that is due, and gives exactly what follows, by whatever functions the keeper's follow by
    abbrev RightAndExact : ℕ → Account SoundingKey → SoundingCall → SoundingAnswer (List (Entry SoundingKey)) → Type 0
    RightAndExact room a call answer =
        Meets t room a call answer
        × ((counts : ℕ → ℕ → List SoundingKey → List SoundingKey → SoundingKey → ℕ × ℕ) (lists : ℕ → ℕ → List SoundingKey → List SoundingKey → ℕ → List (Entry SoundingKey)) → Determined figures holds bracket listing counts lists
        → Gives (counts t.accuracy t.span a.past a.window) (lists t.accuracy t.span a.past a.window) (length a.window) call answer)

    pub right_and_exact : (room : ℕ) (a : Account SoundingKey) (calls : List SoundingCall) (answers : List (SoundingAnswer (List (Entry SoundingKey)))) → AllMeet (next t) (RightAndExact room) a calls answers
        → Conform t room a calls answers
        × ((counts : ℕ → ℕ → List SoundingKey → List SoundingKey → SoundingKey → ℕ × ℕ) (lists : ℕ → ℕ → List SoundingKey → List SoundingKey → ℕ → List (Entry SoundingKey)) → Determined figures holds bracket listing counts lists
        → AllGive (counts t.accuracy t.span) (lists t.accuracy t.span) t a calls answers)
    right_and_exact room a calls answers all = (
      all_meet_weaker (next t) (RightAndExact room) (λ a call answer met. met.0) a calls answers all,
      λ counts lists determined. all_meet_weaker (next t) (RightAndExact room) (λ a call answer met. met.1 counts lists determined) a calls answers all,
    )

    module _ (rows : List (Row SoundingKey)) (heads : List Head) (list : List (Entry SoundingKey)) where
      -- how far the account and the answers have come, on these tables and with this list
      abbrev Told : List SoundingCall → List (SoundingAnswer (List (Entry SoundingKey))) → Place P SoundingKey → Type 0
      Told calls answers p = SoFar (next t) (RightAndExact (length list)) (Follows figures holds need t) written t.need blank rows heads list calls p.stage answers p.rows p.heads p.list

      -- and the calls themselves
      abbrev pub SoundingsSoFar : List SoundingCall → List (SoundingAnswer (List (Entry SoundingKey))) → Place P SoundingKey → Type 0
      SoundingsSoFar calls answers p = Told calls answers p × Came figures holds (Performed figures holds need bracket listing) t.accuracy t.span calls rows heads list answers p

      told_more : (calls : List SoundingCall) (answers : List (SoundingAnswer (List (Entry SoundingKey)))) (call : SoundingCall) (answer : SoundingAnswer (List (Entry SoundingKey))) (p q : Place P SoundingKey)
          → Told calls answers p → Performed figures holds need bracket listing p call answer q → length q.list ≡ length p.list → Told (calls ++ call ∷ []) (answers ++ answer ∷ []) q
      told_more calls answers (Plain call) (Answered answer) p q h e room =
          let st = h.stands in
          let step = e.1 in
          let met = step_at figures holds need same_sounding bracket listing t step st in
          let same_need = ap (λ terms. terms.need) st.terms in
          rw e.2 (so_far_step h (rw (sym h.room) met.0.0, met.0.1) met.1 step.list_after room
          (subst (λ n. drop n.rows q.rows ≡ drop n.rows p.rows) same_need step.rows_rest)
          (subst (λ n. drop n.heads q.heads ≡ drop n.heads p.heads) same_need step.heads_rest))
      told_more calls answers (Ask sounder class) (Judged r) p q h e room =
          let st = h.stands in
          let due = verdict_due figures holds need bracket listing t _ p.stage p.rows p.heads sounder class r st e.0 in
          rw e.1 (so_far_step h
          (due.0, λ counts lists determined. verdict_exact figures holds need bracket listing t _ p.stage p.rows p.heads sounder class counts lists determined st r due.1)
          st refl refl refl refl)
      told_more calls answers (Plain call) (Judged r) p q h e room = absurd e
      told_more calls answers (Ask sounder class) (Answered answer) p q h e room = absurd e

      pub soundings_step : {calls : List SoundingCall} {answers : List (SoundingAnswer (List (Entry SoundingKey)))} {p : Place P SoundingKey} → SoundingsSoFar calls answers p
          → (q : Place P SoundingKey) (call : SoundingCall) (answer : SoundingAnswer (List (Entry SoundingKey))) → Performed figures holds need bracket listing p call answer q → length q.list ≡ length p.list
          → SoundingsSoFar (calls ++ call ∷ []) (answers ++ answer ∷ []) q
      soundings_step {calls} {answers} {p} h q call answer e room = (
        told_more calls answers call answer p q h.0 e room,
        came_more figures holds (Performed figures holds need bracket listing) h.1 q call answer e,
      )
