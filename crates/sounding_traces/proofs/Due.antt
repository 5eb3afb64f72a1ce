-- A keeper's verdict, as a call of a trace. Assumes nothing.
use Rattle.std.proofs.Common.{◌≡◌, ℕ, Bool, true, false, List, length, Ok, Err, Result, refl, sym, ap, ◌∙◌, subst}
use Rattle.likeness.specs.Counts.{truly_short}
use Rattle.likeness.specs.declared.sounding.SoundingKey.{SoundingKey}
use Rattle.tally.specs.declared.rows.Head.{Head}
use Rattle.tally.specs.declared.rows.Row.{Row}
use Rattle.keeper.specs.declared.entry.Entry.{Entry}
use Rattle.keeper.specs.declared.lengths.Lengths.{Lengths}
use Rattle.keeper.specs.Figures.{Figures}
use Rattle.keeper.specs.Tables.{short}
use Rattle.verdicts.specs.declared.judgement.Judgement.{Judgement}
use Rattle.verdicts.specs.declared.refusal.VerdictRefusal.{VerdictRefusal}
use Rattle.verdicts.specs.Refusals.{answer_by, is_class, verdict_answer}
use Rattle.verdicts.specs.Rules.{IsRight}
use Rattle.verdicts.specs.Rules as verdicts
use Rattle.verdicts.specs.Verdicts.{judged, sums_below}
use Rattle.traces.specs.declared.stage.Stage.{Stage}
use Rattle.traces.specs.Account.{Account, Terms}
use Rattle.traces.specs.Determined.{Determined}
use Rattle.traces.specs.Stages.{Follows, keeper_of}
use Rattle.sounding_traces.specs.declared.calls.SoundingAnswer.TheVariants.{Judged}
use Rattle.sounding_traces.specs.declared.calls.SoundingCall.TheVariants.{Ask}
use Rattle.sounding_traces.specs.Model.{Gives, VerdictRight, admitted}

module _ {P : Type 0} (figures : P → Figures) (holds : P → List (Row SoundingKey) → List Head → List SoundingKey → List SoundingKey → Type 0) (need : ℕ → ℕ → Lengths)
    (bracket : P → List (Row SoundingKey) → List Head → SoundingKey → ℕ × ℕ) (listing : P → List (Row SoundingKey) → List Head → ℕ → List (Entry SoundingKey))
    (t : Terms) (a : Account SoundingKey) (s : Stage P) (rows : List (Row SoundingKey)) (heads : List Head) (sounder : List ℕ) (class : ℕ) where
  -- what the keeper says in a window of n keys
  abbrev own : ℕ → Judgement
  own n = judged n (sums_below (bracket (keeper_of s) rows heads) sounder class)

  abbrev Right : ℕ → Judgement → Type 0
  Right accuracy j = IsRight accuracy (length a.window) (truly_short a.window sounder class) class j

  -- what is given is the keeper's own
  abbrev Own : Result Judgement VerdictRefusal → Type 0
  Own r = (j : Judgement) → r ≡ Ok j → j ≡ own (length a.window)

  -- refused for the tables, refused for the class, or given
  by_cases : (short there : Bool) (r : Result Judgement VerdictRefusal) → answer_by short there tt ≡ admitted t class → r ≡ answer_by short there (own (length a.window))
      → ((j : Judgement) → r ≡ Ok j → Right t.accuracy j) → VerdictRight t a sounder class r × Own r
  by_cases true there r admits e right = rw e (sym admits, λ j given. cc)
  by_cases false true r admits e right = rw e ((sym admits, refl, right (own (length a.window)) e), λ j given. cc)
  by_cases false false r admits e right = rw e (sym admits, λ j given. cc)

  -- wherever the account is followed, the keeper's verdict is due
  pub verdict_due : (r : Result Judgement VerdictRefusal) → Follows figures holds need t a s rows heads → verdicts.Judged figures holds need bracket (keeper_of s) rows heads sounder class r
      → VerdictRight t a sounder class r × Own r
  verdict_due r st j =
      let n = (figures (keeper_of s)).size in
      let answer : r ≡ verdict_answer t.need t.lent class (own (length a.window)) =
      j.answer ∙ ap (λ terms. verdict_answer terms.need terms.lent class (own n)) st.terms ∙ ap (λ n. verdict_answer t.need t.lent class (own n)) st.true_to.size in
      by_cases (short t.need t.lent) (is_class class) r refl answer
      (λ said given. subst (λ terms. Right terms.accuracy said) st.terms (j.right said given a.past a.window st.true_to))

  -- and follows from the account, where the keeper's counts do
  module _ (counts : ℕ → ℕ → List SoundingKey → List SoundingKey → SoundingKey → ℕ × ℕ) (lists : ℕ → ℕ → List SoundingKey → List SoundingKey → ℕ → List (Entry SoundingKey)) (determined : Determined figures holds bracket listing counts lists)
      (st : Follows figures holds need t a s rows heads) where
    counted : (key : SoundingKey) → bracket (keeper_of s) rows heads key ≡ counts t.accuracy t.span a.past a.window key
    counted key = determined.counted (keeper_of s) rows heads a.past a.window st.true_to key ∙ ap (λ terms. counts terms.accuracy terms.span a.past a.window key) st.terms

    pub verdict_exact : (r : Result Judgement VerdictRefusal) → Own r → Gives (counts t.accuracy t.span a.past a.window) (lists t.accuracy t.span a.past a.window) (length a.window) (Ask sounder class) (Judged r)
    verdict_exact (Ok j) own = own j refl ∙ (λ i. judged (length a.window) (sums_below (λ key. counted key i) sounder class))
    verdict_exact (Err e) own = tt
