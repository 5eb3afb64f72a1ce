-- Exactly which counts and lists are answered, where they follow from the keys that came. Assumes nothing.
use Rattle.std.specs.Prelude.{◌≡◌, ℕ, false, List}
use Rattle.tally.specs.declared.rows.Head.{Head}
use Rattle.tally.specs.declared.rows.Row.{Row}
use Rattle.keeper.specs.declared.entry.Entry.{Entry}
use Rattle.keeper.specs.Figures.{Figures}
use Rattle.keeper.specs.Refusals.{unfit}
use Rattle.keeper.specs.Rules.{TrueTo}
use Rattle.traces.specs.declared.calls.Answer.{Answer}
use Rattle.traces.specs.declared.calls.Answer.TheVariants.{Counted, Listed}
use Rattle.traces.specs.declared.calls.Call.{Call}
use Rattle.traces.specs.declared.calls.Call.TheVariants.{Count, List as ListAt}
use Rattle.traces.specs.Account.{Terms, Account}
use Rattle.traces.specs.Model.{next}
use Rattle.traces.specs.Sequences.{AllMeet}

module _ {K : Type 0} where
  -- a count that is answered has its key's bracket, and a list that is answered its threshold's entries; of other answers nothing is said
  abbrev pub Gives : (K → ℕ × ℕ) → (ℕ → List (Entry K)) → Call K → Answer (List (Entry K)) → Type 0
  Gives bracket listing (Count key) (Counted floor ceiling) = (floor, ceiling) ≡ bracket key
  Gives bracket listing (ListAt threshold) (Listed entries) = entries ≡ listing threshold
  Gives bracket listing call answer = Unit {0}

  -- calls have one answer each, which gives what follows from past and window of the account as it is then
  abbrev pub AllGive : (List K → List K → K → ℕ × ℕ) → (List K → List K → ℕ → List (Entry K)) → Terms → Account K → List (Call K) → List (Answer (List (Entry K))) → Type 0
  AllGive counts lists t a calls answers = AllMeet (next t) (λ a call answer. Gives (counts a.past a.window) (lists a.past a.window) call answer) a calls answers

module _ {P K : Type 0} (figures : P → Figures) (holds : P → List (Row K) → List Head → List K → List K → Type 0)
    (bracket : P → List (Row K) → List Head → K → ℕ × ℕ) (listing : P → List (Row K) → List Head → ℕ → List (Entry K)) where
  -- a keeper's brackets and entries follow from its accuracy and span, a past and a window; the entries where the threshold is fit
  pub record Determined (counts : ℕ → ℕ → List K → List K → K → ℕ × ℕ) (lists : ℕ → ℕ → List K → List K → ℕ → List (Entry K)) : Type 0 where
    pub counted : (s : P) (rows : List (Row K)) (heads : List Head) (past window : List K) → TrueTo figures holds s rows heads past window
        → (key : K) → bracket s rows heads key ≡ counts (figures s).accuracy (figures s).span past window key
    pub listed : (s : P) (rows : List (Row K)) (heads : List Head) (past window : List K) → TrueTo figures holds s rows heads past window
        → (threshold : ℕ) → unfit (figures s) threshold ≡ false → listing s rows heads threshold ≡ lists (figures s).accuracy (figures s).span past window threshold

  -- whatever functions the keeper's follow by, each answer to calls gives exactly what follows by them
  abbrev pub AllExact : Terms → Account K → List (Call K) → List (Answer (List (Entry K))) → Type 0
  AllExact t a calls answers = (counts : ℕ → ℕ → List K → List K → K → ℕ × ℕ) (lists : ℕ → ℕ → List K → List K → ℕ → List (Entry K)) → Determined counts lists
      → AllGive (counts t.accuracy t.span) (lists t.accuracy t.span) t a calls answers
