-- What one call of a trace does. Assumes nothing.
use Rattle.std.specs.Prelude.{◌≡◌, ℕ, ◌≤◌, Bool, true, false, List, drop, length, take, Ok, Err, Result}
use Rattle.tally.specs.declared.rows.Head.{Head}
use Rattle.tally.specs.declared.rows.Row.{Row}
use Rattle.keeper.specs.declared.entry.Entry.{Entry}
use Rattle.keeper.specs.declared.lengths.Lengths.{Lengths}
use Rattle.keeper.specs.declared.refusal.Refusal.{Refusal}
use Rattle.keeper.specs.Figures.{Figures}
use Rattle.keeper.specs.Rules.{TrueTo}
use Rattle.keeper.specs.Tables.{needed}
use Rattle.windows.specs.declared.refusal.WindowRefusal.TheVariants.{Keeper}
use Rattle.traces.specs.declared.calls.Answer.{Answer}
use Rattle.traces.specs.declared.calls.Answer.TheVariants.{Done, Refused, Counted, Listed}
use Rattle.traces.specs.declared.calls.Call.{Call}
use Rattle.traces.specs.declared.stage.Stage.{Stage}
use Rattle.traces.specs.Account.{Account}
use Rattle.traces.specs.Determined.{Gives}
use Rattle.traces.specs.Model.{Meets, due, next, told_as}
use Rattle.traces.specs.Stages.{state_of, keeper_of, written, terms_at, Follows}

-- what is told of what a keeper answers
abbrev pub done_by : Result (Unit {0}) Refusal → Answer ℕ
done_by (Ok done) = Done
done_by (Err e) = Refused (Keeper e)

abbrev pub counted_by : Result (ℕ × ℕ) Refusal → Answer ℕ
counted_by (Ok bracket) = Counted bracket.0 bracket.1
counted_by (Err e) = Refused (Keeper e)

abbrev pub listed_by : Result ℕ Refusal → Answer ℕ
listed_by (Ok count) = Listed count
listed_by (Err e) = Refused (Keeper e)

-- only what is done changes record or tables
abbrev pub is_done : {L : Type 0} → Answer L → Bool
is_done Done = true
is_done other = false

-- a list has no more entries than there is room for
abbrev pub Fits : ℕ → Answer ℕ → Type 0
Fits room (Listed count) = count ≤ room
Fits room other = Unit {0}

module _ {P K : Type 0} (figures : P → Figures) (holds : P → List (Row K) → List Head → List K → List K → Type 0) (need : ℕ → ℕ → Lengths) (alike : K → K → Bool)
    (bracket : P → List (Row K) → List Head → K → ℕ × ℕ) (listing : P → List (Row K) → List Head → ℕ → List (Entry K)) where
  -- one call from a stage on: the answer tells a list by the number of its entries, which stand at the list's front
  pub record Steps (s : Stage P) (rows : List (Row K)) (heads : List Head) (list : List (Entry K)) (call : Call K) (s' : Stage P) (answer : Answer ℕ) (rows' : List (Row K)) (heads' : List Head) (list' : List (Entry K)) : Type 0 where
    -- whatever window record and tables are true to: the answer is the one that is due, and the stage is where the account is then
    pub goes : (past window : List K) → TrueTo figures holds (keeper_of s) rows heads past window
        → let t = terms_at figures need (keeper_of s) rows heads in
        let a : Account K = record { state = state_of s; past = past; window = window } in
        Meets alike t a (length list) (due t a call) (told_as (λ count. take count list') answer) × Follows figures holds need t (next t a call) s' rows' heads'
    -- a count's bracket and a list's entries are exactly the keeper's own
    pub gives : Gives (bracket (keeper_of s) rows heads) (listing (keeper_of s) rows heads) call (told_as (λ count. take count list') answer)
    pub kept : is_done answer ≡ false → (s' ≡ s) × (rows' ≡ rows) × (heads' ≡ heads)
    pub fits : Fits (length list) answer
    pub list_after : list' ≡ written list (told_as (λ count. take count list') answer)
    pub rows_rest : drop (needed figures need (keeper_of s)).rows rows' ≡ drop (needed figures need (keeper_of s)).rows rows
    pub heads_rest : drop (needed figures need (keeper_of s)).heads heads' ≡ drop (needed figures need (keeper_of s)).heads heads

  -- the same, where the answer tells the entries
  abbrev pub StepsTelling : Stage P → List (Row K) → List Head → List (Entry K) → Call K → Stage P → Answer (List (Entry K)) → List (Row K) → List Head → List (Entry K) → Type 0
  StepsTelling s rows heads list call s' told rows' heads' list' =
      (answer : Answer ℕ) × Steps s rows heads list call s' answer rows' heads' list' × (told ≡ told_as (λ count. take count list') answer)
