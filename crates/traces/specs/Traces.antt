-- What the run of a whole trace promises. Assumes nothing.
use Rattle.std.specs.Prelude.{◌≡◌, ℕ, Bool, List, drop, length, fold, map}
use Rattle.tally.specs.declared.rows.Head.{Head}
use Rattle.tally.specs.declared.rows.Row.{Row}
use Rattle.keeper.specs.declared.entry.Entry.{Entry}
use Rattle.keeper.specs.declared.lengths.Lengths.{Lengths}
use Rattle.keeper.specs.Figures.{Figures}
use Rattle.keeper.specs.Rules.{Fresh}
use Rattle.traces.specs.declared.calls.Answer.{Answer}
use Rattle.traces.specs.declared.calls.Call.{Call}
use Rattle.traces.specs.declared.stage.Stage.TheVariants.{Keeper}
use Rattle.traces.specs.declared.stage.Trace.{Trace}
use Rattle.traces.specs.Account.{blank}
use Rattle.traces.specs.Determined.{AllExact}
use Rattle.traces.specs.Model.{Conform, after, told_as}
use Rattle.traces.specs.Sequences.{AllPerformed}
use Rattle.traces.specs.Stages.{Follows, Place, terms_of, written}
use Rattle.traces.specs.Steps.{StepsTelling}

-- a place that calls lead to from a keeper as it is made, beside these tables and this list, if `performed` says what one call does
pub record Came {P K C R : Type 0} (figures : P → Figures) (holds : P → List (Row K) → List Head → List K → List K → Type 0) (performed : Place P K → C → R → Place P K → Type 0)
    (a k : ℕ) (calls : List C) (rows : List (Row K)) (heads : List Head) (list : List (Entry K)) (answers : List R) (p : Place P K) : Type 0 where
  pub keeper : P
  pub fresh : Fresh figures holds a k keeper
  pub all : AllPerformed performed (record { stage = Keeper keeper; rows = rows; heads = heads; list = list }) calls answers p

module _ {P K : Type 0} (figures : P → Figures) (holds : P → List (Row K) → List Head → List K → List K → Type 0) (need : ℕ → ℕ → Lengths) (alike : K → K → Bool)
    (bracket : P → List (Row K) → List Head → K → ℕ × ℕ) (listing : P → List (Row K) → List Head → ℕ → List (Entry K)) where
  -- one call, from a place to the next
  abbrev pub Performed : Place P K → Call K → Answer (List (Entry K)) → Place P K → Type 0
  Performed p call answer p' = StepsTelling figures holds need alike bracket listing p.stage p.rows p.heads p.list call p'.stage answer p'.rows p'.heads p'.list

  -- a whole trace of a setting, on these tables and with this list
  pub record Runs (a k : ℕ) (calls : List (Call K)) (rows : List (Row K)) (heads : List Head) (list : List (Entry K)) (trace : Trace K P) (rows' : List (Row K)) (heads' : List Head) (list' : List (Entry K)) : Type 0 where
    -- each answer is right by the account as it is then
    pub right : Conform alike (terms_of need a k rows heads) (length list) blank calls (map (told_as (λ entries. entries.items)) trace.answers.items)
    -- each is the keeper's own, where the call before it left it, and each call does no more than by itself
    pub own : Came figures holds Performed a k calls rows heads list (map (told_as (λ entries. entries.items)) trace.answers.items) (record { stage = trace.stage; rows = rows'; heads = heads'; list = list' })
    -- and exactly what follows from the account, where the keeper's counts and lists follow from past and window
    pub exact : AllExact figures holds bracket listing (terms_of need a k rows heads) blank calls (map (told_as (λ entries. entries.items)) trace.answers.items)
    -- and the trace ends where the account does
    pub follows : Follows figures holds need (terms_of need a k rows heads) (after (terms_of need a k rows heads) blank calls) trace.stage rows' heads'
    -- the list has the entries of one answer over those of the other; past the need, the tables are as they were
    pub list_after : list' ≡ fold written list (map (told_as (λ entries. entries.items)) trace.answers.items)
    pub rows_rest : drop (need a k).rows rows' ≡ drop (need a k).rows rows
    pub heads_rest : drop (need a k).heads heads' ≡ drop (need a k).heads heads
