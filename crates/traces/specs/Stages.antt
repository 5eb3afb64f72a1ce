-- Where a trace stands, beside the account. Assumes nothing.
use Rattle.std.specs.Prelude.{◌≡◌, ℕ, List}
use Rattle.tally.specs.declared.rows.Head.{Head}
use Rattle.tally.specs.declared.rows.Row.{Row}
use Rattle.tally.specs.Slots.{over}
use Rattle.keeper.specs.declared.entry.Entry.{Entry}
use Rattle.keeper.specs.declared.lengths.Lengths.{Lengths}
use Rattle.keeper.specs.Figures.{Figures}
use Rattle.keeper.specs.Rules.{TrueTo}
use Rattle.keeper.specs.Tables.{lengths}
use Rattle.traces.specs.declared.calls.Answer.{Answer}
use Rattle.traces.specs.declared.calls.Answer.TheVariants.{Listed}
use Rattle.traces.specs.declared.stage.Stage.{Stage}
use Rattle.traces.specs.declared.stage.Stage.TheVariants.{Keeper, Filling, Sliding}
use Rattle.traces.specs.Account.{Terms, State, keeping, filling, sliding, Account}

-- the state and the keeper of a stage
abbrev pub state_of : {P : Type 0} → Stage P → State
state_of (Keeper p) = keeping
state_of (Filling w) = filling w.goal
state_of (Sliding w) = sliding w.goal

abbrev pub keeper_of : {P : Type 0} → Stage P → P
keeper_of (Keeper p) = p
keeper_of (Filling w) = w.keeper
keeper_of (Sliding w) = w.keeper

-- the list after an answer: a list's entries are written over its front
abbrev pub written : {K : Type 0} → List (Entry K) → Answer (List (Entry K)) → List (Entry K)
written list (Listed entries) = over entries list
written list other = list

-- what a call finds and leaves: the stage, the tables and the list
pub record Place (P K : Type 0) : Type 0 where
  pub stage : Stage P
  pub rows : List (Row K)
  pub heads : List Head
  pub list : List (Entry K)

-- the terms of a setting with these tables
abbrev pub terms_of : {K : Type 0} → (ℕ → ℕ → Lengths) → ℕ → ℕ → List (Row K) → List Head → Terms
terms_of need a k rows heads = record { accuracy = a; span = k; need = need a k; lent = lengths rows heads }

-- the terms on which a keeper goes on
abbrev pub terms_at : {P K : Type 0} → (P → Figures) → (ℕ → ℕ → Lengths) → P → List (Row K) → List Head → Terms
terms_at figures need p rows heads = terms_of need (figures p).accuracy (figures p).span rows heads

module _ {P K : Type 0} (figures : P → Figures) (holds : P → List (Row K) → List Head → List K → List K → Type 0) (need : ℕ → ℕ → Lengths) where
  -- a stage is where the account is: in its state, on the same terms, and with record and tables true to its window
  pub record Follows (t : Terms) (a : Account K) (s : Stage P) (rows : List (Row K)) (heads : List Head) : Type 0 where
    pub state : state_of s ≡ a.state
    pub terms : terms_at figures need (keeper_of s) rows heads ≡ t
    pub true_to : TrueTo figures holds (keeper_of s) rows heads a.past a.window
