-- Exactly what a ladder holds and answers in a trace, by the keys that came. Assumes nothing.
use Rattle.std.specs.Prelude.{ℕ, Bool, List, ◌++◌, map}
use Rattle.tally.specs.declared.rows.Head.{Head}
use Rattle.tally.specs.declared.rows.Row.{Row}
use Rattle.keeper.specs.declared.lengths.Lengths.{Lengths}
use Rattle.layout.specs.Slots.{shape_of}
use Rattle.ladder.specs.declared.figures.Ladder.{Ladder}
use Rattle.ladder.specs.Exact.{counts, lists}
use Rattle.ladder.specs.Ladders.{need_of}
use Rattle.ladder.specs.Tables.{tables}
use Rattle.ladder.specs.Truth.{HoldsTallies}
use Rattle.traces.specs.declared.calls.Call.{Call}
use Rattle.traces.specs.declared.stage.Trace.{Trace}
use Rattle.traces.specs.Account.{Account, blank, Terms}
use Rattle.traces.specs.Determined.{AllGive}
use Rattle.traces.specs.Model.{after, told_as}

module _ {K : Type 0} (alike : K → K → Bool) (a k : ℕ) where
  -- the terms of a trace on tables of these lengths
  abbrev pub terms : Lengths → Terms
  terms lent = record { accuracy = a; span = k; need = need_of a k; lent = lent }

  -- a whole trace: what it answered, and what the tables hold at its end
  pub record RunsExactly (calls : List (Call K)) (lent : Lengths) (trace : Trace K Ladder) (rows : List (Row K)) (heads : List Head) : Type 0 where
    -- each count and each list is the one that follows from the account as it is then
    pub answers : AllGive (counts alike a k) (lists alike a k) (terms lent) blank calls (map (told_as (λ entries. entries.items)) trace.answers.items)
    -- each slot that a block has begun holds exactly the tally of the keys of its newest block
    pub slots : let account : Account K = after (terms lent) blank calls in HoldsTallies alike (shape_of a k) (tables rows heads) (account.past ++ account.window)
