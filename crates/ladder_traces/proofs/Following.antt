-- A trace on a ladder answers and ends as the keys that came say. Assumes nothing.
use Rattle.std.proofs.Common.{ℕ, Bool, List, ◌++◌, subst}
use Rattle.likeness.specs.Agree.{same_sounding}
use Rattle.likeness.specs.declared.sounding.SoundingKey.{SoundingKey}
use Rattle.tally.specs.declared.rows.Head.{Head}
use Rattle.tally.specs.declared.rows.Row.{Row}
use Rattle.keeper.specs.declared.entry.Entry.{Entry}
use Rattle.keeper.specs.Tables.{lengths}
use Rattle.layout.specs.Slots.{shape_of}
use Rattle.ladder.specs.declared.figures.Ladder.{Ladder}
use Rattle.ladder.specs.Ladders.{bracket, listing, need_of}
use Rattle.ladder.specs.Tables.{tables}
use Rattle.ladder.specs.Truth.{HoldsTallies, HoldsWindow}
use Rattle.ladder.proofs.Held.{counts_exactly, lists_exactly}
use Rattle.traces.specs.declared.calls.Call.{Call}
use Rattle.traces.specs.declared.stage.Stage.{Stage}
use Rattle.traces.specs.declared.stage.Trace.{Trace}
use Rattle.traces.specs.Account.{Account, Terms}
use Rattle.traces.specs.Determined.{Determined}
use Rattle.traces.specs.Stages.{Follows}
use Rattle.traces.specs.Traces.{Runs}
use Rattle.sounding_traces.specs.declared.calls.SoundingCall.{SoundingCall}
use Rattle.sounding_traces.specs.declared.trace.SoundingTrace.{SoundingTrace}
use Rattle.sounding_traces.specs.Traces.{SoundingRuns}
use Rattle.ladder_traces.specs.Exact.{RunsExactly, terms}
use Rattle.ladder_traces.specs.Soundings.{SoundingRunsExactly}
use Rattle.ladder.specs.Exact.{counts, lists}

module _ {K : Type 0} (alike : K → K → Bool) where
  -- a ladder's counts and lists follow from the keys that came
  pub determined : Determined {P = Ladder} (λ s. s) (HoldsWindow alike) (bracket alike) (listing alike) (counts alike) (lists alike)
  determined = record {
    counted = λ s rows heads past window t key. counts_exactly alike s rows heads past window t.held t.size t.puts key;
    listed = λ s rows heads past window t threshold fit. lists_exactly alike s rows heads past window t.held t.size t.puts threshold;
  }

  -- a stage that follows the account holds the tallies of the keys that came
  pub tallies_at : (t : Terms) (account : Account K) (stage : Stage Ladder) (rows : List (Row K)) (heads : List Head) → Follows (λ s. s) (HoldsWindow alike) need_of t account stage rows heads
      → HoldsTallies alike (shape_of t.accuracy t.span) (tables rows heads) (account.past ++ account.window)
  tallies_at t account stage rows heads follows = subst (λ t. HoldsTallies alike (shape_of t.accuracy t.span) (tables rows heads) (account.past ++ account.window)) follows.terms follows.true_to.held.tallies

  pub runs_exactly : (a k : ℕ) (calls : List (Call K)) (rows rows' : List (Row K)) (heads heads' : List Head) (list list' : List (Entry K)) (trace : Trace K Ladder)
      → Runs (λ s. s) (HoldsWindow alike) need_of alike (bracket alike) (listing alike) a k calls rows heads list trace rows' heads' list'
      → RunsExactly alike a k calls (lengths rows heads) trace rows' heads'
  runs_exactly a k calls rows rows' heads heads' list list' trace runs = record {
    answers = runs.exact (counts alike) (lists alike) determined;
    slots = tallies_at (terms alike a k (lengths rows heads)) _ trace.stage rows' heads' runs.follows;
  }

-- the same with verdicts
pub sounding_runs_exactly : (a k : ℕ) (calls : List SoundingCall) (rows rows' : List (Row SoundingKey)) (heads heads' : List Head) (list list' : List (Entry SoundingKey)) (trace : SoundingTrace Ladder)
    → SoundingRuns (λ s. s) (HoldsWindow same_sounding) need_of (bracket same_sounding) (listing same_sounding) a k calls rows heads list trace rows' heads' list'
    → SoundingRunsExactly a k calls (lengths rows heads) trace rows' heads'
sounding_runs_exactly a k calls rows rows' heads heads' list list' trace runs = record {
  answers = runs.exact (counts same_sounding) (lists same_sounding) (determined same_sounding);
  slots = tallies_at same_sounding (terms same_sounding a k (lengths rows heads)) _ trace.stage rows' heads' runs.follows;
}
