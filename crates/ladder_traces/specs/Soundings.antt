-- Exactly what a ladder of soundings holds and answers in a trace, by the keys that came. Assumes nothing.
use Rattle.std.specs.Prelude.{ℕ, List, ◌++◌, map}
use Rattle.likeness.specs.Agree.{same_sounding}
use Rattle.likeness.specs.declared.sounding.SoundingKey.{SoundingKey}
use Rattle.tally.specs.declared.rows.Head.{Head}
use Rattle.tally.specs.declared.rows.Row.{Row}
use Rattle.keeper.specs.declared.lengths.Lengths.{Lengths}
use Rattle.layout.specs.Slots.{shape_of}
use Rattle.ladder.specs.declared.figures.Ladder.{Ladder}
use Rattle.ladder.specs.Exact.{counts, lists}
use Rattle.ladder.specs.Tables.{tables}
use Rattle.ladder.specs.Truth.{HoldsTallies}
use Rattle.traces.specs.Account.{blank}
use Rattle.sounding_traces.specs.declared.calls.SoundingCall.{SoundingCall}
use Rattle.sounding_traces.specs.declared.trace.SoundingTrace.{SoundingTrace}
use Rattle.sounding_traces.specs.Model.{AllGive, after, told_as}
use Rattle.ladder_traces.specs.Exact.{terms}

-- a whole trace: what it answered, and what the tables hold at its end
pub record SoundingRunsExactly (a k : ℕ) (calls : List SoundingCall) (lent : Lengths) (trace : SoundingTrace Ladder) (rows : List (Row SoundingKey)) (heads : List Head) : Type 0 where
  -- each count, list and verdict is the one that follows from the account as it is then
  pub answers : AllGive (counts same_sounding a k) (lists same_sounding a k) (terms same_sounding a k lent) blank calls (map (told_as (λ entries. entries.items)) trace.answers.items)
  -- each slot that a block has begun holds exactly the tally of the keys of its newest block
  pub slots : let account = after (terms same_sounding a k lent) blank calls in HoldsTallies same_sounding (shape_of a k) (tables rows heads) (account.past ++ account.window)
