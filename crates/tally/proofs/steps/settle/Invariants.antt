use Rattle.std.proofs.Common.{◌≡◌, ◌≤◌, length, take}
use Rattle.tally.specs.Steps.{fallen}
use Rattle.tally.specs.Slots.{over}
use Rattle.tally.proofs.steps.settle.Given as goal

-- the first i rows have fallen, and those that stay are at the front
abbrev pub invariant-loop-i : goal.invariant-loop-i
invariant-loop-i g l = record {
  front : l.rows ≡ over (fallen (take l.i l.initial.rows)) l.initial.rows;
  long : l.stay ≡ length (fallen (take l.i l.initial.rows));
  behind : l.stay ≤ l.i;
}
