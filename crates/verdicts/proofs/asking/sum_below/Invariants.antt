use Rattle.std.proofs.Common.{◌≡◌, ◌≤◌, ◌*◌, List, length}
use Rattle.likeness.specs.Counts.{truly_short}
use Rattle.likeness.specs.declared.sounding.SoundingKey.{SoundingKey}
use Rattle.keeper.specs.Rules.{TrueTo}
use Rattle.verdicts.specs.Rules.{Sums}
use Rattle.verdicts.specs.Verdicts.{sums_below}
use Rattle.verdicts.proofs.asking.sum_below.Given as goal

-- the sums of the bands that have been gone through
abbrev pub invariant-loop-number : goal.invariant-loop-number
invariant-loop-number g l = record {
  reached : l.number ≤ l.class;
  floors : l.floors ≤ l.number * 4294967295;
  ceilings : l.ceilings ≤ l.number * 4294967295;
  value : (l.floors, l.ceilings) ≡ sums_below (g.P.Keeper.bracket l.keeper l.rows l.heads) l.sounder l.number;
  right : (past window : List SoundingKey) → TrueTo g.P.Record.figures g.P.Keeper.holds l.keeper l.rows l.heads past window
      → Sums (g.P.Record.figures l.keeper).accuracy (length window) (truly_short window l.sounder l.number) l.number (l.floors, l.ceilings);
}
