-- No row so far is alike, so what the rows count is what the rest counts.
use Rattle.std.proofs.Common.{◌≡◌, drop}
use Rattle.tally.specs.Steps.{count_in}
use Rattle.tally.proofs.slot.count_among.Given as goal

abbrev pub invariant-loop-row : goal.invariant-loop-row
invariant-loop-row g l = count_in g.K.Likeness.alike l.rows l.key ≡ count_in g.K.Likeness.alike (drop l.row-index l.rows) l.key
