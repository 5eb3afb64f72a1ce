use Rattle.std.proofs.Common.{◌≡◌, ◌≤◌, take}
use Rattle.likeness.specs.Counts.{true_count}
use Rattle.likeness.proofs.counts.true_count.Given as goal

abbrev pub invariant-loop-other : goal.invariant-loop-other
invariant-loop-other g l =
    (l.total ≡ true_count g.K.Likeness.alike (take l.other-index l.window) l.key) × (l.total ≤ l.other-index)
