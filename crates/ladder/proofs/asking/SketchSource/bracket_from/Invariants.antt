use Rattle.std.proofs.Common.{◌≡◌, ◌+◌, sum_by, take}
use Rattle.tally.specs.Steps.{count_in}
use Rattle.ladder.specs.Sums.{capped}
use Rattle.ladder.proofs.asking.SketchSource.bracket_from.Given as goal

-- what the rows and the later pieces so far count is added up
abbrev pub invariant-loop-later : goal.invariant-loop-later
invariant-loop-later g l =
    let alike = g.K.Likeness.alike in
    l.floor ≡ capped (count_in alike l.fn.rows l.fn.key + sum_by (λ rows. count_in alike rows.now l.fn.key) (take l.later-index l.later-items))
