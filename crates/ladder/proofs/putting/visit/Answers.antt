use Rattle.std.proofs.Common.{rules, tests, ◌≡◌, ◌+◌, ◌-◌, if◌then◌else◌, ◌==◌, arith}
use Rattle.layout.specs.Blocks.{first}
use Rattle.ladder.specs.Tables.{empty_head, head_at, tables}
use Rattle.ladder.proofs.Visiting.{visit_is}
use Rattle.ladder.proofs.putting.visit.Goals as goal
use Rattle.ladder.proofs.putting.visit.Goals.{then-first-arrival, else-first-arrival}

pub returns : goal.returns
returns g c =
    let place = c.place-start.result in
    let block = c.args.block.now in
    let count : place.start + place.rows - place.start ≡ place.rows = omega arith in
    let found : c.if-first-arrival.before ≡ (if first block == c.args.arrival then empty_head else head_at (tables c.args.rows.now c.args.heads.now) block) =
    elim c.if-first-arrival.branch [ then-first-arrival w ↦ search (rules, tests) | else-first-arrival w ↦ search (rules, tests) ] in
    let after = c.step.ensures in
    rw count (visit_is g.K.Likeness.alike c.args.arrival c.args.key c.args.rows.now c.args.heads.now block place c.if-first-arrival.before c.step.new.rows c.step.result c.place-start.ensures found (rw count at after.rows) (rw count at after.head))
