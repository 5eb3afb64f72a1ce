use Rattle.std.proofs.Common.{rules, ap, ◌∙◌}
use Rattle.tally.specs.Slots.{over}
use Rattle.ladder.proofs.Seen.{listing_is_seen}
use Rattle.ladder.proofs.figures.Ladder.answer_list.Goals as goal

pub returns-clause-answer : goal.returns-clause-answer
returns-clause-answer g c =
    let seen = c.sketch.ensures in
    let same = listing_is_seen g.K.Likeness.alike c.sketch.result c.args.self.now c.args.rows.now c.args.heads.now seen.pieces seen.uncounted c.args.threshold in
    search (rules, same, c.list_from.ensures.answer)

pub returns-clause-written : goal.returns-clause-written
returns-clause-written g c ok =
    let seen = c.sketch.ensures in
    let same = listing_is_seen g.K.Likeness.alike c.sketch.result c.args.self.now c.args.rows.now c.args.heads.now seen.pieces seen.uncounted c.args.threshold in
    c.list_from.ensures.written ok ∙ ap (λ entries. over entries c.args.list.now) same
