use Rattle.std.proofs.Common.{◌∙◌, arith}
use Rattle.std.proofs.lemmas.List.Sums.{fold_more}
use Rattle.tally.proofs.Stepping.{held_stepped}
use Rattle.tally.proofs.tally.Tally.fill.Goals as goal

pub loop-key-preserved : goal.loop-key-preserved
loop-key-preserved g c =
    let tally = c.loop-key.self in
    let after = c.step.new.self in
    let done = c.step.ensures in
    let stepped = held_stepped g.K.Likeness.alike tally.rows.now after.rows.now tally.head after.head c.key-item.result done.rows done.head in
    record {
      named = done.named ∙ c.loop-key.invariant.named;
      long = done.long ∙ c.loop-key.invariant.long;
      head = grind (arith, fold_more);
      held = grind (arith, fold_more);
    }
