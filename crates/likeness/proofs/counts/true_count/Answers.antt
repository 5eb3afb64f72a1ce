use Rattle.std.proofs.Common.{count_by, ap, ◌∙◌, arith}
use Rattle.std.proofs.lemmas.List.{take_all}
use Rattle.likeness.proofs.Counting.{counted_more}
use Rattle.likeness.proofs.counts.true_count.Goals as goal

pub loop-other-preserved : goal.loop-other-preserved
loop-other-preserved g c =
    counted_more (λ x. g.K.Likeness.alike x c.args.key.now) c.args.window.now c.loop-other.other-index c.other-item.result c.is_alike.result c.loop-other.total c.loop-other-test.true c.other-item.is c.is_alike.ensures c.loop-other.invariant

pub returns : goal.returns
returns g c = record {
  value = c.loop-other.invariant.0 ∙ ap (count_by (λ x. g.K.Likeness.alike x c.args.key.now)) (take_all _ _ c.loop-other-test.false);
  bound = omega arith;
}
