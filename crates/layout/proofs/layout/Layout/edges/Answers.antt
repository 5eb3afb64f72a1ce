use Rattle.std.proofs.Common.{sym, subst, refl, arith}
use Rattle.layout.specs.Inside.{IsLevel}
use Rattle.layout.proofs.Edges.{are_ends}
use Rattle.layout.proofs.layout.Layout.edges.Goals as goal

pub cover_start-requires : goal.cover_start-requires
cover_start-requires c =
    let there = c.scale_of-scale.ensures.there in
    let ends = are_ends c.args.self.now c.scale_of-scale.result c.args.arrivals c.args.window _ _ (omega (arith, there.lowest)) c.scale_of-scale.ensures.value refl refl in (
      omega (arith, there.lowest, there.scale),
      omega (arith, ends.ordered, ends.to),
    )

pub returns-clause-right : goal.returns-clause-right
returns-clause-right c =
    are_ends c.args.self.now c.scale_of-scale.result c.args.arrivals c.args.window _ _ (omega (arith, c.scale_of-scale.ensures.there.lowest)) c.scale_of-scale.ensures.value c.cover_start.ensures c.cover_end.ensures

pub returns-clause-walk : goal.returns-clause-walk
returns-clause-walk c =
    let ends = returns-clause-right c in
    record {
      there = subst (λ s. IsLevel s.top c.scale_of-scale.result 0) (sym c.self.view_is) c.scale_of-scale.ensures.there;
      ordered = ends.ordered;
      start = ends.start;
      end = ends.end;
    }
