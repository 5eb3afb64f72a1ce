use Rattle.std.proofs.Common.{rules, tests, ap, ◌∙◌}
use Rattle.std.specs.Slice.Iter.{iter_rest}
use Rattle.std.proofs.lemmas.Iterator.Adapters.{YieldsList-from_rev_slice}
use Rattle.std.proofs.lemmas.Iterator.Search.{any_from_yields_List}
use Rattle.keeper.proofs.Listings.{among_rows}
use Rattle.ring.proofs.Backwards.{any_reverse}
use Rattle.ring.proofs.window.holds.Goals as goal

pub returns : goal.returns
returns g c =
    any_from_yields_List (λ row. g.K.Likeness.alike row.key c.args.key.now) _ _ c.any.result c.any.ensures.ran
    (YieldsList-from_rev_slice c.args.rows.now (ap iter_rest c.rev.ensures.source ∙ c.iter.ensures.rest)) (λ x b q k. search (rules, tests))
    ∙ any_reverse _ c.args.rows.now
    ∙ among_rows g.K.Likeness.alike c.args.rows.now c.args.key.now
