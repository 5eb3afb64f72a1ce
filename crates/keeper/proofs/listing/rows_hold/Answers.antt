use Rattle.std.proofs.Common.{rules, tests, ◌∙◌}
use Rattle.std.proofs.lemmas.Iterator.{YieldsList-from_slice}
use Rattle.std.proofs.lemmas.Iterator.Search.{any_from_yields_List}
use Rattle.keeper.proofs.Listings.{among_rows}
use Rattle.keeper.proofs.listing.rows_hold.Goals as goal

pub returns : goal.returns
returns g c =
    any_from_yields_List (λ row. g.K.Likeness.alike row.key c.args.key.now) _ _ c.any.result c.any.ensures.ran (YieldsList-from_slice _ c.iter.ensures.rest) (λ x b q k. search (rules, tests))
    ∙ among_rows g.K.Likeness.alike c.args.rows.now c.args.key.now
