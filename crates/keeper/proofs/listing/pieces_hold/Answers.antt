use Rattle.std.proofs.Common.{rules, tests, ap, take, ◌∙◌, sym}
use Rattle.std.proofs.lemmas.List.{take-map}
use Rattle.std.proofs.lemmas.Iterator.{YieldsList-from_slice, YieldsList-from_take}
use Rattle.std.proofs.lemmas.Iterator.Search.{any_from_yields_List}
use Rattle.std.specs.Slice.Iter.{iter_rest}
use Rattle.keeper.specs.Listing.{all_keys, among, keys_in}
use Rattle.keeper.proofs.Listings.{among_pieces}
use Rattle.keeper.proofs.listing.pieces_hold.Goals as goal

pub returns : goal.returns
returns g c =
    let alike = g.K.Likeness.alike in
    any_from_yields_List (λ rows. among alike (keys_in rows.now) c.args.key.now) _ _ c.any.result c.any.ensures.ran
    (YieldsList-from_take c.args.number (YieldsList-from_slice c.args.pieces.now (ap iter_rest c.take.ensures.source ∙ c.iter.ensures.rest)) c.take.ensures.count) (λ x b q k. search (rules, tests))
    ∙ among_pieces alike (λ rows. rows.now) (take c.args.number c.args.pieces.now) c.args.key.now
    ∙ ap (λ pieces. among alike (all_keys pieces) c.args.key.now) (sym (take-map (λ rows. rows.now) c.args.number c.args.pieces.now))
