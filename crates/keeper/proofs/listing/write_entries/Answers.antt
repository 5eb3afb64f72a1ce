use Rattle.std.proofs.Common.{◌≡◌, ◌≤◌, ◌++◌, ◌∷◌, [], length, take, ap, sym, subst, ◌∙◌, arith}
use Rattle.std.proofs.lemmas.List.{length-map, take_all}
use Rattle.keeper.specs.Listing.{all_keys, keys_in, named_after}
use Rattle.keeper.proofs.Listings.{few_listed, is_piece, keys_next, keys_piece, keys_split, Written, written_all, written_enough, written_entry, written_no_entry}
use Rattle.keeper.proofs.listing.write_entries.Goals as goal
use Rattle.keeper.proofs.listing.write_entries.Goals.{in-Some, in_default}

pub overflow_add-named : goal.overflow_add-named
overflow_add-named g c = omega (arith, c.loop-place.invariant.within, c.if-named-most.false, c.ranges.most.fits)

pub entry_of-entry-requires : goal.entry_of-entry-requires
entry_of-entry-requires g c =
    let seen = c.pieces-pieces in
    is_piece (λ rows. rows.now) seen.result.now (g.S.Source.pieces c.args.source.now) seen.ensures.rows c.loop-number.number c.index-pieces-number.result c.loop-number-test.true c.index-pieces-number.is c.loop-place.place

pub loop-place-preserved : goal.loop-place-preserved
loop-place-preserved g c =
    let alike = g.K.Likeness.alike in
    let bracket = g.S.Source.bracket c.args.source.now in
    let threshold = c.args.threshold in
    let list = c.args.list.now in
    let rows = c.index-pieces-number.result.now in
    let earlier = all_keys (take c.loop-number.number (g.S.Source.pieces c.args.source.now)) in
    let keys = earlier ++ keys_in (take c.loop-place.place rows) in
    let row = c.index-rows-place.result in
    let found : named_after alike bracket threshold keys row.key ≡ c.entry_of-entry.result =
    ap (λ r. named_after alike bracket threshold keys r.key) c.index-rows-place.is ∙ sym c.entry_of-entry.ensures in
    let next : Written alike bracket threshold (keys ++ row.key ∷ []) c.match-entry.named list c.match-entry.list =
    elim c.match-entry.branch [
      | in-Some w ↦
          rw (w.named-is, w.list-is, w.write_at.ensures) (written_entry alike bracket threshold keys row.key w.in-Some.entry c.loop-place.named list c.loop-place.list (found ∙ w.in-Some.is) c.loop-place.invariant.written)
      | in_default w ↦
          rw (w.named-is, w.list-is) (written_no_entry alike bracket threshold keys row.key c.loop-place.named list c.loop-place.list (found ∙ w.in_default.is) c.loop-place.invariant.written)
    ] in
    let within : c.match-entry.named ≤ c.args.most =
    elim c.match-entry.branch [
      | in-Some w ↦ omega (arith, w.named-is, c.loop-place.invariant.within, c.if-named-most.false)
      | in_default w ↦ omega (arith, w.named-is, c.loop-place.invariant.within)
    ] in
    record {
      written = subst (λ ks. Written alike bracket threshold ks c.match-entry.named list c.match-entry.list) (keys_next earlier rows c.loop-place.place row c.loop-place-test.true c.index-rows-place.is) next;
      within = within;
    }

pub loop-number-preserved : goal.loop-number-preserved
loop-number-preserved g c =
    let pieces = g.S.Source.pieces c.args.source.now in
    let seen = c.pieces-pieces in
    record {
      written =
          subst (λ ks. Written g.K.Likeness.alike (g.S.Source.bracket c.args.source.now) c.args.threshold ks c.loop-place.named c.args.list.now c.loop-place.list)
          (keys_piece (λ rows. rows.now) seen.result.now pieces seen.ensures.rows c.loop-number.number c.index-pieces-number.result c.loop-number-test.true c.index-pieces-number.is c.loop-place.place c.loop-place-test.false)
          c.loop-place.invariant.written;
      within = c.loop-place.invariant.within;
    }

pub returns-then-named-most-clause-few : goal.returns-then-named-most-clause-few
returns-then-named-most-clause-few g c = omega (arith, few_listed g.K.Likeness.alike (g.S.Source.bracket c.args.source.now) c.args.threshold (all_keys (g.S.Source.pieces c.args.source.now)), c.pieces-pieces.ensures.few)

pub returns-then-named-most-clause-entries : goal.returns-then-named-most-clause-entries
returns-then-named-most-clause-entries g c =
    let pieces = g.S.Source.pieces c.args.source.now in
    let seen = c.pieces-pieces in
    written_enough g.K.Likeness.alike (g.S.Source.bracket c.args.source.now) c.args.threshold _ _ (all_keys pieces) c.args.most c.loop-place.named c.args.list.now c.loop-place.list
    (keys_split (λ rows. rows.now) seen.result.now pieces seen.ensures.rows c.loop-number.number c.index-pieces-number.result c.loop-number-test.true c.index-pieces-number.is c.loop-place.place)
    c.if-named-most.true c.loop-place.invariant.written

pub returns-clause-few : goal.returns-clause-few
returns-clause-few g c = omega (arith, few_listed g.K.Likeness.alike (g.S.Source.bracket c.args.source.now) c.args.threshold (all_keys (g.S.Source.pieces c.args.source.now)), c.pieces-pieces.ensures.few)

pub returns-clause-entries : goal.returns-clause-entries
returns-clause-entries g c =
    let pieces = g.S.Source.pieces c.args.source.now in
    let seen = c.pieces-pieces in
    let all : take c.loop-number.number pieces ≡ pieces = take_all c.loop-number.number pieces (omega (arith, c.loop-number-test.false, ap length seen.ensures.rows, length-map seen.result.now (λ rows. rows.now))) in
    let written = subst (λ ps. Written g.K.Likeness.alike (g.S.Source.bracket c.args.source.now) c.args.threshold (all_keys ps) c.loop-number.named c.args.list.now c.loop-number.list) all c.loop-number.invariant.written in
    written_all g.K.Likeness.alike (g.S.Source.bracket c.args.source.now) c.args.threshold (all_keys pieces) c.args.most c.loop-number.named c.args.list.now c.loop-number.list c.loop-number.invariant.within written
