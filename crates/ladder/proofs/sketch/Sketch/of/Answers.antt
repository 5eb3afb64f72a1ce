use Rattle.std.proofs.Common.{rules, All, ◌≡◌, ◌++◌, ap, map, take, length, ◌∙◌, sym, subst, arith}
use Rattle.std.proofs.lemmas.List.{append-nil}
use Rattle.std.proofs.lemmas.List.Elements.{All-head, All-tail}
use Rattle.keeper.specs.Listing.{all_keys}
use Rattle.layout.specs.Laws.{IsBlock}
use Rattle.layout.specs.Covers.{cover_of}
use Rattle.ladder.specs.Sums.{rows_in}
use Rattle.ladder.specs.Tables.{tables, tally_at}
use Rattle.ladder.proofs.Adding.{block_added}
use Rattle.ladder.proofs.CoverKeys.{few_keys, keys_of_rows, live_is, piece_added}
use Rattle.ladder.proofs.Rooms.{slot_lies}
use Rattle.ladder.proofs.sketch.Sketch.of.Goals as goal

pub slot_in-slot-requires : goal.slot_in-slot-requires
slot_in-slot-requires g c =
    let is_block = IsBlock c.args.layout.now in
    let is = All-head is_block c.in-Some.block c.next.new.self (subst (All is_block) c.in-Some.ensures.steps c.loop-block.invariant.there) in
    rw c.place.ensures (slot_lies c.args.layout.now c.args.rows.now c.args.heads.now c.requires.room c.in-Some.block is)

pub loop-block-preserved : goal.loop-block-preserved
loop-block-preserved g c =
    let rows = c.args.rows.now in
    let heads = c.args.heads.now in
    let tally = tally_at (tables rows heads) in
    let is_block = IsBlock c.args.layout.now in
    let before = c.loop-block.invariant in
    let b = c.in-Some.block in
    let rest = c.next.new.self in
    let split = c.in-Some.ensures.steps in
    let slot = c.slot_in-slot.ensures in
    let live = live_is rows heads b c.slot_in-slot.result.rows.now c.live.result.now c.slot_in-slot.result.head c.live.ensures (search (rules, slot.rows, c.place.ensures)) (search (rules, slot.head, c.place.ensures)) in
    record {
      asks = tt;
      ends = tt;
      there = All-tail is_block b rest (subst (All is_block) split before.there);
      long = search (rules, before.long);
      room = omega (arith, before.room, ap length split);
      small = omega (arith, c.saturating_add-uncounted.ensures);
      pieces = piece_added (λ rs. rs.now) (λ block. (tally block).rows) c.loop-block.pieces c.loop-block.count c.live.result b rest c.loop-block.block-iterator _ (omega (arith, before.room, before.long, ap length split)) split live before.pieces;
      uncounted = block_added (λ block. (tally block).lost) b rest c.loop-block.block-iterator _ c.slot_in-slot.result.head.lost _ _ split (search (rules, slot.head, c.place.ensures)) c.saturating_add-uncounted.ensures before.uncounted;
    }

pub invariant_of-result : goal.invariant_of-result
invariant_of-result g c =
    let t = tables c.args.rows.now c.args.heads.now in
    let before = c.loop-block.invariant in
    let ended = c.in-None.ensures.steps.0 in
    let shape = c.args.layout.now in
    let whole = cover_of shape c.args.arrivals c.args.size in
    let pieces : map (λ rs. rs.now) (take c.loop-block.count c.loop-block.pieces) ≡ rows_in (tally_at t) whole =
    sym (append-nil _) ∙ ap (λ bs. map (λ rs. rs.now) (take c.loop-block.count c.loop-block.pieces) ++ rows_in (tally_at t) bs) (sym ended) ∙ before.pieces in
    record {
      within = omega (arith, before.room);
      few = omega (arith, ap (λ ps. length (all_keys ps)) pieces, ap length (keys_of_rows (tally_at t) whole), few_keys t shape c.args.arrivals c.args.size c.requires.levels c.requires.window);
    }
