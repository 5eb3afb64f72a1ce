use Rattle.std.proofs.Common.{rules, All, ◌+◌, subst, arith}
use Rattle.std.proofs.lemmas.List.Elements.{All-head, All-tail}
use Rattle.layout.specs.Laws.{IsBlock}
use Rattle.layout.specs.Covers.{cover_of, ignored_of}
use Rattle.tally.specs.Steps.{count_in}
use Rattle.ladder.specs.Sums.{counted, lost}
use Rattle.ladder.specs.Tables.{tables, tally_at}
use Rattle.ladder.proofs.Adding.{block_added, bracket_added}
use Rattle.ladder.proofs.Rooms.{slot_lies}
use Rattle.ladder.proofs.counting.bracket_of.Goals as goal

pub slot_in-slot-requires : goal.slot_in-slot-requires
slot_in-slot-requires g c =
    let is_block = IsBlock c.args.layout.now in
    let is = All-head is_block c.in-Some.block c.next.new.self (subst (All is_block) c.in-Some.ensures.steps c.loop-block.invariant.there) in
    rw c.place.ensures (slot_lies c.args.layout.now c.args.rows.now c.args.heads.now c.requires.room c.in-Some.block is)

pub loop-block-preserved : goal.loop-block-preserved
loop-block-preserved g c =
    let tally = tally_at (tables c.args.rows.now c.args.heads.now) in
    let is_block = IsBlock c.args.layout.now in
    let before = c.loop-block.invariant in
    let b = c.in-Some.block in
    let rest = c.next.new.self in
    let split = c.in-Some.ensures.steps in
    let slot = c.slot_in-slot.ensures in
    record {
      asks = tt;
      ends = tt;
      there = All-tail is_block b rest (subst (All is_block) split before.there);
      small = omega (arith, c.saturating_add-floor.ensures);
      floor = block_added (λ block. count_in g.K.Likeness.alike (tally block).rows c.args.key.now) b rest c.loop-block.block-iterator _ c.count_of.result _ _ split (search (rules, slot.rows, slot.head, c.place.ensures)) c.saturating_add-floor.ensures before.floor;
      uncounted = block_added (λ block. (tally block).lost) b rest c.loop-block.block-iterator _ c.slot_in-slot.result.head.lost _ _ split (search (rules, slot.head, c.place.ensures)) c.saturating_add-uncounted.ensures before.uncounted;
    }

pub returns : goal.returns
returns g c =
    let layout = c.args.layout.now in
    let tally = tally_at (tables c.args.rows.now c.args.heads.now) in
    let whole = cover_of layout c.args.arrivals c.args.size in
    let before = c.loop-block.invariant in
    let ended = c.in-None.ensures.steps.0 in
    bracket_added c.loop-block.floor c.loop-block.uncounted c.saturating_add.result (counted g.K.Likeness.alike tally whole c.args.key.now) (lost tally whole + ignored_of layout c.args.arrivals c.args.size)
    (omega (arith, before.small, rw ended at before.floor)) (omega (arith, rw ended at before.uncounted)) c.saturating_add.ensures
