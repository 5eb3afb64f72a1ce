use Rattle.std.proofs.Common.{rules, All, subst}
use Rattle.std.proofs.lemmas.List.Elements.{All-head, All-tail}
use Rattle.layout.specs.Laws.{IsVisit}
use Rattle.ladder.proofs.Rooms.{slot_lies, room_kept}
use Rattle.ladder.proofs.putting.visit_all.Goals as goal

pub loop-block-init : goal.loop-block-init
loop-block-init g c = record {
  asks = search rules;
  ends = search rules;
  blocks = rw (c.into_iter-block-iterator.ensures.into_iter_gives) c.visits-block-items.ensures.right;
  leads = search rules;
}

pub visit-requires : goal.visit-requires
visit-requires g c =
    let shape = c.args.layout.now in
    let room = room_kept shape c.args.rows.now c.loop-block.rows c.args.heads.now c.loop-block.heads c.loop-block.auto.rows c.loop-block.auto.heads (record { enough_rows = c.requires.enough_rows; enough_heads = c.requires.enough_heads }) in
    let blocks = subst (All (IsVisit shape c.args.arrival)) c.in-Some.ensures.steps c.loop-block.invariant.blocks in
    let here : IsVisit shape c.args.arrival c.in-Some.block = All-head (IsVisit shape c.args.arrival) c.in-Some.block c.next.new.self blocks in
    slot_lies shape c.loop-block.rows c.loop-block.heads room c.in-Some.block here.there

pub loop-block-preserved : goal.loop-block-preserved
loop-block-preserved g c = record {
  asks = search rules;
  ends = search rules;
  blocks = All-tail (IsVisit c.args.layout.now c.args.arrival) c.in-Some.block c.next.new.self (subst (All (IsVisit c.args.layout.now c.args.arrival)) c.in-Some.ensures.steps c.loop-block.invariant.blocks);
  leads = search rules;
}

pub returns : goal.returns
returns g c = search rules
