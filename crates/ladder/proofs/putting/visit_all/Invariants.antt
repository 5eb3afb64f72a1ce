use Rattle.std.proofs.Common.{◌≡◌, fold, All}
use Rattle.layout.specs.Laws.{IsVisit}
use Rattle.ladder.specs.Tables.{put_tables, tables, visited}
use Rattle.ladder.proofs.putting.visit_all.Given as goal

-- once the blocks that are left are visited too, the tables are as they are to be
abbrev pub invariant-loop-block : goal.invariant-loop-block
invariant-loop-block g l = record {
  asks : (goal.iterator-loop-block g).can_next l.block-iterator;
  ends : (goal.iterator-loop-block g).is_finite l.block-iterator;
  blocks : All (IsVisit l.fn.layout l.fn.arrival) l.block-iterator;
  leads : fold (visited g.K.Likeness.alike l.fn.arrival l.fn.key) (tables l.rows l.heads) l.block-iterator ≡ put_tables g.K.Likeness.alike l.fn.arrival l.fn.key l.fn.layout (tables l.initial.rows l.initial.heads);
}
