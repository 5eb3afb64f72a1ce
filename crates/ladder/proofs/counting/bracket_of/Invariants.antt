use Rattle.std.proofs.Common.{◌≡◌, ◌+◌, ◌<◌, All}
use Rattle.layout.specs.Laws.{IsBlock}
use Rattle.layout.specs.Covers.{cover_of, ignored_of}
use Rattle.ladder.specs.Sums.{capped, counted, lost}
use Rattle.ladder.specs.Tables.{tables, tally_at}
use Rattle.ladder.proofs.counting.bracket_of.Given as goal

-- with what the blocks that are left count and lost, the sums are as they are to be
abbrev pub invariant-loop-block : goal.invariant-loop-block
invariant-loop-block g l =
    let tally = tally_at (tables l.fn.rows l.fn.heads) in
    let whole = cover_of l.fn.layout l.fn.arrivals l.fn.size in
    record {
      asks : (goal.iterator-loop-block g).can_next l.block-iterator;
      ends : (goal.iterator-loop-block g).is_finite l.block-iterator;
      there : All (IsBlock l.fn.layout) l.block-iterator;
      small : l.floor < 4294967296;
      floor : capped (l.floor + counted g.K.Likeness.alike tally l.block-iterator l.fn.key) ≡ capped (counted g.K.Likeness.alike tally whole l.fn.key);
      uncounted : capped (l.uncounted + lost tally l.block-iterator) ≡ capped (ignored_of l.fn.layout l.fn.arrivals l.fn.size + lost tally whole);
    }
