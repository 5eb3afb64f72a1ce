use Rattle.std.proofs.Common.{◌≡◌, ◌+◌, ◌++◌, ◌<◌, ◌≤◌, All, length, map, take}
use Rattle.layout.specs.Laws.{IsBlock}
use Rattle.layout.specs.Covers.{cover_of, ignored_of}
use Rattle.ladder.specs.Sums.{capped, lost, rows_in}
use Rattle.ladder.specs.Tables.{tables, tally_at}
use Rattle.ladder.proofs.sketch.Sketch.of.Given as goal

-- with the rows of the blocks that are left, and with what these lost, the pieces and the sum are as they are to be
abbrev pub invariant-loop-block : goal.invariant-loop-block
invariant-loop-block g l =
    let tally = tally_at (tables l.fn.rows l.fn.heads) in
    let whole = cover_of l.fn.layout l.fn.arrivals l.fn.size in
    record {
      asks : (goal.iterator-loop-block g).can_next l.block-iterator;
      ends : (goal.iterator-loop-block g).is_finite l.block-iterator;
      there : All (IsBlock l.fn.layout) l.block-iterator;
      long : length l.pieces ≡ 20;
      room : l.count + length l.block-iterator ≤ 20;
      small : l.uncounted < 4294967296;
      pieces : map (λ rows. rows.now) (take l.count l.pieces) ++ rows_in tally l.block-iterator ≡ rows_in tally whole;
      uncounted : capped (l.uncounted + lost tally l.block-iterator) ≡ capped (ignored_of l.fn.layout l.fn.arrivals l.fn.size + lost tally whole);
    }
