use Rattle.keeper.proofs.Listings.{listed_counts}
use Rattle.ladder.specs.Ladders.{bracket}
use Rattle.ladder.proofs.Held.{listing_is_right, lists_exactly}
use Rattle.ladder.proofs.keeping.LadderKeeper.list.Goals as goal

pub returns-clause-keeper : goal.returns-clause-keeper
returns-clause-keeper g c =
    let alike = g.K.Likeness.alike in
    let laws = g.met.K.Likeness in
    let s = c.args.self.now in
    let rows = c.args.rows.now in
    let heads = c.args.heads.now in
    let threshold = c.args.threshold in
    record {
      answer = c.answer_list.ensures.answer;
      written = c.answer_list.ensures.written;
      kept = c.answer_list.ensures.kept;
      counts = listed_counts alike (bracket alike s rows heads) threshold _;
      right = λ asked past window t. listing_is_right alike s rows heads past window t.held t.size t.puts laws.reflexive laws.symmetric laws.transitive threshold asked;
    }

pub returns-clause-exactly : goal.returns-clause-exactly
returns-clause-exactly g c past window t = lists_exactly g.K.Likeness.alike c.args.self.now c.args.rows.now c.args.heads.now past window t.held t.size t.puts c.args.threshold
