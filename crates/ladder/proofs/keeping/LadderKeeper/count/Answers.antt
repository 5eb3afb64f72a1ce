use Rattle.ladder.proofs.Held.{bracket_alike, bracket_is_right, counts_exactly}
use Rattle.ladder.proofs.keeping.LadderKeeper.count.Goals as goal

pub returns-clause-keeper : goal.returns-clause-keeper
returns-clause-keeper g c =
    let alike = g.K.Likeness.alike in
    let laws = g.met.K.Likeness in
    let s = c.args.self.now in
    let rows = c.args.rows.now in
    let heads = c.args.heads.now in
    let key = c.args.key.now in
    record {
      answer = c.answer_count.ensures;
      right = λ past window t. bracket_is_right alike s rows heads past window t.held t.size t.puts laws.reflexive laws.symmetric laws.transitive key;
      same = λ past window t other near. bracket_alike alike s rows heads past window t.held t.size t.puts laws.reflexive laws.symmetric laws.transitive key other near;
    }

pub returns-clause-exactly : goal.returns-clause-exactly
returns-clause-exactly g c past window t = counts_exactly g.K.Likeness.alike c.args.self.now c.args.rows.now c.args.heads.now past window t.held t.size t.puts c.args.key.now
