use Rattle.std.proofs.Common.{length, sym, ap, subst}
use Rattle.keeper.specs.Rules.{Bracket}
use Rattle.likeness.specs.Counts.{true_count}
use Rattle.likeness.proofs.Counting.{true_count_same}
use Rattle.ring.specs.Rings.{exactly, window_of}
use Rattle.ring.proofs.Exact.{exact_bracket}
use Rattle.ring.proofs.keeping.RingKeeper.count.Goals as goal

pub returns : goal.returns
returns g c =
    let alike = g.K.Likeness.alike in
    let laws = g.met.K.Likeness in
    let s = c.args.self.now in
    let window = window_of s c.args.rows.now in
    let key = c.args.key.now in
    record {
      answer = c.answer_count.ensures;
      right = λ past keys t.
          subst (λ ks. Bracket s.accuracy (length ks) (true_count alike ks key) (exactly alike window key)) t.held (exact_bracket alike window s.accuracy key);
      same = λ past keys t other near. ap (λ n. (n, n)) (sym (true_count_same alike laws.symmetric laws.transitive window key other near));
    }
