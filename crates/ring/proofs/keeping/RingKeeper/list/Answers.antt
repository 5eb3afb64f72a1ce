use Rattle.std.proofs.Common.{subst}
use Rattle.keeper.specs.Rules.{Lists}
use Rattle.keeper.proofs.Admits.{not_unfit}
use Rattle.keeper.proofs.Listings.{listed_counts}
use Rattle.ring.specs.Rings.{exactly, listing_of, window_of}
use Rattle.ring.proofs.Exact.{exact_lists}
use Rattle.ring.proofs.keeping.RingKeeper.list.Goals as goal

pub returns : goal.returns
returns g c =
    let alike = g.K.Likeness.alike in
    let laws = g.met.K.Likeness in
    let s = c.args.self.now in
    let window = window_of s c.args.rows.now in
    let threshold = c.args.threshold in
    record {
      answer = c.answer_list.ensures.answer;
      written = c.answer_list.ensures.written;
      kept = c.answer_list.ensures.kept;
      counts = listed_counts alike (exactly alike window) threshold window;
      right = λ asked past keys t.
          subst (λ ks. Lists alike s.accuracy threshold ks (listing_of alike window threshold)) t.held
          (exact_lists alike window laws.reflexive laws.symmetric laws.transitive s.accuracy threshold (not_unfit s threshold asked));
    }
