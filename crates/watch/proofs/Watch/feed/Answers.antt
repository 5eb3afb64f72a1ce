use Rattle.std.proofs.Common.{◌≡◌, ap, ◌∙◌, string_bytes}
use Rattle.watch.specs.Progress.{Watched, kept_more}
use Rattle.watch.proofs.Pieces.{beside_line, beside_rest, fed_more}
use Rattle.watch.proofs.Watch.feed.Goals as goal

pub loop-line-preserved : goal.loop-line-preserved
loop-line-preserved g c =
    beside_line g.C.Counter.reading g.C.Counter.holds c.args.self.now (string_bytes c.args.out.now) c.args.piece.now c.loop-line.rest.now c.loop-line.self (string_bytes c.loop-line.out) c.loop-line.invariant
    c.in-Some.line.now c.in-Some.behind.now c.end_line.new.self (string_bytes c.end_line.new.out)
    c.in-Some.ensures c.in_ok-end_line.ensures.value c.in_ok-end_line.ensures.text c.in_ok-end_line.ensures.counted

pub returns : goal.returns
returns g c =
    let rest = c.loop-line.rest.now in
    let next : Watched g.row.C.Denot = record { progress = record { kept = c.keep_all.new.self; lines = c.self.inside.counts.lines }; counter = c.self.inside.counts.counter } in
    let place : next.progress ≡ kept_more c.loop-line.self.progress rest =
    ap (λ kept. record { kept = kept; lines = c.self.inside.counts.lines }) c.keep_all.ensures.kept ∙ ap (λ (watch : Watched g.row.C.Denot). kept_more watch.progress rest) c.self.view_is in
    let come =
    beside_rest g.C.Counter.reading g.C.Counter.holds c.args.self.now (string_bytes c.args.out.now) c.args.piece.now rest c.loop-line.self (string_bytes c.loop-line.out) c.loop-line.invariant
    next c.in_default.ensures place (ap (λ watch. watch.counter) c.self.view_is) in
    record {
      value = come.place;
      counted = come.counted;
      text = come.text;
      fed = λ input said fed. fed_more g.C.Counter.reading g.C.Counter.holds c.args.self.now input said c.args.piece.now next fed come.place come.counted;
    }
