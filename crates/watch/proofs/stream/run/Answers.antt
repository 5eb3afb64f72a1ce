use Rattle.std.proofs.Common.{◌≡◌, ◌<◌, ◌≤◌, ◌++◌, length, string_bytes, take, Some, sym, ap, ◌∙◌, subst, arith}
use Rattle.std.specs.Result.{OnOk}
use Rattle.std.specs.Io.KnownBytes.{Consumes}
use Rattle.std.proofs.lemmas.Bool.{eqb-true, eqb-false}
use Rattle.std.proofs.lemmas.List.{length-take}
use Rattle.watch.specs.Progress.{bytes_text}
use Rattle.watch.specs.Report.{most_lines, report}
use Rattle.watch.specs.Stream.{most_bytes}
use Rattle.watch.proofs.Reports.{fed_rest}
use Rattle.watch.proofs.Streams.{all_came, beside_piece, none_came, none_taken, nothing_taken, on_ok, piece_taken, whole_buffer}
use Rattle.watch.proofs.stream.run.Goals as goal

pub loop-init : goal.loop-init
loop-init g c = record {
  empty = c.in_ok-out.ensures.bytes;
  long = c.in_ok-piece.ensures.len;
  beside = λ bytes before known held. none_came g.C.Counter.reading g.C.Counter.holds bytes before _ _ c.in_ok-watch.watch known held c.in_ok-watch.ensures.fed;
  taken = λ bytes known. none_taken bytes _ c.in_ok-watch.watch.progress known c.in_ok-watch.ensures.value;
}

pub loop-preserved : goal.loop-preserved
loop-preserved g c =
    let whole = ap (take c.in_ok-count.count) (whole_buffer _ c.deref.result.now c.read.new.buf _ c.deref.ensures.value (c.read.auto.buf ∙ c.deref_mut.ensures.len)) in
    let not_all = eqb-false _ _ (sym c.is_done.ensures.value ∙ c.if-is_done.false) in
    let short : length (take c.in_ok-count.count c.read.new.buf) ≤ most_bytes = omega (arith, length-take c.in_ok-count.count c.read.new.buf, c.read.auto.buf, c.deref_mut.ensures.len, c.loop.invariant.long) in
    record {
      empty = c.in_ok-write_text.ensures.empty;
      long = c.loop.invariant.long;
      beside = λ bytes before known held.
          beside_piece g.C.Counter.reading g.C.Counter.holds bytes before _ _ c.loop.watch (c.loop.invariant.beside bytes before known held) (g.R.Read.remaining c.read.new.self) (g.W.Write.contents c.write_text.new.output) c.feed.new.self
          (take c.in_ok-count.count c.read.new.buf) (take c.in_ok-count.count c.deref.result.now) (string_bytes c.feed.new.out)
          c.in_ok-count.ensures.bytes.0
          whole
          c.in_ok-write_text.ensures.written
          (c.in_ok-feed.ensures.text ∙ ap (λ t. t ++ bytes_text g.C.Counter.reading c.loop.watch.progress (take c.in_ok-count.count c.deref.result.now)) c.loop.invariant.empty)
          c.in_ok-feed.ensures.fed;
      taken = λ bytes known.
          piece_taken bytes _ c.loop.watch.progress (c.loop.invariant.taken bytes known) (g.R.Read.remaining c.read.new.self)
          (take c.in_ok-count.count c.deref.result.now) c.feed.new.self.progress
          (subst (λ piece. Consumes (g.R.Read.remaining c.loop.input) (g.R.Read.remaining c.read.new.self) piece) (sym whole) c.in_ok-count.ensures.bytes.0)
          (omega (arith, not_all, c.is_done.ensures.most)) (rw whole short) c.in_ok-feed.ensures.value;
    }

pub returns-then-count-eq0-clause-written : goal.returns-then-count-eq0-clause-written
returns-then-count-eq0-clause-written g c bytes before known held =
    let b = c.loop.invariant.beside bytes before known held in
    let none : c.in_ok-count.count ≡ 0 = c.if-count-eq0.true in
    let some : 0 < length c.read.new.buf = omega (arith, c.read.auto.buf, c.deref_mut.ensures.len, c.loop.invariant.long) in
    let takes = subst (λ n. Consumes (g.R.Read.remaining c.loop.input) (g.R.Read.remaining c.read.new.self) (take n c.read.new.buf)) none c.in_ok-count.ensures.bytes.0 in
    let came = all_came g.C.Counter.reading g.C.Counter.holds bytes before _ _ c.loop.watch b (g.R.Read.remaining c.read.new.self) takes (c.in_ok-count.ensures.bytes.1 none some) in
    subst (λ input. OnOk c.write_end-then-count-eq0.result (g.W.Write.contents c.write_end-then-count-eq0.new.output ≡ Some (before ++ report g.C.Counter.reading g.C.Counter.ending input))) (sym came)
    (c.write_end-then-count-eq0.ensures b.came b.said before b.fed c.loop.invariant.empty b.is_written)

pub returns-then-is_done-clause-written : goal.returns-then-is_done-clause-written
returns-then-is_done-clause-written g c bytes before known held =
    let b = c.loop.invariant.beside bytes before known held in
    let done : c.loop.watch.progress.lines ≡ most_lines = eqb-true _ _ (sym c.is_done.ensures.value ∙ c.if-is_done.true) in
    let rest = fed_rest g.C.Counter.reading g.met.C.Counter.decided g.C.Counter.ending g.C.Counter.holds c.loop.watch b.came b.said b.fed b.rest done in
    subst (λ text. OnOk c.write_end.result (g.W.Write.contents c.write_end.new.output ≡ Some (before ++ text)))
    (sym (ap (report g.C.Counter.reading g.C.Counter.ending) b.whole ∙ rest))
    (c.write_end.ensures b.came b.said before b.fed c.loop.invariant.empty b.is_written)

pub returns-then-count-eq0-clause-read : goal.returns-then-count-eq0-clause-read
returns-then-count-eq0-clause-read g c bytes known =
    let none : c.in_ok-count.count ≡ 0 = c.if-count-eq0.true in
    let takes = subst (λ n. Consumes (g.R.Read.remaining c.loop.input) (g.R.Read.remaining c.read.new.self) (take n c.read.new.buf)) none c.in_ok-count.ensures.bytes.0 in
    on_ok c.write_end-then-count-eq0.result (nothing_taken bytes _ c.loop.watch.progress (c.loop.invariant.taken bytes known) (g.R.Read.remaining c.read.new.self) takes)

pub returns-then-is_done-clause-read : goal.returns-then-is_done-clause-read
returns-then-is_done-clause-read g c bytes known =
    let taken = c.loop.invariant.taken bytes known in
    on_ok c.write_end.result (taken.rest, taken.is_left, taken.enough)
