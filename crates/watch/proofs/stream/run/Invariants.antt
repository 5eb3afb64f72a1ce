use Rattle.std.proofs.Common.{◌≡◌, ℕ, List, [], Some, string_bytes, vec_len}
use Rattle.watch.specs.Stream.{most_bytes}
use Rattle.watch.proofs.Streams.{Beside, Taken}
use Rattle.watch.proofs.stream.run.Given as goal

-- Before each read the text of the last piece is written, and the watch stands beside what is left of the input.
abbrev pub invariant-loop : goal.invariant-loop
invariant-loop g l = record {
  empty : string_bytes l.out ≡ [];
  long : vec_len l.piece ≡ most_bytes;
  beside : (bytes before : List ℕ) → g.R.Read.remaining l.fn.input ≡ Some bytes → g.W.Write.contents l.fn.output ≡ Some before
      → Beside g.C.Counter.reading g.C.Counter.holds bytes before (g.R.Read.remaining l.input) (g.W.Write.contents l.output) l.watch;
  taken : (bytes : List ℕ) → g.R.Read.remaining l.fn.input ≡ Some bytes → Taken bytes (g.R.Read.remaining l.input) l.watch.progress;
}
