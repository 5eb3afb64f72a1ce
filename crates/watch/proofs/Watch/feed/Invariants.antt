use Rattle.std.proofs.Common.{length, string_bytes}
use Rattle.watch.proofs.Pieces.{Beside}
use Rattle.watch.proofs.Watch.feed.Given as goal

abbrev pub decreases-loop-line : goal.decreases-loop-line
decreases-loop-line g l = length l.rest

abbrev pub invariant-loop-line : goal.invariant-loop-line
invariant-loop-line g l = Beside g.C.Counter.reading g.C.Counter.holds l.initial.self (string_bytes l.initial.out) l.piece l.rest l.self (string_bytes l.out)
