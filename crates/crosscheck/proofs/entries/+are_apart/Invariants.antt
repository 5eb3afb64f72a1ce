use Rattle.std.proofs.Common.{length}
use Rattle.crosscheck.proofs.entries.+are_apart.Given as goal

abbrev pub decreases-are_apart : goal.decreases-are_apart
decreases-are_apart g l = length l.entries.now
