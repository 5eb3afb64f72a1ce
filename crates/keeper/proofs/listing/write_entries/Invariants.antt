use Rattle.std.proofs.Common.{◌++◌, ◌≤◌, take}
use Rattle.keeper.specs.Listing.{all_keys, keys_in}
use Rattle.keeper.proofs.Listings.{Written}
use Rattle.keeper.proofs.listing.write_entries.Given as goal

-- the entries of the keys so far are counted, and written, and there are no more than are wanted
abbrev pub invariant-loop-number : goal.invariant-loop-number
invariant-loop-number g l = record {
  written : Written g.K.Likeness.alike (g.S.Source.bracket l.fn.source) l.fn.threshold (all_keys (take l.number (g.S.Source.pieces l.fn.source))) l.named l.fn.list l.list;
  within : l.named ≤ l.fn.most;
}

abbrev pub invariant-loop-place : goal.invariant-loop-place
invariant-loop-place g l = record {
  written : Written g.K.Likeness.alike (g.S.Source.bracket l.fn.source) l.fn.threshold (all_keys (take l.number (g.S.Source.pieces l.fn.source)) ++ keys_in (take l.place l.rows)) l.named l.fn.list l.list;
  within : l.named ≤ l.fn.most;
}
