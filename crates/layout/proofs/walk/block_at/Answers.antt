use Rattle.std.proofs.Common.{◌≡◌, ◌+◌, ◌^◌, ◌<◌, ℕ, arith, div-mul-le_self}
use Rattle.layout.specs.Slots.{block_size}
use Rattle.layout.specs.Covers.{level_at}
use Rattle.layout.specs.Inside.{IsWalk, IsLevel}
use Rattle.layout.proofs.Answering.{best_there}
use Rattle.layout.proofs.Largest.{IsBest}
use Rattle.layout.proofs.Multiples.{sum_of_multiples, power_of_more}
use Rattle.layout.proofs.walk.block_at.Goals as goal

-- the level that was found fits: where its block ends is no further than the end
module _ (top i p q j : ℕ) (walks : IsWalk top i p q) (before : p < q) (e : j ≡ level_at i p q top) where
  best_at : IsBest i p q top j
  best_at = rw e (best_there top i q walks.end p (record { multiple = walks.start; before = before }))

  level_there : IsLevel top i j
  level_there = let there = walks.there in record { lowest = there.lowest; highest = there.highest; scale = there.scale; level = best_at.level }

  walks_on : IsWalk top i (p + block_size i j) q
  walks_on = record {
    there = walks.there;
    ordered = best_at.here.ends;
    start = sum_of_multiples (2 ^ i) p (block_size i j) walks.start (power_of_more i j);
    end = walks.end;
  }

pub of-level-requires : goal.of-level-requires
of-level-requires c = level_there _ _ _ _ c.level_at.result c.requires.0 c.requires.1 c.level_at.ensures

pub invariant_of-result : goal.invariant_of-result
invariant_of-result c =
    let i = c.args.scale in
    let there = level_there _ _ _ _ c.level_at.result c.requires.0 c.requires.1 c.level_at.ensures in
    rw (c.exponent.ensures.value, c.of-level.ensures) (record { there = there; first = omega (arith, div-mul-le_self c.args.position (block_size i c.level_at.result)) })

pub returns-clause-after : goal.returns-clause-after
returns-clause-after c = rw c.of-level.ensures (walks_on _ _ _ _ c.level_at.result c.requires.0 c.requires.1 c.level_at.ensures)
