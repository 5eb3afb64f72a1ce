use Rattle.std.proofs.Common.{sym, arith, ◌+◌, ◌-◌, ◌^◌}
use Rattle.layout.proofs.Bits.{zeros_behind, no_more_zeros, no_higher}
use Rattle.layout.proofs.Largest.{level_is}
use Rattle.layout.proofs.Multiples.{a_unit_apart}
use Rattle.layout.proofs.Closed.{pow_mono}
use Rattle.layout.proofs.walk.level_at.Goals as goal

-- a smallest block can start here, and ends in time
pub overflow_sub-exponent : goal.overflow_sub-exponent
overflow_sub-exponent c =
    let i = c.args.scale in
    let p = c.args.position in
    let q = c.args.end in
    let walk = c.requires.walk in
    omega (
      arith,
      walk.there.scale,
      no_more_zeros p i (omega arith) (omega (arith, walk.there.scale)) walk.start,
      no_higher (q - p) i c.ilog2.result (omega (arith, a_unit_apart (2 ^ i) p q walk.start walk.end c.requires.some)) c.ilog2.ensures.next_power_gt,
    )

pub returns : goal.returns
returns c =
    let i = c.args.scale in
    let p = c.args.position in
    let q = c.args.end in
    let there = c.requires.walk.there in
    sym (level_is i p q c.args.top c.min.result (omega arith)
    (λ some. record {
      multiple = zeros_behind p (i + c.min.result) (omega arith) (omega arith);
      ends = omega (arith, pow_mono (i + c.min.result) c.ilog2.result (omega arith), c.ilog2.ensures.power_le);
    })
    (λ h lo hi f. omega (arith, there.scale, no_more_zeros p (i + h) (omega arith) (omega (arith, there.scale)) f.multiple, no_higher (q - p) (i + h) c.ilog2.result (omega (arith, f.ends)) c.ilog2.ensures.next_power_gt)))
