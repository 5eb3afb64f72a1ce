use Rattle.std.proofs.Common.{◌≡◌, ◌≤◌, ◌+◌, ◌-◌, ℕ, List, drop, length, map, sum_by, take, sym, ap, ◌∙◌, arith}
use Rattle.std.proofs.lemmas.List.{drop-map, length-map, length-take, take_all, take_rest}
use Rattle.tally.specs.declared.rows.Row.{Row}
use Rattle.tally.specs.Steps.{count_in}
use Rattle.ladder.specs.Sketches.{counted_seen, pieces_seen}
use Rattle.ladder.specs.Sums.{capped}
use Rattle.ladder.proofs.Adding.{bracket_added, sum_of_map}
use Rattle.ladder.proofs.Behind.{counted_from, drop_clamped}
use Rattle.ladder.proofs.asking.SketchSource.bracket_from.Goals as goal

pub returns : goal.returns
returns g c is =
    let alike = g.K.Likeness.alike in
    let sketch = c.args.self.now in
    let key = c.args.key.now in
    let number = c.args.number in
    let count : List (Row g.row.K.Denot) → ℕ = λ rows. count_in alike rows key in
    let seen = c.pieces-pieces in
    let items = take (length seen.result.now - c.min-next.result) (drop c.min-next.result seen.result.now) in
    let long : length (pieces_seen sketch) ≡ length seen.result.now = ap length (sym seen.ensures.rows) ∙ length-map seen.result.now (λ rows. rows.now) in
    let few : length (pieces_seen sketch) ≤ 20 = omega (arith, length-map (take sketch.count sketch.pieces) (λ rows. rows.now), length-take sketch.count sketch.pieces, sketch.within) in
    let later : map (λ rows. rows.now) items ≡ drop (number + 1) (pieces_seen sketch) =
    ap (map (λ rows. rows.now)) (take_rest seen.result.now c.min-next.result)
    ∙ sym (drop-map (λ rows. rows.now) c.min-next.result seen.result.now)
    ∙ ap (drop c.min-next.result) seen.ensures.rows
    ∙ drop_clamped (pieces_seen sketch) c.min-next.result (number + 1) (omega (arith, c.min-next.ensures, c.saturating_add.ensures, long)) (omega (arith, few)) in
    let floor : c.loop-later.floor ≡ capped (counted_seen alike sketch key) =
    omega (
      arith,
      c.loop-later.invariant,
      ap (λ rows. sum_by (λ rs. count rs.now) rows) (take_all c.loop-later.later-index items c.loop-later-test.false),
      sum_of_map (λ rows. rows.now) count items,
      ap (sum_by count) later,
      counted_from alike key (pieces_seen sketch) number c.args.rows.now is,
    ) in
    bracket_added c.loop-later.floor sketch.uncounted c.saturating_add-2.result (counted_seen alike sketch key) sketch.uncounted floor (omega arith) c.saturating_add-2.ensures
