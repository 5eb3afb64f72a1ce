use Rattle.std.proofs.Common.{◌≡◌, ◌<◌, ◌+◌, drop, length, map, ap, ◌∙◌, rules, arith}
use Rattle.std.proofs.lemmas.List.{append-nil, drop_all, length-map}
use Rattle.std.proofs.lemmas.List.Sums.{count_by-le-length}
use Rattle.keeper.specs.Listing.{all_keys, keys_in}
use Rattle.likeness.specs.Counts.{true_count}
use Rattle.ring.proofs.Counting.{counted_from, second_behind}
use Rattle.ring.proofs.window.WindowSource.bracket_from.Goals as goal
use Rattle.ring.proofs.window.WindowSource.bracket_from.Goals.{then-number-eq0, else-number-eq0}

pub returns : goal.returns
returns g c is =
    let alike = g.K.Likeness.alike in
    let key = c.args.key.now in
    let number = c.args.number in
    let pieces = map (λ rows. rows.now) c.args.self.now.pieces in
    let two : length c.args.self.now.pieces ≡ 2 = search rules in
    let few : true_count alike (all_keys pieces) key < 4294967296 = omega (arith, count_by-le-length (λ x. alike x key) (all_keys pieces), c.args.self.now.short) in
    let count : c.if-number-eq0.count ≡ true_count alike (all_keys pieces) key =
    elim c.if-number-eq0.branch [
      | then-number-eq0 w ↦
          let second = ap (λ n. drop (n + 1) pieces) w.if-number-eq0.true ∙ second_behind (λ rows. rows.now) c.args.self.now.pieces w.index-pieces-1.result two w.index-pieces-1.is in
          omega (
            arith,
            w.count-is,
            w.saturating_add-count.ensures,
            w.count_alike.ensures,
            c.count_alike-count.ensures,
            ap (λ ps. true_count alike (all_keys ps) key) second,
            ap (λ keys. true_count alike keys key) (append-nil (keys_in w.index-pieces-1.result.now)),
            counted_from alike pieces number c.args.rows.now key is,
            few,
          )
      | else-number-eq0 w ↦
          omega (
            arith,
            w.count-is,
            c.count_alike-count.ensures,
            counted_from alike pieces number c.args.rows.now key is,
            ap (λ ps. true_count alike (all_keys ps) key) (drop_all (number + 1) pieces (omega (arith, two, length-map c.args.self.now.pieces (λ rows. rows.now), w.if-number-eq0.false))),
          )
    ] in
    let all : c.min-count.result ≡ true_count alike (all_keys pieces) key = omega (arith, c.min-count.ensures, count, few) in
    λ t. (all t, all t)
