-- The keys in a cover's rows, one after the other, and how many they are. Assumes nothing.
use Rattle.std.proofs.Common.{◌≡◌, ℕ, suc, ◌+◌, ◌++◌, take, slice_set, ◌*◌, ◌^◌, ◌<◌, ◌≤◌, All, List, [], ◌∷◌, drop, flat_map, length, map, slice_index_or, sym, ap, ◌∙◌, suc-mul, mul-le-mul_right, length-append, arith}
use Rattle.std.proofs.lemmas.List.{append_assoc, length-map, length-take, map-append}
use Rattle.std.proofs.Math.Seq.{take-suc-set}
use Rattle.std.proofs.lemmas.List.Elements.{All-head, All-tail}
use Rattle.std.proofs.lemmas.List.Concat.{flat_map-cons}
use Rattle.tally.specs.declared.rows.Row.{Row}
use Rattle.tally.specs.declared.rows.Head.{Head}
use Rattle.tally.specs.Slots.{held, in_use}
use Rattle.tally.specs.Steps.{Summary}
use Rattle.layout.specs.Blocks.{slot_of, Stretch}
use Rattle.layout.specs.Covers.{cover_of}
use Rattle.layout.specs.Inside.{IsShape}
use Rattle.layout.specs.Laws.{IsWindow}
use Rattle.layout.specs.Slots.{Shape}
use Rattle.layout.proofs.CoverLaws.{cover_is}
use Rattle.layout.proofs.SlotsOfBlocks.{rows_filled}
use Rattle.layout.proofs.SmallNumbers.{shape_rows}
use Rattle.ladder.specs.Sums.{keys_in, rows_in}
use Rattle.keeper.specs.Listing.{all_keys}
use Rattle.std.proofs.lemmas.List.Folds.{flat_map-map}
use Rattle.ladder.specs.Tables.{head_at, rows_of, Tables, tables, tally_at}

-- the rows in use of a block's slot
pub live_is : {K : Type 0} (rows : List (Row K)) (heads : List Head) (b : Stretch) (slot live : List (Row K)) (head : Head) → live ≡ (held slot head).rows → slot ≡ rows_of (tables rows heads) b → head ≡ head_at (tables rows heads) b
    → live ≡ (tally_at (tables rows heads) b).rows
live_is rows heads b slot live head told there found = told ∙ (λ i. (held (there i) (found i)).rows)

-- one block's rows on
pub piece_added : {X Y : Type 0} (now : X → Y) (f : Stretch → Y) (pieces : List X) (count : ℕ) (piece : X) (b : Stretch) (rest blocks : List Stretch) (whole : List Y) → count < length pieces → blocks ≡ b ∷ rest → now piece ≡ f b
    → map now (take count pieces) ++ map f blocks ≡ whole → map now (take (count + 1) (slice_set pieces count piece)) ++ map f rest ≡ whole
piece_added now f pieces count piece b rest blocks whole within split is all =
    let next : count + 1 ≡ suc count = omega arith in
    ap (λ n. map now (take n (slice_set pieces count piece)) ++ map f rest) next
    ∙ ap (λ ps. map now ps ++ map f rest) (take-suc-set pieces count piece within)
    ∙ ap (λ ys. ys ++ map f rest) (map-append now (take count pieces) (piece ∷ []))
    ∙ append_assoc (map now (take count pieces)) (now piece ∷ []) (map f rest)
    ∙ ap (λ y. map now (take count pieces) ++ y ∷ map f rest) is
    ∙ ap (λ bs. map now (take count pieces) ++ map f bs) (sym split)
    ∙ all

-- the keys in the rows of all blocks
pub keys_of_rows : {K : Type 0} (tally : Stretch → Summary K) (blocks : List Stretch) → all_keys (rows_in tally blocks) ≡ keys_in tally blocks
keys_of_rows tally blocks = flat_map-map (λ rows. map (λ row. row.key) rows) (λ b. (tally b).rows) blocks

-- no more than so many in each block
keys_by_block : {K : Type 0} (tally : Stretch → Summary K) (most : ℕ) (bs : List Stretch) → All (λ b. length (tally b).rows ≤ most) bs → length (keys_in tally bs) ≤ length bs * most
keys_by_block tally most [] few = omega arith
keys_by_block {K = K} tally most (b ∷ bs) few =
    let row_keys : Stretch → List K = λ c. map (λ row. row.key) (tally c).rows in
    omega (
      arith,
      ap length (flat_map-cons row_keys b bs),
      length-append (row_keys b) (flat_map row_keys bs),
      length-map (tally b).rows (λ row. row.key),
      All-head (λ c. length (tally c).rows ≤ most) b bs few,
      keys_by_block tally most bs (All-tail (λ c. length (tally c).rows ≤ most) b bs few),
      suc-mul (length bs) most,
    )

pub few_keys : {K : Type 0} (t : Tables K) (shape : Shape) (m n : ℕ) → IsShape shape.top shape.scales → IsWindow shape m n → length (keys_in (tally_at t) (cover_of shape m n)) < 2 ^ 32
few_keys t shape m n is window =
    let cover = cover_is shape m n is window in
    let most = 2 ^ 21 in
    let each : All (λ b. length (tally_at t b).rows ≤ most) (cover_of shape m n) = λ i d lo.
    let b = slice_index_or (cover_of shape m n) i d in
    omega (arith, shape_rows shape.top shape.scales is, (rows_filled shape).within b (cover.there i d lo), length-take (in_use (rows_of t b) (head_at t b)) (rows_of t b), length-take (slot_of b).rows (drop (slot_of b).start t.rows)) in
    omega (arith, keys_by_block (tally_at t) most (cover_of shape m n) each, cover.few, is.highest, mul-le-mul_right {m = length (cover_of shape m n)} {n = 20} most (omega (arith, cover.few, is.highest)))
