-- The slots fill a table: slot after slot, level after level and scale after scale. Assumes nothing.
use Rattle.std.proofs.Common.{◌≡◌, ℕ, zero, suc, ◌+◌, ◌-◌, ◌*◌, ◌/◌, ◌%◌, ◌<◌, ◌≤◌, ◌⊎◌, ⊎_elim, subst, ap, arith, suc-mul, mul-le-mul_right, div-add-mod', mul-zero, add-one, sym, ◌∙◌}
use Rattle.std.proofs.lemmas.Bool.{cases_order, cases_lt, cases_eq}
use Rattle.std.proofs.lemmas.Nat.{div_below, mod_below}
use Rattle.layout.specs.Inside.{Begins}
use Rattle.layout.specs.Slots.{Shape, slots_at, rows_at, cells_below, rows_below, heads_below, scale_rows, scale_heads}
use Rattle.layout.proofs.Closed.{rows_of_scale, heads_of_scale}

-- slot s of level j of scale i is there
pub record IsSlot (shape : Shape) (i j s : ℕ) : Type 0 where
  pub scale : i < shape.scales
  pub level : j ≤ shape.top
  pub slot : s < slots_at shape.top j

-- cell x of a table is one of that slot's, which has `each j` cells from `start i j s` on
pub record InSlot (start : ℕ → ℕ → ℕ → ℕ) (each : ℕ → ℕ) (shape : Shape) (x i j s : ℕ) : Type 0 where
  pub there : IsSlot shape i j s
  pub from : start i j s ≤ x
  pub below : x < start i j s + each j

-- something is so for three numbers, and for no others
pub record JustOne (P : ℕ → ℕ → ℕ → Type 0) : Type 0 where
  pub scale : ℕ
  pub level : ℕ
  pub slot : ℕ
  pub holds : P scale level slot
  pub only : (i j s : ℕ) → P i j s → (i ≡ scale) × (j ≡ level) × (s ≡ slot)

-- the slots fill so many cells: each is one slot's and no other's, and no slot goes beyond them
pub record Filled (start : ℕ → ℕ → ℕ → ℕ) (each : ℕ → ℕ) (shape : Shape) (cells : ℕ) : Type 0 where
  pub once : (x : ℕ) → x < cells → JustOne (InSlot start each shape x)
  pub within : (i j s : ℕ) → IsSlot shape i j s → start i j s + each j ≤ cells

-- a factor of a product that something is less than
positive_factor : (x a b : ℕ) → x < a * b → 0 < b
positive_factor x a b h = ⊎_elim (λ (z : b ≡ 0). absurd (omega (arith, h, ap (λ w. a * w) z, mul-zero a))) (λ (n : b ≡ 0 → ⊥). omega arith) (cases_eq b 0)

-- part i of n parts ends by their end
part_end : (i n width : ℕ) → i < n → i * width + width ≤ n * width
part_end i n width h = omega (arith, suc-mul i width, mul-le-mul_right {m = suc i} {n = n} width h)

module _ (each : ℕ → ℕ) (top : ℕ) where
  below_mono : (i j : ℕ) → i ≤ j → cells_below each top i ≤ cells_below each top j
  below_mono i zero h = let e : i ≡ 0 = omega arith in rw e (omega arith)
  below_mono i (suc j) h = ⊎_elim
      (λ (e : i ≡ suc j). rw e (omega arith))
      (λ (o : (i < suc j) ⊎ (suc j < i)). omega (arith, below_mono i j (⊎_elim (λ p. omega arith) (λ p. absurd (omega arith)) o)))
      (cases_order i (suc j))

  -- a slot ends by the end of its level
  level_end : (j s : ℕ) → s < slots_at top j → cells_below each top j + s * each j + each j ≤ cells_below each top (suc j)
  level_end j s h = omega (arith, part_end s (slots_at top j) (each j) h)

  -- the level that a cell below level n is in
  record InLevel (n x : ℕ) : Type 0 where
    pub level : ℕ
    pub there : level < n
    pub from : cells_below each top level ≤ x
    pub below : x < cells_below each top (suc level)

  in_level : (n x : ℕ) → x < cells_below each top n → InLevel n x
  in_level zero x h = absurd (omega arith)
  in_level (suc n) x h = ⊎_elim
      (λ (u : x < cells_below each top n). let l = in_level n x u in record { level = l.level; there = omega (arith, l.there); from = l.from; below = l.below })
      (λ (u : cells_below each top n ≤ x). record { level = n; there = omega arith; from = u; below = h })
      (cases_lt x (cells_below each top n))

module _ (each : ℕ → ℕ) (top whole : ℕ) (all : cells_below each top (top + 1) ≡ whole) where
  -- where slot s of level j of scale i begins
  abbrev pub start : ℕ → ℕ → ℕ → ℕ
  start i j s = i * whole + cells_below each top j + s * each j

  -- a level ends by the end of so many scales, and so does each of its slots
  pub level_by : (n i j : ℕ) → i < n → j ≤ top → i * whole + cells_below each top (suc j) ≤ n * whole
  level_by n i j hi hj = omega (arith, all, below_mono each top (suc j) (top + 1) (omega arith), part_end i n whole hi)

  slot_by : (n i j s : ℕ) → i < n → j ≤ top → s < slots_at top j → start i j s + each j ≤ n * whole
  slot_by n i j s hi hj hs = omega (arith, level_end each top j s hs, level_by n i j hi hj)

  -- a cell of two slots: neither of them comes before the other
  same_scale : (x i j s i' j' s' : ℕ) → j ≤ top → s < slots_at top j → x < start i j s + each j → start i' j' s' ≤ x → i' ≤ i
  same_scale x i j s i' j' s' hj hs below from = ⊎_elim
      (λ (u : i < i'). absurd (omega (arith, slot_by i' i j s u hj hs)))
      (λ (u : i' ≤ i). u)
      (cases_lt i i')

  same_level : (x i j s j' s' : ℕ) → s < slots_at top j → x < start i j s + each j → start i j' s' ≤ x → j' ≤ j
  same_level x i j s j' s' hs below from = ⊎_elim
      (λ (u : j < j'). absurd (omega (arith, level_end each top j s hs, below_mono each top (suc j) j' u)))
      (λ (u : j' ≤ j). u)
      (cases_lt j j')

  same_slot : (x i j s s' : ℕ) → x < start i j s + each j → start i j s' ≤ x → s' ≤ s
  same_slot x i j s s' below from = ⊎_elim
      (λ (u : s < s'). absurd (omega (arith, part_end s s' (each j) u)))
      (λ (u : s' ≤ s). u)
      (cases_lt s s')

module _ (each : ℕ → ℕ) (shape : Shape) (whole : ℕ) (all : cells_below each shape.top (shape.top + 1) ≡ whole) where
  -- a cell is one slot's alone
  cell_of_one_slot : (x i j s i' j' s' : ℕ) → InSlot (start each shape.top whole all) each shape x i j s → InSlot (start each shape.top whole all) each shape x i' j' s' → (i' ≡ i) × (j' ≡ j) × (s' ≡ s)
  cell_of_one_slot x i j s i' j' s' h h' =
      let top = shape.top in
      let scale : i' ≡ i = omega (
        arith,
        same_scale each top whole all x i j s i' j' s' h.there.level h.there.slot h.below h'.from,
        same_scale each top whole all x i' j' s' i j s h'.there.level h'.there.slot h'.below h.from,
      ) in
      let at = subst (λ n. InSlot (start each top whole all) each shape x n j' s') scale h' in
      let level : j' ≡ j = omega (
        arith,
        same_level each top whole all x i j s j' s' h.there.slot h.below at.from,
        same_level each top whole all x i j' s' j s at.there.slot at.below h.from,
      ) in
      let on = subst (λ n. InSlot (start each top whole all) each shape x i n s') level at in (
        scale,
        level,
        omega (
          arith,
          same_slot each top whole all x i j s s' h.below on.from,
          same_slot each top whole all x i j s' s on.below h.from,
        ),
      )

  -- whatever so many scales need of a table, they fill
  pub filled : Filled (start each shape.top whole all) each shape (shape.scales * whole)
  filled = record {
    within = λ i j s h. slot_by each shape.top whole all shape.scales i j s h.scale h.level h.slot;
    once = λ x h.
        let pos = positive_factor x shape.scales whole h in
        let i = x / whole in
        let split = div-add-mod' x whole in
        let l = in_level each shape.top (shape.top + 1) (x % whole) (omega (arith, all, mod_below x whole pos)) in
        let left = x % whole - cells_below each shape.top l.level in
        let inside : left < slots_at shape.top l.level * each l.level = omega (arith, l.below, l.from) in
        let some = positive_factor left (slots_at shape.top l.level) (each l.level) inside in
        let s = left / each l.level in
        let cut = div-add-mod' left (each l.level) in
        let here : InSlot (start each shape.top whole all) each shape x i l.level s = record {
          there = record { scale = div_below x whole shape.scales pos h; level = omega (arith, l.there); slot = div_below left (each l.level) (slots_at shape.top l.level) some inside };
          from = omega (arith, split, cut, l.from);
          below = omega (arith, split, cut, l.from, mod_below left (each l.level) some);
        } in
        record { scale = i; level = l.level; slot = s; holds = here; only = λ i' j' s' other. cell_of_one_slot x i l.level s i' j' s' here other };
  }

-- behind the last level of the last scale there is nothing more
last_end : (scales whole below : ℕ) → 1 ≤ scales → below ≡ whole → (scales - 1) * whole + below ≡ scales * whole
last_end scales whole below some e =
    let one : scales ≡ suc (scales - 1) = omega arith in
    omega (arith, e, ap (λ n. n * whole) one, suc-mul (scales - 1) whole)

pub rows_end : (top scales : ℕ) → 1 ≤ scales → (scales - 1) * scale_rows top + rows_below top top + slots_at top top * rows_at top top ≡ scales * scale_rows top
rows_end top scales some = omega (arith, last_end scales (scale_rows top) (rows_below top (suc top)) some (ap (rows_below top) (sym (add-one top)) ∙ rows_of_scale top))

pub heads_end : (top scales : ℕ) → 1 ≤ scales → (scales - 1) * scale_heads top + heads_below top top + slots_at top top ≡ scales * scale_heads top
heads_end top scales some = omega (arith, last_end scales (scale_heads top) (heads_below top (suc top)) some (ap (heads_below top) (sym (add-one top)) ∙ heads_of_scale top))

-- behind the last level of a scale the next scale begins
pub scale_behind : (top i j r h : ℕ) → j ≤ top → top ≤ j → r ≡ i * scale_rows top + rows_below top j + slots_at top j * rows_at top j → h ≡ i * scale_heads top + heads_below top j + slots_at top j → Begins top (i + 1) 0 r h
scale_behind top i j r h level last row head =
    let at : j ≡ top = omega arith in
    let one : i + 1 - 1 ≡ i = omega arith in
    record {
      row = omega (arith, row, ap (λ l. rows_below top l + slots_at top l * rows_at top l) at, rows_end top (i + 1) (omega arith), ap (λ n. n * scale_rows top) one);
      head = omega (arith, head, ap (λ l. heads_below top l + slots_at top l) at, heads_end top (i + 1) (omega arith), ap (λ n. n * scale_heads top) one);
    }
