-- The slots that blocks use fill both tables, since the slots by scale, level and turn do. Assumes nothing.
use Rattle.std.proofs.Common.{refl, mod-eq_of_lt, ◌≡◌, ℕ, ◌*◌, ◌%◌, ap, arith, mul-one, sym, ◌∙◌}
use Rattle.std.proofs.lemmas.Nat.{mod_below}
use Rattle.layout.specs.declared.place.Place.{Place}
use Rattle.layout.specs.Slots.{Shape, slots_at, rows_at, scale_rows, scale_heads, slot_at}
use Rattle.layout.specs.Blocks.{Stretch, slot_of}
use Rattle.layout.specs.Laws.{IsBlock, HasCell, Fill, FillRows, FillHeads}
use Rattle.layout.proofs.Closed.{rows_of_scale, heads_of_scale}
use Rattle.layout.proofs.Filling.{IsSlot, InSlot, Filled, start, filled}

-- the slot of a block is one of its level's
module _ (shape : Shape) (b : Stretch) (is : IsBlock shape b) where
  slot_is : slot_of b ≡ slot_at shape.top b.scale b.level (b.number % slots_at shape.top b.level)
  slot_is = ap (λ t. slot_at t b.scale b.level (b.number % slots_at t b.level)) is.top

  slot_there : IsSlot shape b.scale b.level (b.number % slots_at shape.top b.level)
  slot_there = record { scale = is.scale; level = is.level; slot = mod_below b.number (slots_at shape.top b.level) (omega arith) }

-- what the slots fill, counted by scale, level and turn, the blocks' slots fill
module _ (shape : Shape) (cells : ℕ) (start : ℕ → ℕ → ℕ → ℕ) (each : ℕ → ℕ) (from many : Place → ℕ)
    (starts : (i j s : ℕ) → from (slot_at shape.top i j s) ≡ start i j s) (manys : (i j s : ℕ) → many (slot_at shape.top i j s) ≡ each j) (f : Filled start each shape cells) where
  in_slot : (x : ℕ) (b : Stretch) (is : IsBlock shape b) → HasCell from many x (slot_of b) → InSlot start each shape x b.scale b.level (b.number % slots_at shape.top b.level)
  in_slot x b is h =
      let s = b.number % slots_at shape.top b.level in
      let e = slot_is shape b is in
      record {
        there = slot_there shape b is;
        from = omega (arith, h.from, ap from e, starts b.scale b.level s);
        below = omega (arith, h.below, ap from e, ap many e, starts b.scale b.level s, manys b.scale b.level s);
      }

  by_blocks : Fill from many shape cells
  by_blocks = record {
    filled = λ x h.
        let one = f.once x h in
        let at : one.slot % slots_at shape.top one.level ≡ one.slot = mod-eq_of_lt one.holds.there.slot in
        let same = ap (slot_at shape.top one.scale one.level) at in
        let b : Stretch = record { top = shape.top; scale = one.scale; level = one.level; number = one.slot } in (
          b,
          (
            record { top = refl; scale = one.holds.there.scale; level = one.holds.there.level },
            record {
              from = omega (arith, one.holds.from, ap from same, starts one.scale one.level one.slot);
              below = omega (arith, one.holds.below, ap from same, ap many same, starts one.scale one.level one.slot, manys one.scale one.level one.slot);
            },
          ),
        );
    apart = λ x b c isb isc hb hc.
        let xb = in_slot x b isb hb in
        let xc = in_slot x c isc hc in
        let one = f.once x (omega (arith, xb.below, f.within b.scale b.level (b.number % slots_at shape.top b.level) xb.there)) in
        let ob = one.only _ _ _ xb in
        let oc = one.only _ _ _ xc in
        slot_is shape b isb ∙ (λ t. slot_at shape.top (ob.0 t) (ob.1 t) (ob.2 t)) ∙ sym (slot_is shape c isc ∙ (λ t. slot_at shape.top (oc.0 t) (oc.1 t) (oc.2 t)));
    within = λ b is.
        let s = b.number % slots_at shape.top b.level in
        let e = slot_is shape b is in
        omega (arith, f.within b.scale b.level s (slot_there shape b is), ap from e, ap many e, starts b.scale b.level s, manys b.scale b.level s);
  }

-- the rows are filled, and the heads
pub rows_filled : (shape : Shape) → FillRows shape (shape.scales * scale_rows shape.top)
rows_filled shape = by_blocks shape _ _ _ (λ s. s.start) (λ s. s.rows) (λ i j s. refl) (λ i j s. refl) (filled (rows_at shape.top) shape (scale_rows shape.top) (rows_of_scale shape.top))

heads_by_turn : (shape : Shape) → Filled (start (λ j. 1) shape.top (scale_heads shape.top) (heads_of_scale shape.top)) (λ j. 1) shape (shape.scales * scale_heads shape.top)
heads_by_turn shape = filled (λ j. 1) shape (scale_heads shape.top) (heads_of_scale shape.top)

pub heads_filled : (shape : Shape) → FillHeads shape (shape.scales * scale_heads shape.top)
heads_filled shape = by_blocks shape _ _ _ (λ s. s.head) (λ s. 1) (λ i j s. omega (arith, mul-one s)) (λ i j s. refl) (heads_by_turn shape)

-- blocks with one slot are of one level, and their numbers leave one remainder
pub same_turn : (shape : Shape) (b c : Stretch) → IsBlock shape b → IsBlock shape c → slot_of c ≡ slot_of b → (c.scale ≡ b.scale) × (c.level ≡ b.level) × (c.number % slots_at shape.top c.level ≡ b.number % slots_at shape.top b.level)
same_turn shape b c isb isc e =
    let f = heads_by_turn shape in
    let x = (slot_of b).head in
    let at = in_slot shape _ _ _ (λ s. s.head) (λ s. 1) (λ i j s. omega (arith, mul-one s)) (λ i j s. refl) f x b isb (record { from = omega arith; below = omega arith }) in
    let on = in_slot shape _ _ _ (λ s. s.head) (λ s. 1) (λ i j s. omega (arith, mul-one s)) (λ i j s. refl) f x c isc (record { from = omega (arith, ap (λ s. s.head) e); below = omega (arith, ap (λ s. s.head) e) }) in
    let one = f.once x (omega (arith, at.below, f.within b.scale b.level (b.number % slots_at shape.top b.level) at.there)) in
    let ob = one.only _ _ _ at in
    let oc = one.only _ _ _ on in
    (oc.0 ∙ sym ob.0, oc.1 ∙ sym ob.1, oc.2 ∙ sym ob.2)
