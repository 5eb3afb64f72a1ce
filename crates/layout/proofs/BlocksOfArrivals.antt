-- The blocks that an arrival falls into. Assumes nothing.
use Rattle.std.proofs.Common.{◌≡◌, ◌/◌, ⊎_elim, [], ◌∷◌, sym, subst, Contains, add-mul, one-mul, ℕ, zero, suc, ◌+◌, ◌-◌, ◌++◌, ◌<◌, ◌≤◌, All, refl, arith, div-add-mod'}
use Rattle.std.proofs.lemmas.List.Elements.{All-nil, All-cons, All-append, Contains-append_left, Contains-append_right, Contains-push}
use Rattle.std.proofs.Math.Nat.{div-eq_of_lt-le}
use Rattle.std.proofs.lemmas.Bool.{cases_eq, lt-ltb}
use Rattle.std.proofs.lemmas.Nat.{mod_below, pow_pos}
use Rattle.layout.specs.Slots.{Shape, block_size}
use Rattle.layout.specs.Blocks.{Stretch, block_of, blocks_from, scales_from, visits_left, visits_of}
use Rattle.layout.specs.Laws.{IsVisit}

-- all are left at first
pub visits_begin : (top m scales : ℕ) → visits_left top scales m 0 0 ≡ scales_from top m 0 scales
visits_begin top m zero = refl
visits_begin top m (suc n) =
    let all : top + 1 - 0 ≡ top + 1 = omega arith in
    let rest : suc n - 1 ≡ n = omega arith in
    rw (lt-ltb 0 (suc n) (omega arith)) (λ t. blocks_from top m 0 0 (all t) ++ scales_from top m 1 (rest t))

module _ (shape : Shape) (m : ℕ) where
  falls_into : (i j : ℕ) → i < shape.scales → j ≤ shape.top → IsVisit shape m (block_of shape.top m i j)
  falls_into i j scale level = record {
    there = record { top = refl; scale = scale; level = level };
    from = omega (arith, div-add-mod' m (block_size i j));
    below = omega (arith, div-add-mod' m (block_size i j), mod_below m (block_size i j) (pow_pos (i + j)));
  }

  -- each is there, and m falls into it
  levels_there : (i n j : ℕ) → i < shape.scales → j + n ≤ shape.top + 1 → All (IsVisit shape m) (blocks_from shape.top m i j n)
  levels_there i zero j there enough = All-nil (IsVisit shape m)
  levels_there i (suc n) j there enough = All-cons (IsVisit shape m) (block_of shape.top m i j) (blocks_from shape.top m i (j + 1) n)
      (falls_into i j there (omega arith))
      (levels_there i n (j + 1) there (omega arith))

  scales_there : (n i : ℕ) → i + n ≤ shape.scales → All (IsVisit shape m) (scales_from shape.top m i n)
  scales_there zero i enough = All-nil (IsVisit shape m)
  scales_there (suc n) i enough = All-append (IsVisit shape m) (blocks_from shape.top m i 0 (shape.top + 1)) (scales_from shape.top m (i + 1) n)
      (levels_there i (shape.top + 1) 0 (omega arith) (omega arith))
      (scales_there n (i + 1) (omega arith))

  -- whatever m falls into is among them
  in_levels : (n i j k : ℕ) → j ≤ k → k < j + n → Contains (blocks_from shape.top m i j n) (block_of shape.top m i k)
  in_levels zero i j k lo hi = absurd (omega arith)
  in_levels (suc n) i j k lo hi = ⊎_elim
      (λ (e : j ≡ k). subst (λ x. Contains (blocks_from shape.top m i j (suc n)) (block_of shape.top m i x)) e (Contains-append_left (block_of shape.top m i j ∷ []) (blocks_from shape.top m i (j + 1) n) (block_of shape.top m i j) (Contains-push [] (block_of shape.top m i j))))
      (λ (ne : j ≡ k → ⊥). Contains-append_right (block_of shape.top m i j ∷ []) (blocks_from shape.top m i (j + 1) n) (block_of shape.top m i k) (in_levels n i (j + 1) k (omega arith) (omega arith)))
      (cases_eq j k)

  in_scales : (n h i j : ℕ) → h ≤ i → i < h + n → j ≤ shape.top → Contains (scales_from shape.top m h n) (block_of shape.top m i j)
  in_scales zero h i j lo hi level = absurd (omega arith)
  in_scales (suc n) h i j lo hi level = ⊎_elim
      (λ (e : h ≡ i). Contains-append_left (blocks_from shape.top m h 0 (shape.top + 1)) (scales_from shape.top m (h + 1) n) (block_of shape.top m i j)
      (subst (λ x. Contains (blocks_from shape.top m x 0 (shape.top + 1)) (block_of shape.top m i j)) (sym e) (in_levels (shape.top + 1) i 0 j (omega arith) (omega arith))))
      (λ (ne : h ≡ i → ⊥). Contains-append_right (blocks_from shape.top m h 0 (shape.top + 1)) (scales_from shape.top m (h + 1) n) (block_of shape.top m i j) (in_scales n (h + 1) i j (omega arith) (omega arith) level))
      (cases_eq h i)

  -- a block that m falls into is the one of its level
  pub one_of_level : (b : Stretch) → IsVisit shape m b → block_of shape.top m b.scale b.level ≡ b
  one_of_level b v =
      let u = block_size b.scale b.level in
      let number : m / u ≡ b.number = div-eq_of_lt-le u v.from (omega (arith, v.below, add-mul b.number 1 u, one-mul u)) in
      λ t. record { top = sym v.there.top t; scale = b.scale; level = b.level; number = number t }

  pub visits_all : (b : Stretch) → IsVisit shape m b → Contains (visits_of shape m) b
  visits_all b v =
      subst (Contains (visits_of shape m)) (one_of_level b v) (in_scales shape.scales 0 b.scale b.level (omega arith) (omega (arith, v.there.scale)) v.there.level)

  pub visits_right : All (IsVisit shape m) (visits_of shape m)
  visits_right = scales_there shape.scales 0 (omega arith)
