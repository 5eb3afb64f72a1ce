-- The walk, block by block. Assumes nothing.
use Rattle.std.proofs.Common.{◌≡◌, ℕ, zero, suc, ◌+◌, ◌-◌, ◌<◌, ◌≤◌, ⊎_elim, [], ◌∷◌, sym, ap, refl, ◌∙◌, arith}
use Rattle.std.proofs.lemmas.Bool.{cases_lt, lt-ltb, le-ltb}
use Rattle.std.proofs.lemmas.Nat.{pow_pos}
use Rattle.layout.specs.Slots.{block_size}
use Rattle.layout.specs.Blocks.{Stretch, size, block_of}
use Rattle.layout.specs.Covers.{level_at, walk, walk_between}

module _ (top i q : ℕ) where
  -- the block that the walk takes at p, and where the next one begins
  abbrev pub taken : ℕ → Stretch
  taken p = block_of top p i (level_at i p q top)

  abbrev pub after : ℕ → ℕ
  after p = p + block_size i (level_at i p q top)

  pub walk_more : (n p : ℕ) → p < q → walk top i (suc n) p q ≡ taken p ∷ walk top i n (after p) q
  walk_more n p h = rw (lt-ltb p q h) refl

  pub walk_done : (n p : ℕ) → q ≤ p → walk top i n p q ≡ []
  walk_done zero p h = refl
  walk_done (suc n) p h = rw (le-ltb p q h) refl

  -- so many blocks as are enough give the same walk
  walk_same : (n m p : ℕ) → q ≤ p + n → q ≤ p + m → walk top i n p q ≡ walk top i m p q
  walk_same zero m p hn hm = walk_done zero p (omega arith) ∙ sym (walk_done m p (omega arith))
  walk_same (suc n) zero p hn hm = walk_done (suc n) p (omega arith) ∙ sym (walk_done zero p (omega arith))
  walk_same (suc n) (suc m) p hn hm = ⊎_elim
      (λ (h : p < q).
      let pos = pow_pos (i + level_at i p q top) in
      walk_more n p h ∙ ap (λ bs. taken p ∷ bs) (walk_same n m (after p) (omega arith) (omega arith)) ∙ sym (walk_more m p h))
      (λ (h : q ≤ p). walk_done (suc n) p h ∙ sym (walk_done (suc m) p h))
      (cases_lt p q)

  pub walk_next : (p : ℕ) → p < q → walk_between top i p q ≡ taken p ∷ walk_between top i (after p) q
  walk_next p h =
      let pos = pow_pos (i + level_at i p q top) in
      walk_same (q - p) (suc (q - p)) p (omega arith) (omega arith) ∙ walk_more (q - p) p h ∙ ap (λ bs. taken p ∷ bs) (walk_same (q - p) (q - after p) (after p) (omega arith) (omega arith))

  pub walk_end : (p : ℕ) → q ≤ p → walk_between top i p q ≡ []
  walk_end p h = walk_done (q - p) p h

  -- a step of the walk, as the code takes it
  pub walk_step : (p n : ℕ) (b : Stretch) → p < q → b ≡ taken p → n ≡ size b → walk_between top i p q ≡ b ∷ walk_between top i (p + n) q
  walk_step p n b h is long = walk_next p h ∙ (λ t. sym is t ∷ walk_between top i (p + sym (long ∙ ap size is) t) q)
