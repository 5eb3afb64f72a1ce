-- The largest level whose block fits, and what shows that a level is it. Assumes nothing.
use Rattle.std.proofs.Common.{◌≡◌, ℕ, zero, suc, ◌+◌, ◌%◌, ◌<◌, ◌≤◌, ◌⊎◌, true, false, ⊎_elim, subst, sym, arith}
use Rattle.std.proofs.lemmas.Bool.{and_parts, and_from, eqb-true, leb-true, eq-eqb, le-leb, cases_order, cases_Bool, false_from_ne_true}
use Rattle.layout.specs.Slots.{block_size}
use Rattle.layout.specs.Covers.{fits, level_at}

module _ (i p q : ℕ) where
  -- the block of level j starts at a multiple of its size, and ends in time
  pub record Fits (j : ℕ) : Type 0 where
    pub multiple : p % block_size i j ≡ 0
    pub ends : p + block_size i j ≤ q

  fits_means : (j : ℕ) → fits i p q j ≡ true → Fits j
  fits_means j e = let both = and_parts _ _ e in record { multiple = eqb-true _ _ both.0; ends = leb-true _ _ both.1 }

  pub fits_when : (j : ℕ) → Fits j → fits i p q j ≡ true
  fits_when j f = and_from _ _ (eq-eqb _ _ f.multiple) (le-leb _ _ f.ends)

  fits_not : (j : ℕ) → (Fits j → ⊥) → fits i p q j ≡ false
  fits_not j unfit = false_from_ne_true _ (λ e. unfit (fits_means j e))

  -- a level fits, and none above it does
  pub record IsBest (top j : ℕ) : Type 0 where
    pub level : j ≤ top
    pub here : Fits j
    pub above : (h : ℕ) → j < h → h ≤ top → fits i p q h ≡ false

  -- where the smallest block fits
  pub best : (top : ℕ) → Fits 0 → IsBest top (level_at i p q top)
  best zero least = record { level = omega arith; here = least; above = λ h lo hi. absurd (omega arith) }
  best (suc t) least = ⊎_elim
      (λ (e : fits i p q (suc t) ≡ true). rw e (record { level = omega arith; here = fits_means (suc t) e; above = λ h lo hi. absurd (omega arith) }))
      (λ (e : fits i p q (suc t) ≡ false).
      let below = best t least in
      rw e (record {
        level = omega (arith, below.level);
        here = below.here;
        above = λ h lo hi. ⊎_elim
            (λ (s : h ≡ suc t). subst (λ n. fits i p q n ≡ false) (sym s) e)
            (λ (o : (h < suc t) ⊎ (suc t < h)). below.above h lo (⊎_elim (λ u. omega arith) (λ u. absurd (omega arith)) o))
            (cases_order h (suc t));
      }))
      (cases_Bool (fits i p q (suc t)))

  -- a level that fits, unless it is 0, and above which none does is the one
  pub level_is : (top j : ℕ) → j ≤ top → (0 < j → Fits j) → ((h : ℕ) → j < h → h ≤ top → Fits h → ⊥) → level_at i p q top ≡ j
  level_is zero j le fit unfit = omega arith
  level_is (suc t) j le fit unfit = ⊎_elim
      (λ (e : j ≡ suc t). rw (fits_when (suc t) (subst Fits e (fit (omega arith)))) (sym e))
      (λ (o : (j < suc t) ⊎ (suc t < j)). ⊎_elim
      (λ (u : j < suc t). rw (fits_not (suc t) (unfit (suc t) u (omega arith))) (level_is t j (omega arith) fit (λ h lo hi. unfit h lo (omega arith))))
      (λ (u : suc t < j). absurd (omega arith))
      o)
      (cases_order j (suc t))
