-- The laws of a cover, whose scale and ends the code has found. Assumes nothing.
use Rattle.std.proofs.Common.{◌≡◌, ℕ, ◌-◌, sum_by, refl, ap, ◌∙◌, subst, arith}
use Rattle.layout.specs.Slots.{Shape}
use Rattle.layout.specs.Inside.{IsShape}
use Rattle.layout.specs.Blocks.{size}
use Rattle.layout.specs.Covers.{cover_of, scale_of, start_of, end_of, walk_between, ignored_of}
use Rattle.layout.specs.Laws.{AreEnds, IsWindow, IsCoverFrom, IsCover, IsNear}
use Rattle.layout.proofs.Answering.{arrivals_covered, cover_found, of_one_scale, cover_between}
use Rattle.layout.proofs.Edges.{are_ends}
use Rattle.layout.proofs.Nearness.{is_near}

module _ (shape : Shape) (m n i p q : ℕ) (is : IsShape shape.top shape.scales) (scale : i ≡ scale_of shape n) (start : p ≡ start_of i m n) (end : q ≡ end_of i m) where
  ends : AreEnds i m n p q
  ends = are_ends shape i m n p q (omega (arith, is.lowest)) scale start end

  pub cover_left : n - (q - p) ≡ ignored_of shape m n
  cover_left = omega (arith, arrivals_covered shape m n i p q ends, ap (sum_by size) (cover_found shape m n i p q scale start end))

  between : IsWindow shape m n → IsCoverFrom shape m n p q (walk_between shape.top i p q) (n - (q - p))
  between window = cover_between shape m n is window i p q scale ends (n - (q - p)) (omega (arith, arrivals_covered shape m n i p q ends, ends.ordered))

  pub cover_right : IsWindow shape m n → IsCover shape m n (walk_between shape.top i p q) (n - (q - p))
  cover_right window =
      let blocks = walk_between shape.top i p q in
      subst (λ b. IsCoverFrom shape m n (start_of (scale_of shape n) m n) b blocks (n - (q - p))) (end ∙ ap (λ k. end_of k m) scale)
      (subst (λ a. IsCoverFrom shape m n a q blocks (n - (q - p))) (start ∙ ap (λ k. start_of k m n) scale) (between window))

  pub cover_near : IsWindow shape m n → IsNear shape n (walk_between shape.top i p q) (n - (q - p))
  cover_near window = is_near shape m n i p q (omega (arith, is.lowest)) scale window.come ends (n - (q - p)) (walk_between shape.top i p q) (arrivals_covered shape m n i p q ends)
      (between window).few (between window).whole (of_one_scale shape.top i q ends.end (q - p) p (omega (arith, ends.ordered)) ends.start)

-- the cover of a window keeps the laws
module _ (shape : Shape) (m n : ℕ) (is : IsShape shape.top shape.scales) (window : IsWindow shape m n) where
  pub cover_is : IsCover shape m n (cover_of shape m n) (ignored_of shape m n)
  cover_is = subst (IsCover shape m n (cover_of shape m n)) (cover_left shape m n _ _ _ is refl refl refl) (cover_right shape m n _ _ _ is refl refl refl window)

  pub cover_is_near : IsNear shape n (cover_of shape m n) (ignored_of shape m n)
  cover_is_near = subst (IsNear shape n (cover_of shape m n)) (cover_left shape m n _ _ _ is refl refl refl) (cover_near shape m n _ _ _ is refl refl refl window)
