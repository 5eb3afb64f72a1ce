-- Counts of the window itself are right, and so is a list of them. Assumes nothing.
use Rattle.std.proofs.Common.{◌≡◌, ℕ, ◌-◌, ◌*◌, ◌^◌, ◌<◌, ◌≤◌, Bool, true, List, length, refl, ap, mul-zero, arith}
use Rattle.std.proofs.lemmas.List.Sums.{count_by-le-length}
use Rattle.keeper.specs.Rules.{Bracket, Lists}
use Rattle.keeper.specs.Listing.{among}
use Rattle.keeper.proofs.Listings.{all_stand, listed_lists}
use Rattle.likeness.proofs.Counting.{stands_any}
use Rattle.likeness.specs.Counts.{true_count}
use Rattle.ring.specs.Rings.{exactly, listing_of}

no_gap : (p n count : ℕ) → 1 ≤ n → p * (count - count) < n
no_gap p n count some = let none : count - count ≡ 0 = omega arith in rw (none, mul-zero) some

module _ {K : Type 0} (alike : K → K → Bool) (window : List K) where
  pub exact_bracket : (a : ℕ) (k : K) → Bracket a (length window) (true_count alike window k) (exactly alike window k)
  exact_bracket a k = record {
    floor = omega arith;
    ceiling = omega arith;
    near = no_gap (2 ^ a) (length window) (true_count alike window k);
    none = λ empty. let z : true_count alike window k ≡ 0 = omega (arith, count_by-le-length (λ x. alike x k) window) in ap (λ n. (n, n)) z;
  }

  pub exact_lists : ((x : K) → alike x x ≡ true) → ((x y : K) → alike x y ≡ true → alike y x ≡ true) → ((x y z : K) → alike x y ≡ true → alike y z ≡ true → alike x z ≡ true)
      → (a threshold : ℕ) → 1 ≤ threshold → Lists alike a threshold window (listing_of alike window threshold)
  exact_lists self symm tran a threshold some =
      listed_lists alike symm tran a threshold (exactly alike window) window window (exact_bracket a) (all_stand alike self window) (λ k enough. (stands_any alike window k (among alike window k) refl).1 (omega arith))
