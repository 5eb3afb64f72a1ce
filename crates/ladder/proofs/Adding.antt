-- Adding up over blocks, where a sum stops at the highest number of 32 bits. Assumes nothing.
use Rattle.std.proofs.Common.{◌≡◌, ℕ, ◌+◌, ◌<◌, min, List, [], ◌∷◌, get_or, length, map, take, sum_by, refl, ap, arith}
use Rattle.std.proofs.lemmas.List.Sums.{sum_by-append, sum_by-cons}
use Rattle.std.proofs.lemmas.List.{take_more}
use Rattle.layout.specs.Blocks.{Stretch}
use Rattle.ladder.specs.Sums.{capped}

-- one block on
pub block_added : (f : Stretch → ℕ) (b : Stretch) (rest blocks : List Stretch) (sum added next whole : ℕ) → blocks ≡ b ∷ rest → added ≡ f b → next ≡ min (sum + added) 4294967295
    → capped (sum + sum_by f blocks) ≡ whole → capped (next + sum_by f rest) ≡ whole
block_added f b rest blocks sum added next whole split is more all = omega (arith, ap (sum_by f) split, sum_by-cons f b rest, is, more, all)

-- a sum over what a list is taken to
pub sum_of_map : {X Y : Type 0} (f : X → Y) (g : Y → ℕ) (xs : List X) → sum_by (λ x. g (f x)) xs ≡ sum_by g (map f xs)
sum_of_map f g [] = refl
sum_of_map f g (x ∷ xs) = omega (arith, sum_by-cons (λ y. g (f y)) x xs, sum_by-cons g (f x) (map f xs), sum_of_map f g xs)

-- one element on, from the front
pub element_added : {X : Type 0} (f : X → ℕ) (first : ℕ) (x : X) (xs : List X) (i sum next : ℕ) → i < length xs → x ≡ get_or xs i x → sum ≡ capped (first + sum_by f (take i xs)) → next ≡ min (sum + f x) 4294967295
    → next ≡ capped (first + sum_by f (take (i + 1) xs))
element_added f first x xs i sum next within here so_far is =
    omega (
      arith,
      so_far,
      is,
      ap f here,
      ap (sum_by f) (take_more xs i x within),
      sum_by-append f (take i xs) (get_or xs i x ∷ []),
      sum_by-cons f (get_or xs i x) [],
    )

-- both ends of a bracket, once all is counted and what is not counted is known
pub bracket_added : (floor uncounted ceiling counted lost : ℕ) → floor ≡ capped counted → capped uncounted ≡ capped lost → ceiling ≡ min (floor + uncounted) 4294967295
    → ◌≡◌ {A = ℕ × ℕ} (floor, ceiling) (capped counted, capped (counted + lost))
bracket_added floor uncounted ceiling counted lost first gap top =
    let second : ceiling ≡ capped (counted + lost) = omega (arith, first, gap, top) in
    λ t. (first t, second t)
