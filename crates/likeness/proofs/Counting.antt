-- Counting the keys of a window one by one, and by likeness. Assumes nothing; the last lemma takes alike to be symmetric and transitive.
use Rattle.std.proofs.Common.{◌≡◌, ℕ, ◌+◌, ◌<◌, ◌≤◌, Bool, true, false, cond, List, [], ◌∷◌, length, get_or, take, count_by, IsTrue, ◌↔◌, refl, ap, ◌∙◌, arith}
use mir.Val.{bool_byte}
use Rattle.std.specs.List.{list_any}
use Rattle.std.proofs.lemmas.List.Sums.{sum_by_more, sum_by-cons}
use Rattle.likeness.specs.Counts.{Stands, true_count}

byte_cond : (b : Bool) → (bool_byte b ≡ cond b 1 0) × (bool_byte b ≤ 1)
byte_cond true = (refl, omega arith)
byte_cond false = (refl, omega arith)

-- the first i of xs held n that pass; the next one, x, passes if b says so
pub counted_more : {X : Type 0} (p : X → Bool) (xs : List X) (i : ℕ) (x : X) (b : Bool) (n : ℕ) → i < length xs → x ≡ get_or xs i x → b ≡ p x → (n ≡ count_by p (take i xs)) × (n ≤ i)
    → (n + bool_byte b ≡ count_by p (take (i + 1) xs)) × (n + bool_byte b ≤ i + 1)
counted_more p xs i x b n within read test inv =
    let next = sum_by_more (λ y. cond (p y) 1 0) xs i x within in
    let one : bool_byte b ≡ cond (p (get_or xs i x)) 1 0 = (byte_cond b).0 ∙ ap (λ t. cond t 1 0) (test ∙ ap p read) in
    (omega (arith, inv.0, next, one), omega (arith, (byte_cond b).1, inv.1))

-- a key stands in the window exactly where one of the window's keys is alike to it
pub stands_any : {K : Type 0} (alike : K → K → Bool) (window : List K) (k : K) (b : Bool) → b ≡ list_any (λ x. alike x k) window → IsTrue b ↔ Stands alike window k
stands_any alike [] k b e = grind arith
stands_any alike (x ∷ window) k b e =
    let rest = stands_any alike window k (list_any (λ y. alike y k) window) refl in
    let first = sum_by-cons (λ y. cond (alike y k) 1 0) x window in
    grind arith

-- alike keys have one true count
pub true_count_same : {K : Type 0} (alike : K → K → Bool) → ((x y : K) → alike x y ≡ true → alike y x ≡ true)
    → ((x y z : K) → alike x y ≡ true → alike y z ≡ true → alike x z ≡ true)
    → (window : List K) (j k : K) → alike j k ≡ true → true_count alike window j ≡ true_count alike window k
true_count_same alike symm tran [] j k e = refl
true_count_same alike symm tran (x ∷ window) j k e =
    let again = true_count_same alike symm tran window j k e in
    let first = sum_by-cons (λ y. cond (alike y j) 1 0) x window in
    let second = sum_by-cons (λ y. cond (alike y k) 1 0) x window in
    let there = tran x j k in
    let back = tran x k j in
    let turn = symm j k e in
    grind arith
