-- The readings that are short for a class are those in the bands below it. Assumes nothing.
use Rattle.std.proofs.Common.{◌≡◌, ℕ, ◌+◌, suc, Bool, true, false, ◌&&◌, cond, ◌==◌, nat_lt, List, [], ◌∷◌, refl, ap, ◌∙◌, arith}
use Rattle.std.specs.List.{count_by}
use Rattle.std.proofs.lemmas.Bool.Decides.{nat_tests}
use Rattle.std.proofs.lemmas.List.Sums.{sum_by-cons}
use Rattle.likeness.specs.Agree.{same_sounding, same_sounder}
use Rattle.likeness.specs.Counts.{short_for, true_count, truly_short}
use Rattle.likeness.specs.declared.sounding.SoundingKey.{SoundingKey}

-- what passes a test passes one of two others, and never both
count_parts : {X : Type 0} (whole one other : X → Bool) → ((x : X) → cond (whole x) 1 0 ≡ cond (one x) 1 0 + cond (other x) 1 0)
    → (xs : List X) → count_by whole xs ≡ count_by one xs + count_by other xs
count_parts whole one other parts [] = refl
count_parts whole one other parts (x ∷ xs) =
    let first = sum_by-cons (λ y. cond (whole y) 1 0) x xs in
    let second = sum_by-cons (λ y. cond (one y) 1 0) x xs in
    let third = sum_by-cons (λ y. cond (other y) 1 0) x xs in
    let rest = count_parts whole one other parts xs in
    omega (arith, first, second, third, rest, parts x)

-- one more is the next number
pub next : (n : ℕ) → n + 1 ≡ suc n
next n = omega arith

-- a band below the next class is below this one, or it is the one between
band_parts : (same : Bool) (band at : ℕ) → cond (same && nat_lt band (suc at)) 1 0 ≡ cond (same && nat_lt band at) 1 0 + cond (same && band == at) 1 0
band_parts true band at = grind (arith, nat_tests)
band_parts false band at = refl

-- no band is below 0
band_none : (same : Bool) (band : ℕ) → ◌≡◌ {A = ℕ} (cond (same && nat_lt band 0) 1 0) 0
band_none true band = grind (arith, nat_tests)
band_none false band = refl

pub short_none : (window : List SoundingKey) (sounder : List ℕ) → truly_short window sounder 0 ≡ 0
short_none [] sounder = refl
short_none (key ∷ window) sounder =
    omega (arith, sum_by-cons (λ k. cond (short_for sounder 0 k) 1 0) key window, band_none (same_sounder key.sounder sounder) key.band, short_none window sounder)

pub short_more : (window : List SoundingKey) (sounder : List ℕ) (band : ℕ)
    → truly_short window sounder (band + 1) ≡ truly_short window sounder band + true_count same_sounding window (record { sounder = sounder; band = band })
short_more window sounder band =
    ap (truly_short window sounder) (next band)
    ∙ count_parts (short_for sounder (suc band)) (short_for sounder band) _ (λ key. band_parts (same_sounder key.sounder sounder) key.band band) window
