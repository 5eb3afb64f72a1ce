-- The lines of the classes, one after another. Assumes nothing.
use Rattle.std.proofs.Common.{◌≡◌, ℕ, ◌+◌, ◌-◌, ◌<◌, ◌≤◌, List, [], ◌∷◌, ◌++◌, take, sym, ap, ◌∙◌, arith}
use Rattle.std.specs.List.{flat_map}
use Rattle.std.proofs.lemmas.List.{flat_map_more, take_more}
use Rattle.std.proofs.lemmas.List.FromFn.{get_or-range_with_len}
use Rattle.soundings.specs.Soundings.{classes}

classes_more : (class : ℕ) → 1 ≤ class → class ≤ 6 → take (class + 1 - 1) classes ≡ take (class - 1) classes ++ class ∷ []
classes_more class some last =
    let place : class - 1 < 6 = omega arith in
    let next : class + 1 - 1 ≡ class - 1 + 1 = omega arith in
    let here : 1 + (class - 1) ≡ class = omega arith in
    ap (λ n. take n classes) next
    ∙ take_more classes (class - 1) 0 place
    ∙ ap (λ k. take (class - 1) classes ++ k ∷ []) (get_or-range_with_len 1 6 (class - 1) 0 place ∙ here)

pub lines_more : (line : ℕ → List ℕ) (before : List ℕ) (class : ℕ) → 1 ≤ class → class ≤ 6
    → (before ++ flat_map line (take (class - 1) classes)) ++ line class ≡ before ++ flat_map line (take (class + 1 - 1) classes)
lines_more line before class some last =
    flat_map_more line before (take (class - 1) classes) class ∙ ap (λ ks. before ++ flat_map line ks) (sym (classes_more class some last))
