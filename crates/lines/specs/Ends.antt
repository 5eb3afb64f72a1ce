-- Bytes and the first LF among them, 10.
use Rattle.std.specs.Prelude.{◌≡◌, ℕ, List, ◌∷◌, ◌++◌, ◌≢◌}
use Rattle.std.specs.List.{AllByRecursion}

-- No byte is an LF.
abbrev pub IsPlain : List ℕ → Type 0
IsPlain bytes = AllByRecursion (λ b. b ≢ 10) bytes

-- The parts that the first LF of the bytes makes of them: what stands before it, and what follows it.
abbrev pub PartsAtLf : List ℕ → List ℕ → List ℕ → Type 0
PartsAtLf bytes before behind = (bytes ≡ before ++ 10 ∷ behind) × IsPlain before
