-- What is truly in a window, which is the list of its keys as they came; `alike` says which of them count as one. Assumes nothing.
use Rattle.std.specs.Prelude.{ℕ, ◌≤◌, Bool, ◌&&◌, List, count_by, nat_lt}
use Rattle.likeness.specs.Agree.{same_sounder}
use Rattle.likeness.specs.declared.sounding.SoundingKey.{SoundingKey}

-- how often the window holds a key that is alike to k
abbrev pub true_count : {K : Type 0} → (K → K → Bool) → List K → K → ℕ
true_count alike window k = count_by (λ x. alike x k) window

-- a key stands in the window when some key of the window is alike to it
abbrev pub Stands : {K : Type 0} → (K → K → Bool) → List K → K → Type 0
Stands alike window k = 1 ≤ true_count alike window k

-- a key is the sounder's, and its band is below the class: a reading that was too shallow for that class
abbrev pub short_for : List ℕ → ℕ → SoundingKey → Bool
short_for sounder class key = same_sounder key.sounder sounder && nat_lt key.band class

-- how many keys of the window are truly short
abbrev pub truly_short : List SoundingKey → List ℕ → ℕ → ℕ
truly_short window sounder class = count_by (short_for sounder class) window
