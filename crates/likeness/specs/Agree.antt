-- When two keys of a kind are alike. Assumes nothing.
use Rattle.std.specs.Prelude.{ℕ, Bool, ◌&&◌, List, take, drop, ◌==◌, slice_index}
use Rattle.std.specs.Str.{bytes_eq}
use Rattle.likeness.specs.declared.sounding.SoundingKey.{SoundingKey}

-- two sounders agree in both bytes
abbrev pub same_sounder : List ℕ → List ℕ → Bool
same_sounder s t = slice_index s 0 == slice_index t 0 && slice_index s 1 == slice_index t 1

-- two readings agree in sounder and band
abbrev pub same_reading : List ℕ → ℕ → List ℕ → ℕ → Bool
same_reading sounder band sounder' band' = same_sounder sounder sounder' && band == band'

-- two sounding keys are readings of one sounder in one band
abbrev pub same_sounding : SoundingKey → SoundingKey → Bool
same_sounding x y = same_reading x.sounder x.band y.sounder y.band

-- the kind of sentence that an address names: its last three bytes of five
abbrev pub kind_of : List ℕ → List ℕ
kind_of address = take 3 (drop 2 address)

-- two addresses name the same kind of sentence
abbrev pub same_kind : List ℕ → List ℕ → Bool
same_kind a b = bytes_eq (kind_of a) (kind_of b)
