-- Worked cases of covers. Assumes nothing.
use Rattle.std.specs.Prelude.{◌≡◌, [], ◌∷◌, map}
use Rattle.layout.specs.Slots.{shape_of}
use Rattle.layout.specs.Blocks.{size}
use Rattle.layout.specs.Covers.{scale_of, start_of, end_of, cover_of, ignored_of}

-- accuracy 1 and span 7: where the cover of the newest 90 of 100 arrivals lies
pub record Ninety : Type 0 where
  pub scale : scale_of (shape_of 1 7) 90 ≡ 3
  pub start : start_of 3 100 90 ≡ 16
  pub end : end_of 3 100 ≡ 96

-- accuracy 1 and span 5, after 17 arrivals: a window of all leaves out one, since its scale is the next; one of the newest 16, of the newest, and of none leave out nothing
pub record Seventeen : Type 0 where
  pub all : map size (cover_of (shape_of 1 5) 17 17) ≡ 16 ∷ []
  pub one_ignored : ignored_of (shape_of 1 5) 17 17 ≡ 1
  pub sixteen : map size (cover_of (shape_of 1 5) 17 16) ≡ 1 ∷ 2 ∷ 4 ∷ 8 ∷ 1 ∷ []
  pub none_ignored : ignored_of (shape_of 1 5) 17 16 ≡ 0
  pub one : map size (cover_of (shape_of 1 5) 17 1) ≡ 1 ∷ []
  pub none : cover_of (shape_of 1 5) 17 0 ≡ []
