-- What a fixed window is made of. Assumes nothing.
use Rattle.std.specs.Prelude.{◌≡◌, ℕ, ◌^◌, ◌<◌, ◌≤◌}
use Rattle.keeper.specs.Figures.{Figures}

-- a keeper, and the size that its window is to have
pub record Fixed (P : Type 0) : Type 0 where
  pub keeper : P
  pub goal : ℕ

module _ {P : Type 0} (figures : P → Figures) where
  -- a size that a window can have which takes a key before it lets its oldest go
  pub record HasGoal (w : Fixed P) : Type 0 where
    pub some : 1 ≤ w.goal
    pub fits : w.goal < 2 ^ (figures w.keeper).span

  -- before it has its size
  pub record IsFilling (w : Fixed P) : Type 0 where
    pub goal : HasGoal w
    pub within : (figures w.keeper).size ≤ w.goal

  -- once it has its size
  pub record IsSliding (w : Fixed P) : Type 0 where
    pub goal : HasGoal w
    pub full : (figures w.keeper).size ≡ w.goal
