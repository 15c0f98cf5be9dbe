-- What does a sink hold whose writes never fail?
use Rattle.std.specs.Prelude.{ℕ, List}

pub record SteadyOutput : Type 0 where
  -- the bytes taken so far
  pub written : List ℕ
  -- the most bytes that one write takes
  pub piece : ℕ
  -- the pieces that were handed over
  pub pieces : List (List ℕ)
