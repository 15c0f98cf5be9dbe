-- What is known of a sink over a writer of the machine?
use Rattle.std.specs.Prelude.{ℕ, List, Option}

pub record SinkOfMachine : Type 0 where
  -- the bytes that the writer holds, where they are known
  pub held : Option (List ℕ)
  -- how many writes failed
  pub faults : ℕ
  -- the pieces that were handed over
  pub pieces : List (List ℕ)
