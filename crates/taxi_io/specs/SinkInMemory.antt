-- What does a sink in memory hold, and what does a write change?
use Rattle.std.specs.Prelude.{ℕ, List, [], ◌∷◌, ◌++◌, Bool}
use Rattle.taxi_io.specs.Calls.{is_listed, faults_after}
use Rattle.taxi_io.specs.Counts.{next_count}

pub record SinkInMemory : Type 0 where
  -- the bytes taken so far
  pub written : List ℕ
  -- the most bytes that one write takes
  pub piece : ℕ
  -- the numbers of the writes that fail
  pub failing : List ℕ
  -- how many writes were made
  pub calls : ℕ
  -- how many of them were listed
  pub faults : ℕ
  -- the pieces that were handed over
  pub pieces : List (List ℕ)

-- whether the next write is listed as failing
abbrev pub fails_next : SinkInMemory → Bool
fails_next sink = is_listed sink.failing (next_count sink.calls)

-- the sink after a write of a piece that leaves these bytes written
abbrev pub after_write : SinkInMemory → List ℕ → List ℕ → SinkInMemory
after_write sink piece written =
    record sink {
      written = written;
      calls = next_count sink.calls;
      faults = faults_after (fails_next sink) sink.faults;
      pieces = sink.pieces ++ piece ∷ [];
    }
