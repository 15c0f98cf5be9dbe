-- Which calls of a shelf or a sink in memory fail?
use Rattle.std.specs.List.{list_any}
use Rattle.std.specs.Prelude.{ℕ, List, Bool, nat_eq, if◌then◌else◌}
use Rattle.taxi_io.specs.Counts.{next_count}

-- whether the call of this number is listed as failing; calls are numbered from 1
abbrev pub is_listed : List ℕ → ℕ → Bool
is_listed failing number = list_any (λ n. nat_eq n number) failing

-- the count of faults after a call, which is counted if it failed
abbrev pub faults_after : Bool → ℕ → ℕ
faults_after failed faults = if failed then next_count faults else faults
