-- When are the windows that are known those of a state?
use Rattle.std.specs.Prelude.{length}
use Rattle.taxi_base.specs.Airport.{Airport}
use Rattle.taxi_base.specs.Walks.{free_among}
use Rattle.taxi_base.specs.State.{State, holds_in}
use Rattle.check_rows.specs.declared.known.KnownWindows.{KnownWindows}
use Rattle.check_rows.specs.Known.{AreKnown}

-- the windows that are known are those among what is held in a state
abbrev pub AreKnownIn : Airport → State → KnownWindows → Type 0
AreKnownIn airport state known = AreKnown (length airport.segments) (free_among airport (holds_in airport state)) known
