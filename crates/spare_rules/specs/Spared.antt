-- What is an airport without the rules that make no difference?
use Rattle.std.specs.Prelude.{[]}
use Rattle.taxi_base.specs.Airport.{Airport}
use Rattle.airport_lint.specs.Advice.{without_idle}
use Rattle.airport_lint.specs.Sets.{marked, needed_marks}

-- the airport without the pairs that are idle, and with the needed sets alone
abbrev pub spared : Airport → Airport
spared airport = record (without_idle airport) { conflicts = marked airport.conflicts (needed_marks [] airport.conflicts) }
