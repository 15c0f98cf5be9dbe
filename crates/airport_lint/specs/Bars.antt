-- Which advice leaves a flight no walk?
use Rattle.std.specs.Prelude.{◌≡◌, ◌⊎◌}
use Rattle.taxi_base.specs.declared.numbers.Node.{Node}
use Rattle.taxi_base.specs.declared.numbers.Class.{Class}
use Rattle.airport_lint.specs.declared.advice.Advice.{Advice}
use Rattle.airport_lint.specs.declared.advice.Advice.TheVariants.{ClassNoSeconds, ClassNoArrival, ClassNoDeparture, NodeNoArrival, NodeNoDeparture}

-- advice on the class of an arrival, or on its runway node or stand
abbrev pub BarsArrival : Class → Node → Node → Advice → Type 0
BarsArrival class from to (ClassNoSeconds advised) = advised ≡ class
BarsArrival class from to (ClassNoArrival advised) = advised ≡ class
BarsArrival class from to (NodeNoArrival advised) = (advised ≡ from) ⊎ (advised ≡ to)
BarsArrival class from to _ = ⊥

-- and of a departure
abbrev pub BarsDeparture : Class → Node → Node → Advice → Type 0
BarsDeparture class from to (ClassNoSeconds advised) = advised ≡ class
BarsDeparture class from to (ClassNoDeparture advised) = advised ≡ class
BarsDeparture class from to (NodeNoDeparture advised) = (advised ≡ from) ⊎ (advised ≡ to)
BarsDeparture class from to _ = ⊥
