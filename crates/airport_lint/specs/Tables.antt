-- What is known of where classes get to? No public clause cites these.
use Rattle.std.specs.Prelude.{◌≡◌, ◌<◌, Bool, Vec, List, length, slice_index_or}
use Rattle.std.specs.declared.alloc.Global.{Global}
use Rattle.taxi_base.specs.declared.numbers.Class.{Class}
use Rattle.taxi_base.specs.declared.rows.Kind.{Kind}
use Rattle.taxi_base.specs.declared.rows.Kind.TheVariants.{Runway, Stand}
use Rattle.taxi_base.specs.Airport.{Airport}
use Rattle.class_ways.specs.declared.course.Course.{Course}
use Rattle.class_ways.specs.declared.course.Course.TheVariants.{Onward, Back}
use Rattle.class_ways.specs.Ways.{AreMet}
use Rattle.airport_lint.specs.declared.ways.Ways.{Ways}

-- a row for each class, with a mark for each node to which it comes on a course from the nodes of a kind
pub record AreRows (course : Course) (kind : Kind) (airport : Airport) (rows : List (Vec Bool Global)) : Type 0 where
  pub count : length rows ≡ length airport.classes
  pub each : (class : Class) (none : Vec Bool Global) → class.0 < length rows → AreMet course kind airport class (slice_index_or rows class.0 none).items

pub record AreWays (airport : Airport) (ways : Ways) : Type 0 where
  pub from_runways : AreRows Onward Runway airport ways.from_runways.items
  pub from_stands : AreRows Onward Stand airport ways.from_stands.items
  pub to_runways : AreRows Back Runway airport ways.to_runways.items
  pub to_stands : AreRows Back Stand airport ways.to_stands.items
