use Rattle.std.proofs.Common.{◌<◌, IsTrue}
use Rattle.class_ways.specs.Courses.{is_start}
use Rattle.class_ways.specs.Found.{Gained}
use Rattle.class_ways.proofs.met.add_starts.Given as goal

abbrev pub invariant-loop-number : goal.invariant-loop-number
invariant-loop-number l = Gained (λ arc. (arc.0 < l.number) × IsTrue (is_start l.course l.kind l.airport l.class arc)) l.initial.found l.found
