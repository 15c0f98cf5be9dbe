use Rattle.std.proofs.Common.{Contains, take, IsTrue}
use Rattle.class_ways.specs.Ways.{is_open}
use Rattle.class_ways.specs.Found.{Gained}
use Rattle.class_ways.proofs.met.add_open.Given as goal

abbrev pub invariant-loop-arc : goal.invariant-loop-arc
invariant-loop-arc l = Gained (λ arc. Contains (take l.arc-index l.arcs) arc × IsTrue (is_open l.airport l.class arc)) l.initial.found l.found
