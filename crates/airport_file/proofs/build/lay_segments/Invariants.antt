use Rattle.std.proofs.Common.{◌≡◌, [], take, length}
use Rattle.airport_file.proofs.build.lay_segments.Given as goal

abbrev pub invariant-loop-way : goal.invariant-loop-way
invariant-loop-way l = l.builder ≡ record { nodes = length l.plan.nodes; links = take l.way-index l.plan.links; forbidden = [] }
