use Rattle.std.proofs.Common.{◌≡◌, []}
use Rattle.airport_file.proofs.build.lay_nodes.Given as goal

abbrev pub invariant-loop-at : goal.invariant-loop-at
invariant-loop-at l = l.builder ≡ record { nodes = l.at; links = []; forbidden = [] }
