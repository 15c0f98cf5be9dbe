use Rattle.std.proofs.Common.{◌≡◌, ◌++◌, drop, option_map}
use Rattle.replies.specs.Asked.{nodes_named}
use Rattle.replies.proofs.named.nodes_named.Given as goal

-- the nodes so far, and those of the names that are left
abbrev pub invariant-loop-name : goal.invariant-loop-name
invariant-loop-name l = nodes_named l.airport l.names ≡ option_map (λ rest. l.nodes ++ rest) (nodes_named l.airport (drop l.name-index l.names))
