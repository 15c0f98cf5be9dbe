-- A `&` to the nodes is made where one to each node is. Assumes `Logic`.
use denote.Struct.Lending.{of_Lends}
use Rattle.interval_list.specs.contracts.nodes.Nodes as C
use Rattle.interval_list.proofs.nodes.Nodes.TheLaw.Statement.{statement}
use Rattle.interval_list.proofs.Lent.{nodes_lent_laws, Lends-nodes}

pub shares : statement
shares = of_Lends C.struct C.the_codes C.the_heap C.the_lent (λ d p. nodes_lent_laws d.cells) tt (λ M 𝓤 𝓛 d p. Lends-nodes 𝓛 C.the_row.lives d.cells)
