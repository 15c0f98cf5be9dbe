-- A `&` to the nodes of a chain is made where one to each node is. Assumes `Logic`.
use Rattle.std.proofs.Common.{List, [], ◌∷◌}
use base.Fml.{Lft, ftrue}
use seplogic.Ra.Ura.{Ura}
use types.Logic.{Logic}
use contract.BorrowLft.{⊑_static}
use denote.Sharing.{ShrLaws}
use denote.SharingLaws.{beside_shr_laws, nothing_shr_laws}
use denote.Shares.{Shares-less}
use denote.Struct.Lending.{lent_at, lent_at_shr_laws, Lends-lies, Lends, Lends-both, Lends-nothing}
use Rattle.interval_list.specs.Cells.{Cell}
use Rattle.interval_list.specs.Ownership.{nodes_own, nodes_lent}
use Rattle.interval_list.specs.contracts.node.Node as node
use Rattle.interval_list.proofs.node.Node.TheLaws as node_laws

pub nodes_lent_laws : (cs : List Cell) → ShrLaws (nodes_lent cs)
nodes_lent_laws [] = nothing_shr_laws
nodes_lent_laws (c ∷ cs) = beside_shr_laws _ _ (lent_at_shr_laws node.the_row node_laws.the_row_laws.shr_laws c.0 c.1) (nodes_lent_laws cs)

module _ {M : Type 1} {𝓤 : Ura M} (𝓛 : Logic 𝓤) (l : Lft) where
  pub Lends-nodes : (cs : List Cell) → Lends 𝓛 (nodes_own cs) (nodes_lent cs) l
  Lends-nodes [] = Lends-nothing 𝓛 ftrue l
  Lends-nodes (c ∷ cs) =
      Lends-both 𝓛 _ (nodes_own cs) (lent_at node.the_row c.0 c.1) (nodes_lent cs) l
      (Lends-lies 𝓛 node.the_row l c.0 c.1 (Shares-less 𝓛 node.the_row [] l (⊑_static l) (node_laws.the_row_laws.shares 𝓛) c.1))
      (Lends-nodes cs)
