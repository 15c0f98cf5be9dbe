-- What the nodes of a chain own, what a `&` to them lends, and what the right to free blocks of nodes is.
use Rattle.std.specs.Prelude.{List, [], ◌∷◌}
use base.Fml.{Lft, Fml, ftrue, fsep}
use base.Fraction.{full_share}
use mir.Raw.{raw}
use mir.Syntax.{ty_array}
use denote.Memory.{lone}
use denote.RawPtr.{lies_at}
use denote.Sharing.{nothing, beside}
use denote.Struct.Lending.{lent_at}
use Rattle.std.specs.declared.alloc.Global.{Global}
use Rattle.std.specs.contracts.impls.GlobalAllocator.TheImpl.{ghosts}
use Rattle.interval_list.specs.contracts.node.Node as node
use Rattle.interval_list.specs.Cells.{Cell}
use Rattle.interval_list.specs.Blocks.{Block}

-- the one heap of a program
abbrev pub heap : Global
heap = record { memory = record { seal = tt } }

-- each node
abbrev pub nodes_own : List Cell → Fml
nodes_own [] = ftrue
nodes_own (c ∷ cs) = fsep (lies_at node.the_row full_share c.0 c.1) (nodes_own cs)

-- a `&` to each node
abbrev pub nodes_lent : List Cell → Lft → Fml
nodes_lent [] = nothing
nodes_lent (c ∷ cs) = beside (lent_at node.the_row c.0 c.1) (nodes_lent cs)

-- the right to free each block
abbrev pub rights_own : List Block → Fml
rights_own [] = ftrue
rights_own (b ∷ bs) = fsep (ghosts.dealloc_token heap (raw (ty_array (lone node.the_row.mir) b.1)) b.0) (rights_own bs)
