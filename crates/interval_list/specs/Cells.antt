-- The nodes of a chain in order, each with the place where it lies, and how they point to one another.
use Rattle.std.specs.Prelude.{◌≡◌, ℕ, zero, suc, ◌-◌, ◌<◌, ◌≤◌, ⊤, List, [], ◌∷◌, ◌++◌, length, map, IsPermutation}
use denote.RawPtr.{Ptr, null_ptr}
use Rattle.interval_list.specs.declared.node.Node.{Node}
use Rattle.interval_list.specs.declared.window.Window.{Window}
use Rattle.interval_list.specs.Edits.{replaced, item}

abbrev pub Cell : Type 0
Cell = Ptr × Node

-- where the nodes lie
abbrev pub places : List Cell → List Ptr
places = map (λ c. c.0)

abbrev pub windows_of : List Cell → List Window
windows_of = map (λ c. c.1.window)

-- what is read where no node is
abbrev pub no_window : Window
no_window = record { from = 0; until = 0; id = 0 }

abbrev pub no_cell : Cell
no_cell = (null_ptr, record { next = record { at = null_ptr }; prev = record { at = null_ptr }; window = no_window })

-- where node i lies
abbrev pub place_of : List Cell → ℕ → Ptr
place_of cs i = (item no_cell cs i).0

abbrev pub node_of : List Cell → ℕ → Node
node_of cs i = (item no_cell cs i).1

-- at is the place of node i
abbrev pub IsAt : List Cell → Ptr → ℕ → Type 0
IsAt cs at i = (i < length cs) × (at ≡ place_of cs i)

-- the gap before node i lies between the nodes at prev and next, where there are such
abbrev pub IsGap : List Cell → ℕ → Ptr → Ptr → Type 0
IsGap cs i prev next = (i ≤ length cs) × (0 < i → prev ≡ place_of cs (i - 1)) × (i < length cs → next ≡ place_of cs i)

-- the cells with another node at the place of number i
abbrev pub with_node : List Cell → ℕ → Node → List Cell
with_node cs i n = replaced cs i (place_of cs i, n)

-- p leads to the first node, and each `next` but the last to the node after
abbrev pub LeadsForward : Ptr → List Cell → Type 0
LeadsForward p [] = ⊤
LeadsForward p (c ∷ cs) = (p ≡ c.0) × LeadsForward c.1.next.at cs

-- the nodes come after one at a: each `prev` leads to the node before, and p to the last
abbrev pub LeadsBackTo : Ptr → List Cell → Ptr → Type 0
LeadsBackTo a [] p = p ≡ a
LeadsBackTo a (c ∷ cs) p = (c.1.prev.at ≡ a) × LeadsBackTo c.0 cs p

-- the same, with nothing said of the first `prev`
abbrev pub LeadsBack : List Cell → Ptr → Type 0
LeadsBack [] p = ⊤
LeadsBack (c ∷ cs) p = LeadsBackTo c.0 cs p

-- the nodes are linked both ways, from their first and from their last place
abbrev pub AreLinked : Ptr → Ptr → List Cell → Type 0
AreLinked first last cs = LeadsForward first cs × LeadsBack cs last

-- the first place, once what led to node i leads to p
abbrev pub first_leading : Ptr → ℕ → Ptr → Ptr
first_leading first zero p = p
first_leading first (suc i) p = first

-- the nodes, once what led to node i leads to p
abbrev pub cells_leading : List Cell → ℕ → Ptr → List Cell
cells_leading cs zero p = cs
cells_leading cs (suc i) p = with_node cs i (record (node_of cs i) { next = record { at = p } })

-- the last place, once what led back from node i leads back to p
abbrev pub last_leading : List Cell → Ptr → ℕ → Ptr → Ptr
last_leading [] last i p = p
last_leading (c ∷ cs) last zero p = last
last_leading (c ∷ cs) last (suc i) p = last_leading cs last i p

-- the nodes, once what led back from node i leads back to p
abbrev pub cells_leading_back : List Cell → ℕ → Ptr → List Cell
cells_leading_back cs i p = with_node cs i (record (node_of cs i) { prev = record { at = p } })

-- the windows and the spares of two chains lie in the same nodes as before
abbrev pub SameNodes : List Cell → List Cell → List Cell → List Cell → Type 0
SameNodes windows spares windows' spares' = IsPermutation (places windows ++ places spares) (places windows' ++ places spares')
