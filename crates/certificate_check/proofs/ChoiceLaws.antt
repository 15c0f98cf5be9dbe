-- The words of a choice of nodes.
use Rattle.std.proofs.Common.{◌≡◌, ℕ, ◌<◌, List, [], ◌∷◌, length, get_or, Some, refl, ap, arith}
use Rattle.taxi_base.specs.declared.numbers.Node.{Node}
use Rattle.taxi_base.specs.declared.numbers.Class.{Class}
use Rattle.taxi_base.specs.Airport.{Airport}
use Rattle.taxi_base.specs.State.{State}
use Rattle.replies.specs.Asked.{Choice, nodes_of, nodes_named}
use Rattle.replies.specs.Sought.{sought_any, sought_choice}
use Rattle.replies.proofs.ChoiceNames.{nodes_named-are}

-- what stands for a node that is not there
abbrev pub no_node : Node
no_node = record { 0 = 0 }

abbrev pub others_of : List Node → List Node
others_of [] = []
others_of (node ∷ others) = others

first-others : (nodes : List Node) (d : Node) → 0 < length nodes → nodes ≡ get_or nodes 0 d ∷ others_of nodes
first-others [] d some = absurd (omega (arith, some))
first-others (node ∷ others) d some = refl

-- as many nodes as names
pub some-named : (airport : Airport) (names : List (List ℕ)) (nodes : List Node) → nodes_named airport names ≡ Some nodes → 0 < length names → 0 < length nodes
some-named airport names nodes are some = let same = (nodes_named-are airport names nodes are).as_many in omega (arith, same, some)

-- what a choice seeks
pub choice-sought : (airport : Airport) (state : State) (name : List ℕ) (class : Class) (choice : Choice) (d : Node) → 0 < length (nodes_of choice)
    → sought_choice airport state name class choice (nodes_of choice) ≡ Some (sought_any airport state name class choice (get_or (nodes_of choice) 0 d) (others_of (nodes_of choice)))
choice-sought airport state name class choice d some =
    ap (sought_choice airport state name class choice) (first-others (nodes_of choice) d some)
