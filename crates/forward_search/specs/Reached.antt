-- Where does a route that was found lead?
use Rattle.taxi_base.specs.declared.numbers.Node.{Node}
use Rattle.taxi_base.specs.declared.answers.Found.{Found}
use Rattle.taxi_base.specs.declared.answers.Found.TheVariants.{Route, NoRoute}
use Rattle.taxi_base.specs.Airport.{Layout}
use Rattle.taxi_base.specs.Walks.{AtLast, ReachesNode}

-- there is a route, and its last step reaches the node
abbrev pub LeadsTo : Layout → Node → Found → Type 0
LeadsTo layout node (Route steps labels) = AtLast (ReachesNode layout node) steps
LeadsTo layout node (NoRoute labels) = ⊥
