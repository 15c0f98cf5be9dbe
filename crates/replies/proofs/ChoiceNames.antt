-- The nodes of a choice, and the requests for them.
use Rattle.std.proofs.Common.{◌≡◌, ℕ, ◌+◌, ◌-◌, ◌<◌, List, [], ◌∷◌, length, map, Some, option_map, refl, sym, ap, subst, arith}
use Rattle.std.specs.Prelude.{Contains, unwrap_or}
use Rattle.std.proofs.lemmas.Option.{same_Some}
use Rattle.std.proofs.lemmas.List.Elements.{All-nil, All-cons}
use Rattle.taxi_base.specs.declared.numbers.Node.{Node}
use Rattle.taxi_base.specs.declared.rows.Step.{Step}
use Rattle.taxi_base.specs.declared.rows.LabelRow.{LabelRow}
use Rattle.taxi_base.specs.declared.answers.Request.TheVariants as request
use Rattle.taxi_base.specs.declared.answers.Chosen.TheVariants as chosen
use Rattle.taxi_base.specs.Airport.{Airport, Layout, layout_of, node_named}
use Rattle.taxi_base.specs.Walks.{Conditions, AtLast, IsRoute, LeavesNode, LeavesNodeWithin, ReachesNode, ReachesNodeWithin, Meets}
use Rattle.taxi_base.specs.Choices.{OneOf, ReachesOneOf, ReachesOneOfWithin}
use Rattle.taxi_base.specs.Again.{retargeted}
use Rattle.taxi_base.proofs.AirportLaws.{node_named-exists}
use Rattle.taxi_base.proofs.ChoiceLaws.{AreNodes, IsRoute-OneOf}
use Rattle.taxi_base.proofs.ListLaws.{Contains-map, map-Contains}
use Rattle.taxi_base.proofs.OneOfLaws.{OneOf-found, OneOf-member}
use Rattle.taxi_text.specs.declared.command.AskedAny.{AskedAny}
use Rattle.replies.specs.Asked.{Choice, arrival_any, departure_any, nodes_of, request_for, nodes_named, arrival_any_named, departure_any_named, AnswersChoice}
use Rattle.replies.specs.CarriedOut.{second_of}
use Rattle.replies.specs.Sought.{node_reached, MeetsOneOf}
use Rattle.replies.proofs.FiledLaws.{and_then-some, map-some}

-- ---- nodes of names

pub record AreNamed (airport : Airport) (names : List (List ℕ)) (nodes : List Node) : Type 0 where
  pub exist : AreNodes airport nodes
  pub as_many : length nodes ≡ length names

pub nodes_named-are : (airport : Airport) (names : List (List ℕ)) (nodes : List Node) → nodes_named airport names ≡ Some nodes → AreNamed airport names nodes
nodes_named-are airport [] nodes e =
    let same : [] ≡ nodes = same_Some [] nodes e in
    subst (AreNamed airport []) same (record { exist = All-nil (λ n. n.0 < length airport.nodes); as_many = refl })
nodes_named-are airport (name ∷ names) nodes e =
    let first = and_then-some (λ node. option_map (λ rest. node ∷ rest) (nodes_named airport names)) (node_named airport name) nodes e in
    let rest = map-some (λ rest. first.0 ∷ rest) (nodes_named airport names) nodes first.2 in
    let are = nodes_named-are airport names rest.0 rest.1 in
    subst (AreNamed airport (name ∷ names)) rest.2 (record {
      exist = All-cons (λ n. n.0 < length airport.nodes) first.0 rest.0 (node_named-exists airport name first.0 first.1) are.exist;
      as_many = omega (arith, are.as_many);
    })

-- the nodes of a choice are the airport's, and as many as were named
pub record IsChoiceOf (airport : Airport) (count : ℕ) (choice : Choice) : Type 0 where
  pub exist : AreNodes airport (nodes_of choice)
  pub as_many : length (nodes_of choice) ≡ count

pub arrival_any-is : (airport : Airport) (asked : AskedAny) (choice : Choice) → arrival_any_named airport asked ≡ Some choice → IsChoiceOf airport (length asked.nodes) choice
arrival_any-is airport asked choice e =
    let start = and_then-some (λ start. option_map (λ nodes. arrival_any start nodes asked.time asked.slack) (nodes_named airport asked.nodes)) (node_named airport asked.from) choice e in
    let nodes = map-some (λ nodes. arrival_any start.0 nodes asked.time asked.slack) (nodes_named airport asked.nodes) choice start.2 in
    let are = nodes_named-are airport asked.nodes nodes.0 nodes.1 in
    subst (IsChoiceOf airport (length asked.nodes)) nodes.2 (record { exist = are.exist; as_many = are.as_many })

pub departure_any-is : (airport : Airport) (asked : AskedAny) (choice : Choice) → departure_any_named airport asked ≡ Some choice → IsChoiceOf airport (length asked.nodes) choice
departure_any-is airport asked choice e =
    let start = and_then-some (λ start. option_map (λ nodes. departure_any start nodes asked.time asked.slack) (nodes_named airport asked.nodes)) (node_named airport asked.from) choice e in
    let nodes = map-some (λ nodes. departure_any start.0 nodes asked.time asked.slack) (nodes_named airport asked.nodes) choice start.2 in
    let are = nodes_named-are airport asked.nodes nodes.0 nodes.1 in
    subst (IsChoiceOf airport (length asked.nodes)) nodes.2 (record { exist = are.exist; as_many = are.as_many })

-- ---- walks to one of the nodes

-- the requests for the nodes
requests-are : (choice : Choice) (node : Node) (others : List Node) → request_for choice node ∷ map (retargeted (request_for choice node)) others ≡ map (request_for choice) (node ∷ others)
requests-are (arrival_any from to time hold) node others = refl
requests-are (departure_any from to time queue) node others = refl

module _ (c : Conditions) (choice : Choice) (node : Node) (others : List Node) (steps : List Step) where
  pub meets-one : (to : Node) → Contains (node ∷ others) to → Meets c (request_for choice to) steps → MeetsOneOf c (request_for choice node) others steps
  meets-one to there met =
      subst (OneOf (λ asked. Meets c asked steps)) (sym (requests-are choice node others))
      (OneOf-member (λ asked. Meets c asked steps) (map (request_for choice) (node ∷ others)) (request_for choice to) (Contains-map (request_for choice) (node ∷ others) to there) met)

  pub one-met : MeetsOneOf c (request_for choice node) others steps → (to : Node) × Contains (node ∷ others) to × Meets c (request_for choice to) steps
  one-met met =
      let found = OneOf-found (λ asked. Meets c asked steps) (map (request_for choice) (node ∷ others)) (subst (OneOf (λ asked. Meets c asked steps)) (requests-are choice node others) met) in
      let to = map-Contains (request_for choice) (node ∷ others) found.0 found.1 in
      (to.0, to.1, subst (λ r. Meets c r steps) (sym to.2) found.2)

-- a walk that meets a request for one of some nodes is a route to one of them
pub arrival-one : (c : Conditions) (from to : Node) (others : List Node) (time hold : ℕ) (steps : List Step) → MeetsOneOf c (request.Arrival from to time hold) others steps
    → IsRoute c (LeavesNodeWithin (layout_of c.airport) from time (time + hold)) (ReachesOneOf (layout_of c.airport) (to ∷ others)) steps
arrival-one c from to others time hold steps met =
    let one = one-met c (arrival_any from (to ∷ others) time hold) to others steps met in
    IsRoute-OneOf c (LeavesNodeWithin (layout_of c.airport) from time (time + hold)) (ReachesNode (layout_of c.airport)) (to ∷ others) one.0 one.1 steps one.2

pub departure-one : (c : Conditions) (from to : Node) (others : List Node) (time queue : ℕ) (steps : List Step) → MeetsOneOf c (request.Departure from to time queue) others steps
    → IsRoute c (LeavesNode (layout_of c.airport) from) (ReachesOneOfWithin (layout_of c.airport) (to ∷ others) (time - queue) time) steps
departure-one c from to others time queue steps met =
    let one = one-met c (departure_any from (to ∷ others) time queue) to others steps met in
    IsRoute-OneOf c (LeavesNode (layout_of c.airport) from) (λ n. ReachesNodeWithin (layout_of c.airport) n (time - queue) time) (to ∷ others) one.0 one.1 steps one.2

-- the node that is reached is the one that was asked for
pub reached-is : (layout : Layout) (to : Node) (steps : List Step) → AtLast (ReachesNode layout to) steps → node_reached layout steps ≡ Some to
reached-is layout to [] ends = absurd ends
reached-is layout to (s ∷ []) ends = ends
reached-is layout to (s ∷ t ∷ steps) ends = reached-is layout to (t ∷ steps) ends

reached-within : (layout : Layout) (to : Node) (earliest latest : ℕ) (steps : List Step) → AtLast (ReachesNodeWithin layout to earliest latest) steps → node_reached layout steps ≡ Some to
reached-within layout to earliest latest [] ends = absurd ends
reached-within layout to earliest latest (s ∷ []) ends = ends.reaches
reached-within layout to earliest latest (s ∷ t ∷ steps) ends = reached-within layout to earliest latest (t ∷ steps) ends

pub met-reaches : (c : Conditions) (choice : Choice) (to node : Node) (steps : List Step) → Meets c (request_for choice to) steps → unwrap_or (node_reached (layout_of c.airport) steps) node ≡ to
met-reaches c (arrival_any from nodes time hold) to node steps met = ap (λ o. unwrap_or o node) (reached-is (layout_of c.airport) to steps met.ends)
met-reaches c (departure_any from nodes time queue) to node steps met = ap (λ o. unwrap_or o node) (reached-within (layout_of c.airport) to (time - queue) time steps met.ends)

-- the second that is told does not depend on the node
pub second-same : (choice : Choice) (a b : Node) (steps : List Step) → second_of (request_for choice a) steps ≡ second_of (request_for choice b) steps
second-same (arrival_any from nodes time hold) a b steps = refl
second-same (departure_any from nodes time queue) a b steps = refl

-- ---- what is chosen

pub chosen-among : (c : Conditions) (choice : Choice) (to : Node) (steps : List Step) (labels : List LabelRow) → AnswersChoice c choice (chosen.Route to steps labels) → Contains (nodes_of choice) to
chosen-among c (arrival_any from nodes time hold) to steps labels answers = answers.0.named
chosen-among c (departure_any from nodes time queue) to steps labels answers = answers.0.named

pub chosen-meets : (c : Conditions) (choice : Choice) (to : Node) (steps : List Step) (labels : List LabelRow) → AnswersChoice c choice (chosen.Route to steps labels) → Meets c (request_for choice to) steps
chosen-meets c (arrival_any from nodes time hold) to steps labels answers = answers.1.0.one
chosen-meets c (departure_any from nodes time queue) to steps labels answers = answers.1.one
