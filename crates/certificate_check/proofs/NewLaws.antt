-- What is sought for a new flight, to one node or to any of some, and the walks that it may take.
use Rattle.std.proofs.Common.{◌≡◌, ◌∙◌, ℕ, ◌<◌, ◌-◌, List, [], ◌∷◌, length, get_or, Some, None, inl, inr, refl, sym, ap, subst, arith}
use Rattle.std.specs.Prelude.{Contains, unwrap_or}
use Rattle.taxi_base.specs.declared.numbers.Class.{Class}
use Rattle.taxi_base.specs.declared.numbers.Node.{Node}
use Rattle.taxi_base.specs.declared.rows.Step.{Step as Leg}
use Rattle.taxi_base.specs.declared.answers.Request.{Request}
use Rattle.taxi_base.specs.declared.answers.Request.TheVariants as request
use Rattle.taxi_base.specs.Airport.{Airport, Layout, layout_of, head}
use Rattle.taxi_base.specs.Walks.{Conditions, conditions_among, IsFeasibleWalk, Meets, ReachesNode}
use Rattle.taxi_base.specs.State.{State, holds_in, with_flight}
use Rattle.taxi_base.specs.Faults.{conditions_in}
use Rattle.taxi_base.specs.Again.{retargeted, IsTarget}
use Rattle.taxi_base.proofs.ListLaws.{Contains-cons_cases}
use Rattle.taxi_base.proofs.WalkLaws.{Meets-IsFeasibleWalk, at-last}
use Rattle.replies.specs.declared.wish.Wish.{Wish}
use Rattle.replies.specs.Asked.{Choice, arrival_any, departure_any, request_for}
use Rattle.replies.specs.CarriedOut.{routed_flight}
use Rattle.replies.specs.Sought.{Sought, sought_wish, sought_any, node_reached, MeetsOneOf, IsWalkFor}
use Rattle.replies.proofs.ChoiceNames.{one-met, met-reaches, reached-is}
use Rattle.held_spans.specs.declared.spans.HeldSpans.{HeldSpans}
use Rattle.held_spans.specs.Spans.{AreSpansOf, holds_in_lists}
use Rattle.check_walks.specs.Told.{CanBeSought, Seeks}
use Rattle.check_walks.specs.Choice.{CanBeSoughtAny}
use Rattle.due_refusals.proofs.HeldLaws.{same-conditions}
use Rattle.certificate_check.specs.NewFlight.{SeeksNew}
use Rattle.certificate_check.proofs.ChoiceLaws.{others_of}

-- ---- to one node

-- what can be sought asks for a node
pub has-target : (airport : Airport) (r : Request) → CanBeSought airport r → (to : Node) × IsTarget r to
has-target airport request.Filed can = absurd can
has-target airport (request.Arrival from to time hold) can = (to, refl)
has-target airport (request.Departure from to time queue) can = (to, refl)

-- the same request for the node that it asks for already
kept-target : (r : Request) (to : Node) → IsTarget r to → retargeted r to ≡ r
kept-target request.Filed to asks = refl
kept-target (request.Arrival from node time hold) to asks = ap (λ n. request.Arrival from n time hold) (sym asks)
kept-target (request.Departure from node time queue) to asks = ap (λ n. request.Departure from n time queue) (sym asks)

only : (a b : Node) → Contains (a ∷ []) b → a ≡ b
only a b there = elim (Contains-cons_cases a b [] there) [ inl e ↦ e | inr none ↦ absurd (omega (arith, none.1)) ]

-- and for the only one of some nodes
only-target : (r : Request) (to node : Node) → IsTarget r to → Contains (to ∷ []) node → retargeted r node ≡ r
only-target r to node asks there = subst (λ n. retargeted r n ≡ r) (only to node there) (kept-target r to asks)

pub one-sought : (airport : Airport) (r : Request) (to : Node) → IsTarget r to → CanBeSought airport r → CanBeSoughtAny airport r (to ∷ [])
one-sought airport r to asks can node there = subst (CanBeSought airport) (sym (only-target r to node asks there)) can

pub one-seeks : (airport : Airport) (state : State) (wish : Wish) (to : Node) → IsTarget wish.request to → SeeksNew airport state wish (to ∷ []) (sought_wish airport state wish)
one-seeks airport state wish to asks = record {
  named = refl;
  among = record { to = to; asks = asks; are = refl };
  seeks = record { conditions = refl; asked = refl; nodes = refl; under_way = refl; floor = refl };
  may_be_none = refl;
  with_steps = λ steps reached at there. ap (λ r. with_flight (routed_flight wish.name wish.class r steps) state) (sym (only-target wish.request to reached asks there));
  with_none = refl;
}

-- ---- to any of some nodes

choice-target : (choice : Choice) (node : Node) → IsTarget (request_for choice node) node
choice-target (arrival_any from nodes time hold) node = refl
choice-target (departure_any from nodes time queue) node = refl

choice-to : (choice : Choice) (node to : Node) → retargeted (request_for choice node) to ≡ request_for choice to
choice-to (arrival_any from nodes time hold) node to = refl
choice-to (departure_any from nodes time queue) node to = refl

pub any-seeks : (airport : Airport) (state : State) (name : List ℕ) (class : Class) (choice : Choice) (nodes : List Node) (d : Node) → 0 < length nodes
    → SeeksNew airport state (record { name = name; class = class; request = request_for choice (get_or nodes 0 d) }) nodes (sought_any airport state name class choice (get_or nodes 0 d) (others_of nodes))
any-seeks airport state name class choice [] d some = absurd (omega (arith, some))
any-seeks airport state name class choice (node ∷ others) d some = record {
  named = refl;
  among = record { to = node; asks = choice-target choice node; are = refl };
  seeks = record { conditions = refl; asked = refl; nodes = refl; under_way = refl; floor = refl };
  may_be_none = refl;
  with_steps = λ steps reached at there. ap (λ r. with_flight (routed_flight name class r steps) state)
      (ap (λ o. request_for choice (unwrap_or o node)) at ∙ sym (choice-to choice node reached));
  with_none = refl;
}

-- what asks for a node chooses it
choice-of : (r : Request) (to : Node) → IsTarget r to → (choice : Choice) × (r ≡ request_for choice to)
choice-of request.Filed to asks = absurd asks
choice-of (request.Arrival from node time hold) to asks = (arrival_any from [] time hold, ap (λ n. request.Arrival from n time hold) asks)
choice-of (request.Departure from node time queue) to asks = (departure_any from [] time queue, ap (λ n. request.Departure from n time queue) asks)

-- ---- the walks

-- the head of the last arc is the node that is reached
pub head-reached : (layout : Layout) (to : Node) (steps : List Leg) (d : Leg) → 0 < length steps → head layout (get_or steps (length steps - 1) d).arc ≡ Some to → node_reached layout steps ≡ Some to
head-reached layout to steps d some is = reached-is layout to steps ((at-last (ReachesNode layout to) steps d some).1 is)

module _ (airport : Airport) (state : State) (wish : Wish) (nodes : List Node) (s : Sought) (new : SeeksNew airport state wish nodes s) where
  pub some-sought : 0 < length nodes
  some-sought = subst (λ (ns : List Node). 0 < length ns) (sym new.among.are) (omega arith)

  -- what is sought among the holders is sought so among their spans
  pub among-spans : (spans : HeldSpans) → AreSpansOf (holds_in airport state) spans → Seeks (conditions_among airport wish.class (holds_in_lists spans)) wish.request s.others None s
  among-spans spans has = record {
    conditions = new.seeks.conditions ∙ sym (same-conditions airport wish.class spans (holds_in airport state) has);
    asked = new.seeks.asked;
    nodes = new.seeks.nodes;
    under_way = new.seeks.under_way;
    floor = new.seeks.floor;
  }

  module _ (steps : List Leg) (walk : IsWalkFor s steps) where
    abbrev c : Conditions
    c = conditions_in airport wish.class state

    met : MeetsOneOf c wish.request s.others steps
    met = rw (new.seeks.conditions, new.seeks.asked, new.seeks.under_way, new.seeks.floor) at walk

    -- one of the nodes that it goes to as was asked
    goes : (choice : Choice) × (to : Node) × (wish.request ≡ request_for choice new.among.to) × Contains nodes to × Meets c (request_for choice to) steps
    goes =
        let asked = choice-of wish.request new.among.to new.among.asks in
        let one = one-met c asked.0 new.among.to s.others steps (subst (λ r. MeetsOneOf c r s.others steps) asked.1 met) in
        (asked.0, one.0, asked.1, subst (λ ns. Contains ns one.0) (sym new.among.are) one.1, one.2)

    pub new-feasible : IsFeasibleWalk c steps
    new-feasible = Meets-IsFeasibleWalk c (request_for goes.0 goes.1) steps goes.4

    -- the node that it reaches is that one
    module _ (reached : Node) (at : node_reached (layout_of airport) steps ≡ Some reached) where
      is-reached : reached ≡ goes.1
      is-reached = sym (ap (λ o. unwrap_or o new.among.to) at) ∙ met-reaches c goes.0 goes.1 new.among.to steps goes.4

      pub reached-meets : Meets c (retargeted wish.request reached) steps
      reached-meets =
          subst (λ r. Meets c r steps) (sym (ap (λ r. retargeted r reached) goes.2 ∙ choice-to goes.0 new.among.to reached))
          (subst (λ n. Meets c (request_for goes.0 n) steps) (sym is-reached) goes.4)

      pub reached-among : Contains nodes reached
      reached-among = subst (Contains nodes) (sym is-reached) goes.3
