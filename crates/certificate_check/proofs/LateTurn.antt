-- A turn: what is sought, and the holders with the flight more, and without it.
use Rattle.std.proofs.Common.{◌≡◌, ◌∙◌, ℕ, zero, suc, ◌≤◌, ◌<◌, true, false, eqb, not, List, [], ◌∷◌, length, map, Option, Some, None, IsTrue, IsFalse, is_some, refl, sym, ap, subst, arith}
use Rattle.std.specs.Prelude.{All, Contains, Result, Ok, Err, OnOk, option_copied, bytes_eq}
use Rattle.std.specs.Borrow.{Bor}
use Rattle.std.proofs.lemmas.Bool.{eqb-true}
use Rattle.std.proofs.lemmas.List.Elements.{All-filter, All-contains, All-map}
use Rattle.taxi_base.specs.declared.numbers.Arc.{Arc}
use Rattle.taxi_base.specs.declared.numbers.Node.{Node}
use Rattle.taxi_base.specs.declared.rows.Step.{Step}
use Rattle.taxi_base.specs.declared.answers.Flight.{Flight}
use Rattle.taxi_base.specs.declared.answers.Party.{Party}
use Rattle.taxi_base.specs.declared.answers.Request.{Request}
use Rattle.taxi_base.specs.declared.answers.Request.TheVariants as request
use Rattle.taxi_base.specs.declared.answers.Found.TheVariants as found
use Rattle.taxi_base.specs.Airport.{Airport, Link, IsWellFormed, layout_of, link_of, ends, tail, arc_exists}
use Rattle.taxi_base.specs.Walks.{conditions_among, AtFirst, LeavesNode, Meets}
use Rattle.taxi_base.specs.State.{State, flight_named, party_named, flights_with, flights_without, with_flight, without, holds_in, conditions_of, IsSound}
use Rattle.taxi_base.specs.Late.{request_sought, request_routed, after_turn}
use Rattle.taxi_base.proofs.NameLaws.{All-put_in}
use Rattle.taxi_base.proofs.NamedLists.{absent-left}
use Rattle.segment_graph.specs.declared.links.Side.TheVariants.{Tail}
use Rattle.segment_graph.proofs.Ends.{end_in-exists}
use Rattle.replies.specs.Repairs.{way_sought, floor_sought, is_dropped}
use Rattle.replies.specs.Refusals.{is_filed}
use Rattle.replies.specs.declared.block.Block.{Block}
use Rattle.replies.specs.declared.rule.Rule.{Rule}
use Rattle.replies.specs.Sought.{UnderWay, Sought, DoesAsAsked, IsWalkFor}
use Rattle.replies.specs.Passes.{KeepsSought, IsFirstOf}
use Rattle.transcripts.specs.declared.refused.CheckRefused.{CheckRefused}
use Rattle.transcripts.specs.declared.refused.CheckRefused.TheVariants.{Wrong, Memory}
use Rattle.held_spans.specs.declared.spans.HeldSpans.{HeldSpans}
use Rattle.held_spans.specs.Spans.{AreSpansOf, holds_in_lists}
use Rattle.due_refusals.proofs.HeldLaws.{same-conditions}
use Rattle.checked_state.proofs.PlaceLaws.{left-none}
use Rattle.check_walks.specs.Told.{CanBeSought, SeeksAfter}
use Rattle.check_walks.proofs.AskedLaws.{walk-asked}
use Rattle.check_walks.proofs.ToldLaws.{alone-among, of-floor}
use Rattle.certificate_check.specs.declared.late_turn.AtTurn.{AtTurn}
use Rattle.certificate_check.specs.Desk.{CanGoOn}
use Rattle.certificate_check.specs.Judged.{answer_of}
use Rattle.certificate_check.specs.Late.{flight_in, sought_in, IsTurnChecked}
use Rattle.certificate_check.proofs.JudgedLaws.{answered-by}
use Rattle.certificate_check.proofs.RoutedLaws.{walk-arcs}

-- ---- what is sought

-- the node that an arc leaves is one of the airport's
tail-exists : (airport : Airport) (arc : Arc) (node : Node) → IsWellFormed airport → tail (layout_of airport) arc ≡ Some node → node.0 < length airport.nodes
unfolding ends
tail-exists airport arc node well e =
    end_in-exists Tail (map link_of airport.segments) (length airport.nodes) arc node
    (All-map (λ (l : Link). (l.from.0 < length airport.nodes) × (l.to.0 < length airport.nodes)) link_of airport.segments well.ends) e

-- what a flight seeks with the steps that it keeps can be sought
pub turn-sought : (airport : Airport) (state : State) → IsWellFormed airport → (sound : IsSound airport state) → (x : Flight) → Contains state.flights x → CanGoOn airport x.request → IsFalse (is_filed x.request)
    → (kept : List Step) → CanBeSought airport (request_sought x.request kept)
turn-sought airport state well sound x there can routed kept =
    go x.request kept can routed (All-contains (λ f. Meets (conditions_of airport state f) f.request f.steps) state.flights x sound.requests there)
  where
    leaves : (from : Node) (steps : List Step) → AtFirst (LeavesNode (layout_of airport) from) steps → from.0 < length airport.nodes
    leaves from [] begins = absurd begins
    leaves from (s ∷ steps) begins = tail-exists airport s.arc from well begins

    go : (r : Request) (kept : List Step) → CanGoOn airport r → IsFalse (is_filed r) → Meets (conditions_of airport state x) r x.steps → CanBeSought airport (request_sought r kept)
    go request.Filed kept can routed met = absurd (cc routed)
    go (request.Arrival from to time hold) kept can routed met = can
    go (request.Departure from to time queue) [] can routed met = can
    go (request.Departure from to time queue) (s ∷ kept) can routed met = (leaves from x.steps met.begins, can.1)

-- what it asks for once it is routed can be sought again
pub routed-goes_on : (airport : Airport) (r : Request) (kept : List Step) → CanGoOn airport r → CanGoOn airport (request_routed r kept)
routed-goes_on airport request.Filed kept can = can
routed-goes_on airport (request.Arrival from to time hold) kept can = can
routed-goes_on airport (request.Departure from to time queue) [] can = can
routed-goes_on airport (request.Departure from to time queue) (s ∷ kept) can = tt

-- what is sought at a turn among the others is sought so among their spans
pub turn-seeks : (airport : Airport) (state : State) (turn : AtTurn) (spans : HeldSpans) → AreSpansOf (holds_in airport (without turn.name state)) spans
    → (r : Request) (way : Option UnderWay) (floor : Option ℕ) → r ≡ request_sought turn.request turn.kept
    → way ≡ way_sought (request_sought turn.request turn.kept) turn.kept turn.from_on → floor ≡ floor_sought (request_sought turn.request turn.kept) turn.from_on
    → SeeksAfter (conditions_among airport turn.class (holds_in_lists spans)) r [] way floor (sought_in airport state turn)
turn-seeks airport state turn spans has r way floor asked under_way after = record {
  conditions = sym (same-conditions airport turn.class spans (holds_in airport (without turn.name state)) has);
  asked = sym asked;
  nodes = refl;
  under_way = sym under_way;
  floor = sym after;
}

-- a holder that is not dropped is a flight that asked for a route
pub routed-there : (state : State) (name : List ℕ) → IsFalse (is_dropped state name) → (x : Flight) × (flight_named name state.flights ≡ Some x) × IsFalse (is_filed x.request)
routed-there state name routed = go (flight_named name state.flights) refl where
  go : (o : Option Flight) → flight_named name state.flights ≡ o → (x : Flight) × (flight_named name state.flights ≡ Some x) × IsFalse (is_filed x.request)
  go None none = absurd (cc (rw none at routed))
  go (Some x) found = (x, found, rw found at routed)

-- ---- the others

module _ (name : List ℕ) (state : State) (alone : party_named name state.parties ≡ None) where
  -- where there is no such flight they are all
  pub nobody-out : flight_named name state.flights ≡ None → without name state ≡ state
  nobody-out none =
      let flights = left-none (λ (f : Flight). f.name) name state.flights none in
      let parties = left-none (λ (p : Party). p.name) name state.parties alone in
      λ i. record { flights = flights i; parties = parties i }

  pub out-absent : flight_named name (without name state).flights ≡ None
  out-absent = absent-left (λ (f : Flight). f.name) name state.flights

-- without a flight, or with one more, the flights are on arcs, and can go on
pub without-all : (P : Flight → Type 0) (name : List ℕ) (flights : List Flight) → All P flights → All P (flights_without name flights)
without-all P name flights all = All-filter (λ (f : Flight). not (bytes_eq f.name name)) P flights all

pub with-all : (P : Flight → Type 0) (x : Flight) (flights : List Flight) → P x → All P flights → All P (flights_with x flights)
with-all P x flights its all = All-put_in (λ (f : Flight). f.name) P x its flights all

-- what follows where a call is done
pub ok-then : {A E : Type 0} (r : Result A E) (P Q : Type 0) → OnOk r P → (P → Q) → OnOk r Q
ok-then (Ok x) P Q did follows = follows did
ok-then (Err e) P Q did follows = tt

-- ---- what is told

same-steps : {steps : List Step} {time : ℕ} {way : UnderWay} → Some (record { steps = steps; time = time }) ≡ Some way → steps ≡ way.steps
same-steps e = cc

-- the steps that are gone on from are entered early
pub way-early : (r : Request) (kept : List Step) (time : ℕ) (way : UnderWay) → way_sought r kept time ≡ Some way → All (λ step. step.enter ≤ 9999999) kept → All (λ step. step.enter ≤ 9999999) way.steps
way-early request.Filed kept time way is early = subst (All (λ (step : Step). step.enter ≤ 9999999)) (same-steps is) early
way-early (request.Arrival from to asked hold) kept time way is early = subst (All (λ (step : Step). step.enter ≤ 9999999)) (same-steps is) early
way-early (request.Departure from to asked queue) kept time way is early = absurd (cc is)

-- a walk that is sought is on arcs of the airport
pub turn-arcs : (airport : Airport) (state : State) (turn : AtTurn) (steps : List Step) → IsWalkFor (sought_in airport state turn) steps
    → All (λ step. IsTrue (arc_exists (layout_of airport) step.arc)) steps
turn-arcs airport state turn steps is =
    let s : Sought = sought_in airport state turn in
    let does = (of-floor s.floor steps (DoesAsAsked s.conditions s.request [] s.under_way steps) is).0 in
    walk-arcs s.conditions steps (walk-asked s.conditions s.request s.under_way steps (alone-among s.conditions s.request s.under_way steps does)).0

-- what is found of the rules is found of the turn
pub turn-err : (s : Sought) (block : Block) (new : State) (broken : Option Rule) (why : CheckRefused) → answer_of broken ≡ Err why → IsFirstOf (λ r. KeepsSought r s block) broken → IsTurnChecked s block (Err why) new
turn-err s block new broken (Wrong rule) is first = answered-by (λ r. KeepsSought r s block) broken (Err (Wrong rule)) is first
turn-err s block new broken Memory is first = tt

-- where there is no route a flight that keeps no step is out, and another stays on the steps that it keeps
pub stayed-out : (turn : AtTurn) (state left : State) → left ≡ without turn.name state → length turn.kept ≡ 0 → left ≡ after_turn state (flight_in turn) turn.kept (found.NoRoute [])
stayed-out turn state left out none = go turn.kept none where
  go : (kept : List Step) → length kept ≡ 0 → left ≡ after_turn state (flight_in turn) kept (found.NoRoute [])
  go [] none = out
  go (s ∷ kept) none = absurd (omega (arith, none))

pub stayed-on : (turn : AtTurn) (state left new : State) → left ≡ without turn.name state → 0 < length turn.kept
    → new ≡ with_flight (record { name = turn.name; class = turn.class; request = request.Filed; steps = turn.kept }) left → new ≡ after_turn state (flight_in turn) turn.kept (found.NoRoute [])
stayed-on turn state left new out some put = go turn.kept some put where
  go : (kept : List Step) → 0 < length kept → new ≡ with_flight (record { name = turn.name; class = turn.class; request = request.Filed; steps = kept }) left
      → new ≡ after_turn state (flight_in turn) kept (found.NoRoute [])
  go [] some put = absurd (omega (arith, some))
  go (s ∷ kept) some put = put ∙ ap (with_flight (record { name = turn.name; class = turn.class; request = request.Filed; steps = s ∷ kept })) out

-- a look-up that finds none
pub copied-none : {A : Type 0} (o : Option (Bor A)) → is_some o ≡ false → option_copied o ≡ None
copied-none None none = refl
copied-none (Some x) none = absurd (cc none)

-- whether there are some
pub are-none : (n : ℕ) → eqb n 0 ≡ true → n ≡ 0
are-none n e = eqb-true n 0 e

pub are-some : (n : ℕ) → eqb n 0 ≡ false → 0 < n
are-some zero e = absurd (cc e)
are-some (suc n) e = omega arith
