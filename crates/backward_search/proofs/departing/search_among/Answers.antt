use Rattle.std.proofs.Common.{◌≡◌, ◌<◌, List, map, Some, IfSome, IfNone, sym, ◌∙◌, ap, subst}
use Rattle.taxi_base.specs.declared.numbers.Arc.{Arc}
use Rattle.taxi_base.specs.declared.numbers.Node.{Node}
use Rattle.taxi_base.specs.Airport.{Layout, head, clearance_of}
use Rattle.label_core.specs.BackwardBest.{IsBestBegin, HasNoWalkFrom, IsPickedRouteOn}
use Rattle.label_search.specs.declared.values.CellValue.{CellValue}
use Rattle.label_search.specs.declared.pick.CellStep.{CellStep}
use Rattle.label_search.specs.Backward.{BackwardProblem, IsBackwardProblem}
use Rattle.label_search.specs.Values.{AreEntries}
use Rattle.label_search.specs.Answer.{step_of, best_of, ComesBefore}
use Rattle.walk_labels.specs.Places.{place_at}
use Rattle.walk_labels.specs.Requests.{steps_at}
use Rattle.aircraft_class.specs.Times.{Times}
use Rattle.place_cells.specs.Laid.{windows_of}
use Rattle.place_cells.specs.Ground.{Ground, ground_in, cells_of}
use Rattle.place_cells.specs.Grounds.{numbers_of}
use Rattle.place_cells.specs.Found.{row_in}
use Rattle.place_cells.proofs.GroundLaws.{airport_sound, head_of_airport}
use Rattle.backward_search.specs.Departures.{Ending, departure_problem}
use Rattle.backward_search.proofs.DepartureLaws.{departure_is_problem}
use Rattle.backward_search.proofs.DepartureAnswers.{route_answers, no_route_answers}
use Rattle.backward_search.proofs.departing.search_among.Goals as goal

pub last_arcs-requires : goal.last_arcs-requires
last_arcs-requires c =
    subst (λ (l : Layout). (a : Arc) (n : Node) → head l a ≡ Some n → n.0 < l.nodes) (sym c.graph.ensures) (head_of_airport c.args.airport.now c.requires.rules)

pub latest_entries-requires : goal.latest_entries-requires
latest_entries-requires c =
    let ending : Ending = record { to = c.args.to.now; earliest = c.args.departure.earliest_out; latest = c.args.departure.latest_out } in
    let ground : Ground = record { layout = c.graph.result.now; table = c.classes-classes.result.now.table; class = c.args.departure.class; horizon = c.horizon.result; clearance = c.clearance.result; windows = windows_of c.args.store.now; numbers = numbers_of c.args.numbers.now } in
    let table = ap (λ (t : Times). t.table) c.classes-classes.ensures in
    let same : ground ≡ ground_in c.args.airport.now c.args.departure.class (clearance_of c.args.airport.now c.args.departure.class) (windows_of c.args.store.now) (numbers_of c.args.numbers.now) =
    λ i. record { layout = c.graph.ensures i; table = table i; class = c.args.departure.class; horizon = c.horizon.ensures.horizon i; clearance = c.clearance.ensures.clearance i; windows = windows_of c.args.store.now; numbers = numbers_of c.args.numbers.now } in
    record {
      sound = subst (λ (g : Ground). IsBackwardProblem (departure_problem g c.args.departure.from ending)) (sym same)
          (departure_is_problem (ground_in c.args.airport.now c.args.departure.class (clearance_of c.args.airport.now c.args.departure.class) (windows_of c.args.store.now) (numbers_of c.args.numbers.now))
          (airport_sound c.args.airport.now c.requires.rules c.args.departure.class (clearance_of c.args.airport.now c.args.departure.class) (windows_of c.args.store.now) (numbers_of c.args.numbers.now) c.requires.lists c.args.numbers.now.numbered c.requires.room) c.args.departure.from ending c.requires.times);
    }

pub returns-in-None : goal.returns-in-None
returns-in-None c =
    let ending : Ending = record { to = c.args.to.now; earliest = c.args.departure.earliest_out; latest = c.args.departure.latest_out } in
    let ground : Ground = record { layout = c.graph.result.now; table = c.classes-classes.result.now.table; class = c.args.departure.class; horizon = c.horizon.result; clearance = c.clearance.result; windows = windows_of c.args.store.now; numbers = numbers_of c.args.numbers.now } in
    let told : Ground = ground_in c.args.airport.now c.args.departure.class (clearance_of c.args.airport.now c.args.departure.class) (windows_of c.args.store.now) (numbers_of c.args.numbers.now) in
    let table = ap (λ (t : Times). t.table) c.classes-classes.ensures in
    let same_ground : ground ≡ told = λ i. record { layout = c.graph.ensures i; table = table i; class = c.args.departure.class; horizon = c.horizon.ensures.horizon i; clearance = c.clearance.ensures.clearance i; windows = windows_of c.args.store.now; numbers = numbers_of c.args.numbers.now } in
    let same : departure_problem ground c.args.departure.from ending ≡ departure_problem told c.args.departure.from ending = ap (λ (g : Ground). departure_problem g c.args.departure.from ending) same_ground in
    let read = c.in_ok-labels.ensures.table in
    let values : List CellValue = read.values in
    let rows = read.are_told ∙ ap (λ (g : Ground). map (row_in g) values) same_ground in
    no_route_answers c.args.airport.now c.args.departure.class (clearance_of c.args.airport.now c.args.departure.class) (windows_of c.args.store.now) c.requires.rules c.requires.lists (numbers_of c.args.numbers.now) c.args.numbers.now.numbered c.requires.room c.args.departure.from ending c.in_ok-labels.field-0.route c.in-None.is values
    (subst (λ (p : BackwardProblem). AreEntries p.network p.finishes p.count (best_of c.in_ok-labels.field-0.route) values) same read.are_entries)
    (subst (λ (p : BackwardProblem). IfNone (best_of c.in_ok-labels.field-0.route) (HasNoWalkFrom p.network p.finishes p.source)) same c.in_ok-labels.ensures.none) c.in_ok-labels.field-0.rows rows

pub returns : goal.returns
returns c =
    let ending : Ending = record { to = c.args.to.now; earliest = c.args.departure.earliest_out; latest = c.args.departure.latest_out } in
    let ground : Ground = record { layout = c.graph.result.now; table = c.classes-classes.result.now.table; class = c.args.departure.class; horizon = c.horizon.result; clearance = c.clearance.result; windows = windows_of c.args.store.now; numbers = numbers_of c.args.numbers.now } in
    let told : Ground = ground_in c.args.airport.now c.args.departure.class (clearance_of c.args.airport.now c.args.departure.class) (windows_of c.args.store.now) (numbers_of c.args.numbers.now) in
    let table = ap (λ (t : Times). t.table) c.classes-classes.ensures in
    let same_ground : ground ≡ told = λ i. record { layout = c.graph.ensures i; table = table i; class = c.args.departure.class; horizon = c.horizon.ensures.horizon i; clearance = c.clearance.ensures.clearance i; windows = windows_of c.args.store.now; numbers = numbers_of c.args.numbers.now } in
    let same : departure_problem ground c.args.departure.from ending ≡ departure_problem told c.args.departure.from ending = ap (λ (g : Ground). departure_problem g c.args.departure.from ending) same_ground in
    let read = c.in_ok-labels.ensures.table in
    let values : List CellValue = read.values in
    let rows = read.are_told ∙ ap (λ (g : Ground). map (row_in g) values) same_ground in
    let steps = c.in_ok-steps-in-Some.ensures ∙ ap (λ (walk : List CellStep). steps_at (place_at (cells_of ground)) (map step_of walk)) c.deref-in-Some.ensures.value ∙ ap (λ (g : Ground). steps_at (place_at (cells_of g)) (map step_of c.in-Some.route.steps.items)) same_ground in
    route_answers c.args.airport.now c.args.departure.class (clearance_of c.args.airport.now c.args.departure.class) (windows_of c.args.store.now) c.requires.rules c.requires.lists (numbers_of c.args.numbers.now) c.args.numbers.now.numbered c.requires.room c.args.departure.from ending c.in_ok-labels.field-0.route c.in-Some.route c.in-Some.is values
    (subst (λ (p : BackwardProblem). AreEntries p.network p.finishes p.count (best_of c.in_ok-labels.field-0.route) values) same read.are_entries)
    (subst (λ (p : BackwardProblem). IfSome (best_of c.in_ok-labels.field-0.route) (IsBestBegin p.network p.finishes p.source)) same c.in_ok-labels.ensures.best)
    (subst (λ (p : BackwardProblem). IfSome c.in_ok-labels.field-0.route (λ f. IsPickedRouteOn p.network p.finishes ComesBefore p.source f.best (map step_of f.steps.items))) same c.in_ok-labels.ensures.picked)
    c.in_ok-steps-in-Some.steps c.in_ok-labels.field-0.rows steps rows
