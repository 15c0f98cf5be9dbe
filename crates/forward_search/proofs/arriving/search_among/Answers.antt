use Rattle.std.proofs.Common.{◌≡◌, ◌<◌, List, map, Some, IfSome, IfNone, sym, ◌∙◌, ap, subst}
use Rattle.taxi_base.specs.declared.numbers.Arc.{Arc}
use Rattle.taxi_base.specs.declared.numbers.Node.{Node}
use Rattle.taxi_base.specs.Airport.{Layout, tail, clearance_of}
use Rattle.label_core.specs.Best.{IsBestEnd, HasNoWalk, IsPickedRoute}
use Rattle.label_search.specs.declared.values.CellValue.{CellValue}
use Rattle.label_search.specs.declared.pick.CellStep.{CellStep}
use Rattle.label_search.specs.Problem.{Problem, IsProblem}
use Rattle.label_search.specs.Values.{AreExits}
use Rattle.label_search.specs.Answer.{step_of, best_of, ComesBefore}
use Rattle.walk_labels.specs.Places.{place_at}
use Rattle.walk_labels.specs.Requests.{steps_at}
use Rattle.aircraft_class.specs.Times.{Times}
use Rattle.place_cells.specs.Laid.{windows_of}
use Rattle.place_cells.specs.Ground.{Ground, ground_in, cells_of}
use Rattle.place_cells.specs.Grounds.{numbers_of}
use Rattle.place_cells.specs.Found.{row_in}
use Rattle.place_cells.proofs.GroundLaws.{airport_sound, tail_of_airport}
use Rattle.forward_search.specs.Arrivals.{beginning_of, arrival_problem}
use Rattle.forward_search.proofs.ArrivalLaws.{arrival_is_problem, same_problem}
use Rattle.forward_search.proofs.ArrivalAnswers.{route_answers, no_route_answers, any_route_answers, any_no_route_answers, last_route_answers}
use Rattle.forward_search.proofs.arriving.search_among.Goals as goal

pub invariant_of-asked : goal.invariant_of-asked
invariant_of-asked c = record {
  nodes = subst (λ (l : Layout). (a : Arc) (n : Node) → tail l a ≡ Some n → n.0 < l.nodes) (sym c.graph.ensures) (tail_of_airport c.args.airport.now c.requires.rules);
}

pub earliest_exits-requires : goal.earliest_exits-requires
earliest_exits-requires c =
    let ground : Ground = record { layout = c.graph.result.now; table = c.classes-classes.result.now.table; class = c.args.class; horizon = c.horizon.result; clearance = c.clearance.result; windows = windows_of c.args.store.now; numbers = numbers_of c.args.numbers.now } in
    let table = ap (λ (t : Times). t.table) c.classes-classes.ensures in
    let same : ground ≡ ground_in c.args.airport.now c.args.class (clearance_of c.args.airport.now c.args.class) (windows_of c.args.store.now) (numbers_of c.args.numbers.now) =
    λ i. record { layout = c.graph.ensures i; table = table i; class = c.args.class; horizon = c.horizon.ensures.horizon i; clearance = c.clearance.ensures.clearance i; windows = windows_of c.args.store.now; numbers = numbers_of c.args.numbers.now } in
    record {
      sound = subst (λ (g : Ground). IsProblem (arrival_problem g (beginning_of c.args.start 0) c.args.to.now)) (sym same)
          (arrival_is_problem (ground_in c.args.airport.now c.args.class (clearance_of c.args.airport.now c.args.class) (windows_of c.args.store.now) (numbers_of c.args.numbers.now))
          (airport_sound c.args.airport.now c.requires.rules c.args.class (clearance_of c.args.airport.now c.args.class) (windows_of c.args.store.now) (numbers_of c.args.numbers.now) c.requires.lists c.args.numbers.now.numbered c.requires.room) (beginning_of c.args.start 0) c.args.to.now);
    }

pub returns-in-None-clause-any : goal.returns-in-None-clause-any
returns-in-None-clause-any c leave =
    let ground : Ground = record { layout = c.graph.result.now; table = c.classes-classes.result.now.table; class = c.args.class; horizon = c.horizon.result; clearance = c.clearance.result; windows = windows_of c.args.store.now; numbers = numbers_of c.args.numbers.now } in
    let told : Ground = ground_in c.args.airport.now c.args.class (clearance_of c.args.airport.now c.args.class) (windows_of c.args.store.now) (numbers_of c.args.numbers.now) in
    let table = ap (λ (t : Times). t.table) c.classes-classes.ensures in
    let same_ground : ground ≡ told = λ i. record { layout = c.graph.ensures i; table = table i; class = c.args.class; horizon = c.horizon.ensures.horizon i; clearance = c.clearance.ensures.clearance i; windows = windows_of c.args.store.now; numbers = numbers_of c.args.numbers.now } in
    let same : arrival_problem ground (beginning_of c.args.start 0) c.args.to.now ≡ arrival_problem told (beginning_of c.args.start leave) c.args.to.now =
    ap (λ (g : Ground). arrival_problem g (beginning_of c.args.start 0) c.args.to.now) same_ground ∙ same_problem told c.args.start leave c.args.to.now in
    let read = c.in_ok-labels.ensures.table in
    let values : List CellValue = read.values in
    let rows = read.are_told ∙ ap (λ (g : Ground). map (row_in g) values) same_ground in
    any_no_route_answers c.args.airport.now c.args.class (clearance_of c.args.airport.now c.args.class) (windows_of c.args.store.now) c.requires.rules c.requires.lists (numbers_of c.args.numbers.now) c.args.numbers.now.numbered c.requires.room (beginning_of c.args.start leave) c.args.to.now c.in_ok-labels.field-0.route c.in-None.is values
    (subst (λ (p : Problem). AreExits p.network p.starts p.count (best_of c.in_ok-labels.field-0.route) values) same read.are_exits)
    (subst (λ (p : Problem). IfNone (best_of c.in_ok-labels.field-0.route) (HasNoWalk p.network p.starts p.target)) same c.in_ok-labels.ensures.none) c.in_ok-labels.field-0.rows rows

pub returns-in-None-clause-one : goal.returns-in-None-clause-one
returns-in-None-clause-one c leave node alone =
    let ground : Ground = record { layout = c.graph.result.now; table = c.classes-classes.result.now.table; class = c.args.class; horizon = c.horizon.result; clearance = c.clearance.result; windows = windows_of c.args.store.now; numbers = numbers_of c.args.numbers.now } in
    let told : Ground = ground_in c.args.airport.now c.args.class (clearance_of c.args.airport.now c.args.class) (windows_of c.args.store.now) (numbers_of c.args.numbers.now) in
    let table = ap (λ (t : Times). t.table) c.classes-classes.ensures in
    let same_ground : ground ≡ told = λ i. record { layout = c.graph.ensures i; table = table i; class = c.args.class; horizon = c.horizon.ensures.horizon i; clearance = c.clearance.ensures.clearance i; windows = windows_of c.args.store.now; numbers = numbers_of c.args.numbers.now } in
    let same : arrival_problem ground (beginning_of c.args.start 0) c.args.to.now ≡ arrival_problem told (beginning_of c.args.start leave) c.args.to.now =
    ap (λ (g : Ground). arrival_problem g (beginning_of c.args.start 0) c.args.to.now) same_ground ∙ same_problem told c.args.start leave c.args.to.now in
    let read = c.in_ok-labels.ensures.table in
    let values : List CellValue = read.values in
    let rows = read.are_told ∙ ap (λ (g : Ground). map (row_in g) values) same_ground in
    no_route_answers c.args.airport.now c.args.class (clearance_of c.args.airport.now c.args.class) (windows_of c.args.store.now) c.requires.rules c.requires.lists (numbers_of c.args.numbers.now) c.args.numbers.now.numbered c.requires.room (beginning_of c.args.start leave) c.args.to.now node alone c.in_ok-labels.field-0.route c.in-None.is values
    (subst (λ (p : Problem). AreExits p.network p.starts p.count (best_of c.in_ok-labels.field-0.route) values) same read.are_exits)
    (subst (λ (p : Problem). IfNone (best_of c.in_ok-labels.field-0.route) (HasNoWalk p.network p.starts p.target)) same c.in_ok-labels.ensures.none) c.in_ok-labels.field-0.rows rows

pub returns-in_ok-steps-in-Some-clause-any : goal.returns-in_ok-steps-in-Some-clause-any
returns-in_ok-steps-in-Some-clause-any c leave =
    let ground : Ground = record { layout = c.graph.result.now; table = c.classes-classes.result.now.table; class = c.args.class; horizon = c.horizon.result; clearance = c.clearance.result; windows = windows_of c.args.store.now; numbers = numbers_of c.args.numbers.now } in
    let told : Ground = ground_in c.args.airport.now c.args.class (clearance_of c.args.airport.now c.args.class) (windows_of c.args.store.now) (numbers_of c.args.numbers.now) in
    let table = ap (λ (t : Times). t.table) c.classes-classes.ensures in
    let same_ground : ground ≡ told = λ i. record { layout = c.graph.ensures i; table = table i; class = c.args.class; horizon = c.horizon.ensures.horizon i; clearance = c.clearance.ensures.clearance i; windows = windows_of c.args.store.now; numbers = numbers_of c.args.numbers.now } in
    let same : arrival_problem ground (beginning_of c.args.start 0) c.args.to.now ≡ arrival_problem told (beginning_of c.args.start leave) c.args.to.now =
    ap (λ (g : Ground). arrival_problem g (beginning_of c.args.start 0) c.args.to.now) same_ground ∙ same_problem told c.args.start leave c.args.to.now in
    let read = c.in_ok-labels.ensures.table in
    let values : List CellValue = read.values in
    let rows = read.are_told ∙ ap (λ (g : Ground). map (row_in g) values) same_ground in
    let steps = c.in_ok-steps-in-Some.ensures ∙ ap (λ (walk : List CellStep). steps_at (place_at (cells_of ground)) (map step_of walk)) c.deref.ensures.value ∙ ap (λ (g : Ground). steps_at (place_at (cells_of g)) (map step_of c.in-Some.route.steps.items)) same_ground in
    any_route_answers c.args.airport.now c.args.class (clearance_of c.args.airport.now c.args.class) (windows_of c.args.store.now) c.requires.rules c.requires.lists (numbers_of c.args.numbers.now) c.args.numbers.now.numbered c.requires.room (beginning_of c.args.start leave) c.args.to.now c.in_ok-labels.field-0.route c.in-Some.route c.in-Some.is values
    (subst (λ (p : Problem). AreExits p.network p.starts p.count (best_of c.in_ok-labels.field-0.route) values) same read.are_exits)
    (subst (λ (p : Problem). IfSome (best_of c.in_ok-labels.field-0.route) (IsBestEnd p.network p.starts p.target)) same c.in_ok-labels.ensures.best)
    (subst (λ (p : Problem). IfSome c.in_ok-labels.field-0.route (λ f. IsPickedRoute p.network p.starts ComesBefore p.target f.best (map step_of f.steps.items))) same c.in_ok-labels.ensures.picked)
    c.in_ok-steps-in-Some.steps c.in_ok-labels.field-0.rows steps rows

pub returns-in_ok-steps-in-Some-clause-one : goal.returns-in_ok-steps-in-Some-clause-one
returns-in_ok-steps-in-Some-clause-one c leave node alone =
    let ground : Ground = record { layout = c.graph.result.now; table = c.classes-classes.result.now.table; class = c.args.class; horizon = c.horizon.result; clearance = c.clearance.result; windows = windows_of c.args.store.now; numbers = numbers_of c.args.numbers.now } in
    let told : Ground = ground_in c.args.airport.now c.args.class (clearance_of c.args.airport.now c.args.class) (windows_of c.args.store.now) (numbers_of c.args.numbers.now) in
    let table = ap (λ (t : Times). t.table) c.classes-classes.ensures in
    let same_ground : ground ≡ told = λ i. record { layout = c.graph.ensures i; table = table i; class = c.args.class; horizon = c.horizon.ensures.horizon i; clearance = c.clearance.ensures.clearance i; windows = windows_of c.args.store.now; numbers = numbers_of c.args.numbers.now } in
    let same : arrival_problem ground (beginning_of c.args.start 0) c.args.to.now ≡ arrival_problem told (beginning_of c.args.start leave) c.args.to.now =
    ap (λ (g : Ground). arrival_problem g (beginning_of c.args.start 0) c.args.to.now) same_ground ∙ same_problem told c.args.start leave c.args.to.now in
    let read = c.in_ok-labels.ensures.table in
    let values : List CellValue = read.values in
    let rows = read.are_told ∙ ap (λ (g : Ground). map (row_in g) values) same_ground in
    let steps = c.in_ok-steps-in-Some.ensures ∙ ap (λ (walk : List CellStep). steps_at (place_at (cells_of ground)) (map step_of walk)) c.deref.ensures.value ∙ ap (λ (g : Ground). steps_at (place_at (cells_of g)) (map step_of c.in-Some.route.steps.items)) same_ground in
    route_answers c.args.airport.now c.args.class (clearance_of c.args.airport.now c.args.class) (windows_of c.args.store.now) c.requires.rules c.requires.lists (numbers_of c.args.numbers.now) c.args.numbers.now.numbered c.requires.room (beginning_of c.args.start leave) c.args.to.now node alone c.in_ok-labels.field-0.route c.in-Some.route c.in-Some.is values
    (subst (λ (p : Problem). AreExits p.network p.starts p.count (best_of c.in_ok-labels.field-0.route) values) same read.are_exits)
    (subst (λ (p : Problem). IfSome (best_of c.in_ok-labels.field-0.route) (IsBestEnd p.network p.starts p.target)) same c.in_ok-labels.ensures.best)
    (subst (λ (p : Problem). IfSome c.in_ok-labels.field-0.route (λ f. IsPickedRoute p.network p.starts ComesBefore p.target f.best (map step_of f.steps.items))) same c.in_ok-labels.ensures.picked)
    c.in_ok-steps-in-Some.steps c.in_ok-labels.field-0.rows steps rows

pub returns-in_ok-steps-in-Some-clause-last : goal.returns-in_ok-steps-in-Some-clause-last
returns-in_ok-steps-in-Some-clause-last c leave node among reaches =
    let ground : Ground = record { layout = c.graph.result.now; table = c.classes-classes.result.now.table; class = c.args.class; horizon = c.horizon.result; clearance = c.clearance.result; windows = windows_of c.args.store.now; numbers = numbers_of c.args.numbers.now } in
    let told : Ground = ground_in c.args.airport.now c.args.class (clearance_of c.args.airport.now c.args.class) (windows_of c.args.store.now) (numbers_of c.args.numbers.now) in
    let table = ap (λ (t : Times). t.table) c.classes-classes.ensures in
    let same_ground : ground ≡ told = λ i. record { layout = c.graph.ensures i; table = table i; class = c.args.class; horizon = c.horizon.ensures.horizon i; clearance = c.clearance.ensures.clearance i; windows = windows_of c.args.store.now; numbers = numbers_of c.args.numbers.now } in
    let same : arrival_problem ground (beginning_of c.args.start 0) c.args.to.now ≡ arrival_problem told (beginning_of c.args.start leave) c.args.to.now =
    ap (λ (g : Ground). arrival_problem g (beginning_of c.args.start 0) c.args.to.now) same_ground ∙ same_problem told c.args.start leave c.args.to.now in
    let read = c.in_ok-labels.ensures.table in
    let values : List CellValue = read.values in
    let rows = read.are_told ∙ ap (λ (g : Ground). map (row_in g) values) same_ground in
    let steps = c.in_ok-steps-in-Some.ensures ∙ ap (λ (walk : List CellStep). steps_at (place_at (cells_of ground)) (map step_of walk)) c.deref.ensures.value ∙ ap (λ (g : Ground). steps_at (place_at (cells_of g)) (map step_of c.in-Some.route.steps.items)) same_ground in
    last_route_answers c.args.airport.now c.args.class (clearance_of c.args.airport.now c.args.class) (windows_of c.args.store.now) c.requires.rules c.requires.lists (numbers_of c.args.numbers.now) c.args.numbers.now.numbered c.requires.room (beginning_of c.args.start leave) c.args.to.now node among c.in_ok-labels.field-0.route c.in-Some.route c.in-Some.is values
    (subst (λ (p : Problem). AreExits p.network p.starts p.count (best_of c.in_ok-labels.field-0.route) values) same read.are_exits)
    (subst (λ (p : Problem). IfSome (best_of c.in_ok-labels.field-0.route) (IsBestEnd p.network p.starts p.target)) same c.in_ok-labels.ensures.best)
    (subst (λ (p : Problem). IfSome c.in_ok-labels.field-0.route (λ f. IsPickedRoute p.network p.starts ComesBefore p.target f.best (map step_of f.steps.items))) same c.in_ok-labels.ensures.picked)
    c.in_ok-steps-in-Some.steps c.in_ok-labels.field-0.rows steps rows reaches
