use Rattle.std.proofs.Common.{◌≡◌, [], IsTrue, ap}
use Rattle.class_ways.specs.Courses.{is_start}
use Rattle.class_ways.specs.Found.{FoundArcs, has_arc}
use Rattle.class_ways.proofs.FoundLaws.{gained-only}
use Rattle.class_ways.proofs.SpreadLaws.{met-same}
use Rattle.class_ways.proofs.met.arcs_met.Goals as goal

pub returns : goal.returns
returns c = λ arc.
    let starts = is_start c.args.course c.args.kind c.args.airport.now c.args.class in
    let first = has_arc c.add_starts.new.found.arcs in
    let gained = c.in_ok-add_starts.ensures in
    let none : c.in_ok-found.found.arcs ≡ [] = ap (λ (f : FoundArcs). f.arcs) c.in_ok-found.ensures in
    let spread = c.in_ok-spread.ensures arc in (
      λ has. met-same c.args.course c.args.airport.now c.args.class first starts (λ a is. gained-only (λ a. IsTrue (starts a)) c.in_ok-found.found c.add_starts.new.found gained none a is) arc (spread.0 has),
      λ met. spread.1 (met-same c.args.course c.args.airport.now c.args.class starts first gained.all arc met),
    )
