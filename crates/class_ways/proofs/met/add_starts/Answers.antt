use Rattle.std.proofs.Common.{◌≡◌, ◌<◌, ◌≤◌, ◌+◌, ◌∙◌, length, IsTrue, ap, arith}
use Rattle.std.proofs.lemmas.List.{length-map}
use Rattle.taxi_base.specs.Airport.{link_of}
use Rattle.class_ways.specs.Courses.{is_start}
use Rattle.class_ways.proofs.FoundLaws.{gained-same, gained-number}
use Rattle.class_ways.proofs.WayLaws.{start-parts, open-low}
use Rattle.class_ways.proofs.met.add_starts.Goals as goal

pub loop-number-preserved : goal.loop-number-preserved
loop-number-preserved c =
    gained-number (is_start c.args.course c.args.kind c.args.airport.now c.args.class) c.loop-number.number c.args.found.now c.loop-number.found c.add_if.new.found c.loop-number.invariant
    (rw c.is_start-wanted.ensures at c.in_ok-add_if.ensures)

pub returns : goal.returns
returns c =
    let airport = c.args.airport.now in
    let wanted = is_start c.args.course c.args.kind airport c.args.class in
    let count : c.segments.result ≡ length airport.segments = c.segments.ensures.count ∙ ap (λ g. length g.links) c.graph.ensures ∙ length-map airport.segments link_of in
    let past : length airport.segments + length airport.segments ≤ c.loop-number.number = let test = c.loop-number-test.false in omega (arith, test, count) in
    gained-same (λ a. (a.0 < c.loop-number.number) × IsTrue (wanted a)) (λ a. IsTrue (wanted a)) c.args.found.now c.loop-number.found
    (λ a h. h.1)
    (λ a h. (let low = open-low airport c.args.class a (start-parts c.args.course c.args.kind airport c.args.class a h).0 in omega (arith, low, past), h))
    c.loop-number.invariant
