use Rattle.std.proofs.Common.{◌≡◌, ◌∙◌, get_or, take, Contains, IsTrue, sym, subst}
use Rattle.std.proofs.lemmas.List.{take_all}
use Rattle.taxi_base.specs.declared.numbers.Arc.{Arc}
use Rattle.class_ways.specs.Ways.{is_open}
use Rattle.class_ways.proofs.FoundLaws.{gained-same, gained-item}
use Rattle.class_ways.proofs.WayLaws.{open-low}
use Rattle.class_ways.proofs.met.add_open.Goals as goal

abbrev no_arc : Arc
no_arc = record { 0 = 0 }

pub is_open-wanted-requires : goal.is_open-wanted-requires
is_open-wanted-requires c = c.requires.exist c.loop-arc.arc-index no_arc c.loop-arc-test.true

pub add_if-requires : goal.add_if-requires
add_if-requires c = λ wanted.
    rw (c.loop-arc.invariant.limit, c.requires.limit) (open-low c.args.airport.now c.args.class (get_or c.args.arcs.now c.loop-arc.arc-index no_arc) (sym c.is_open-wanted.ensures ∙ wanted))

pub loop-arc-preserved : goal.loop-arc-preserved
loop-arc-preserved c =
    gained-item (is_open c.args.airport.now c.args.class) c.args.arcs.now c.loop-arc.arc-index no_arc c.args.found.now c.loop-arc.found c.add_if.new.found c.loop-arc-test.true c.loop-arc.invariant
    (rw c.is_open-wanted.ensures at c.in_ok-add_if.ensures)

pub returns : goal.returns
returns c =
    let all : take c.loop-arc.arc-index c.args.arcs.now ≡ c.args.arcs.now = take_all c.loop-arc.arc-index c.args.arcs.now c.loop-arc-test.false in
    gained-same (λ a. Contains (take c.loop-arc.arc-index c.args.arcs.now) a × IsTrue (is_open c.args.airport.now c.args.class a))
    (λ a. Contains c.args.arcs.now a × IsTrue (is_open c.args.airport.now c.args.class a)) c.args.found.now c.loop-arc.found
    (λ a h. (subst (λ row. Contains row a) all h.0, h.1)) (λ a h. (subst (λ row. Contains row a) (sym all) h.0, h.1)) c.loop-arc.invariant
