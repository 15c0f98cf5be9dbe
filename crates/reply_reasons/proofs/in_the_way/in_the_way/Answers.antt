use Rattle.std.proofs.Common.{◌≡◌, ◌∙◌, length, sym, ap, arith}
use Rattle.std.proofs.lemmas.List.{length-map}
use Rattle.taxi_base.specs.Airport.{link_of}
use Rattle.reply_reasons.proofs.SecondLaws.{no-segment, no-second, at-second, told-none, told-some, same-holder}
use Rattle.reply_reasons.proofs.in_the_way.in_the_way.Goals as goal

pub returns-then-segment-segments : goal.returns-then-segment-segments
returns-then-segment-segments c =
    let airport = c.args.airport.now in
    let count : c.segments.result ≡ length airport.segments = c.segments.ensures.count ∙ ap (λ g. length g.links) c.graph.ensures ∙ length-map airport.segments link_of in
    sym (no-segment airport c.args.others.now.state c.args.segment c.args.second (omega (arith, count, c.if-segment-segments.true)))

pub returns-then-second-horizon : goal.returns-then-second-horizon
returns-then-second-horizon c =
    let airport = c.args.airport.now in
    let count : c.segments.result ≡ length airport.segments = c.segments.ensures.count ∙ ap (λ g. length g.links) c.graph.ensures ∙ length-map airport.segments link_of in
    sym (no-second airport c.args.others.now.state c.args.segment c.args.second (omega (arith, count, c.if-segment-segments.false))
    (omega (arith, c.horizon.ensures.horizon, c.if-second-horizon.true)))

pub returns-in_err-fault : goal.returns-in_err-fault
returns-in_err-fault c =
    let airport = c.args.airport.now in
    let count : c.segments.result ≡ length airport.segments = c.segments.ensures.count ∙ ap (λ g. length g.links) c.graph.ensures ∙ length-map airport.segments link_of in
    let told = at-second airport c.args.others.now.state c.args.segment c.args.second (omega (arith, count, c.if-segment-segments.false))
    (omega (arith, c.horizon.ensures.horizon, c.if-second-horizon.false)) in
    c.from_residual.ensures ∙ sym (told-none c.args.second _ (c.in_err-fault.ensures.fault ∙ told))

pub returns-in-Taken : goal.returns-in-Taken
returns-in-Taken c =
    let airport = c.args.airport.now in
    let count : c.segments.result ≡ length airport.segments = c.segments.ensures.count ∙ ap (λ g. length g.links) c.graph.ensures ∙ length-map airport.segments link_of in
    let told = at-second airport c.args.others.now.state c.args.segment c.args.second (omega (arith, count, c.if-segment-segments.false))
    (omega (arith, c.horizon.ensures.horizon, c.if-second-horizon.false)) in
    let some = told-some c.args.second _ c.in_ok-fault.fault (c.in_ok-fault.ensures.fault ∙ told) in
    sym (some.1 ∙ same-holder c.args.second some.0 c.in-Taken.at c.in-Taken.by (sym some.2 ∙ c.in-Taken.is))

pub returns-in_default : goal.returns-in_default
returns-in_default c =
    let airport = c.args.airport.now in
    let count : c.segments.result ≡ length airport.segments = c.segments.ensures.count ∙ ap (λ g. length g.links) c.graph.ensures ∙ length-map airport.segments link_of in
    let told = at-second airport c.args.others.now.state c.args.segment c.args.second (omega (arith, count, c.if-segment-segments.false))
    (omega (arith, c.horizon.ensures.horizon, c.if-second-horizon.false)) in
    let some = told-some c.args.second _ c.in_ok-fault.fault (c.in_ok-fault.ensures.fault ∙ told) in
    absurd (c.in_default.not-Taken c.args.second some.0 some.2)
