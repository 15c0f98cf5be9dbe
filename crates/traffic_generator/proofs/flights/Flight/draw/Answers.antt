use Rattle.std.proofs.Common.{◌≡◌, ◌+◌, refl, arith}
use Rattle.traffic_generator.specs.Draws.{state_after}
use Rattle.traffic_generator.proofs.DrawLaws.{state-more, flight-drawn}
use Rattle.traffic_generator.proofs.flights.Flight.draw.Goals as goal

pub returns-clause-flight : goal.returns-clause-flight
returns-clause-flight c number before e =
    let one : c.below.new.self.state ≡ state_after number (before + 1) = state-more number before _ _ _ e refl c.below.ensures.next in
    let two : c.below-2.new.self.state ≡ state_after number (before + 1 + 1) = state-more number (before + 1) _ _ _ one refl c.below-2.ensures.next in
    let three : c.below-3.new.self.state ≡ state_after number (before + 2 + 1) = state-more number (before + 1 + 1) _ _ _ two (omega arith) c.below-3.ensures.next in
    let four : c.below-4.new.self.state ≡ state_after number (before + 3 + 1) = state-more number (before + 2 + 1) _ _ _ three (omega arith) c.below-4.ensures.next in
    let five : c.below-5.new.self.state ≡ state_after number (before + 4 + 1) = state-more number (before + 3 + 1) _ _ _ four (omega arith) c.below-5.ensures.next in
    flight-drawn number c.args.side before _ _ _ _ _ _ _ _ _ _ one two three four five c.below.ensures.drawn c.below-2.ensures.drawn c.below-3.ensures.drawn c.below-4.ensures.drawn c.below-5.ensures.drawn

pub returns-clause-draws : goal.returns-clause-draws
returns-clause-draws c number before e =
    let one : c.below.new.self.state ≡ state_after number (before + 1) = state-more number before _ _ _ e refl c.below.ensures.next in
    let two : c.below-2.new.self.state ≡ state_after number (before + 2) = state-more number (before + 1) _ _ _ one (omega arith) c.below-2.ensures.next in
    let three : c.below-3.new.self.state ≡ state_after number (before + 3) = state-more number (before + 2) _ _ _ two (omega arith) c.below-3.ensures.next in
    let four : c.below-4.new.self.state ≡ state_after number (before + 4) = state-more number (before + 3) _ _ _ three (omega arith) c.below-4.ensures.next in
    state-more number (before + 4) _ _ _ four (omega arith) c.below-5.ensures.next
