use Rattle.std.proofs.Common.{◌∙◌, List, subst}
use Rattle.std.specs.Prelude.{remove}
use Rattle.taxi_base.specs.Windows.{Hold}
use Rattle.window_store.specs.Stands.{StandsFor}
use Rattle.commitments.specs.Held.{steps_with, steps_of_each, joined, steps_in}
use Rattle.commitments.specs.Holders.{state_of}
use Rattle.commitments.proofs.Numbers.{kept-route}
use Rattle.commitments.proofs.Routes.{parties-over}
use Rattle.commitments.proofs.HoldRoom.{StandsFor-as_many}
use Rattle.commitments.proofs.StepsIn.{steps-stand, steps-parted, as_many-left, others-hold}
use Rattle.commitments.proofs.holds.free_holder.Goals as goal

pub release-requires-clause-steps : goal.release-requires-clause-steps
release-requires-clause-steps c =
    (kept-route c.args.airport.now c.keep_rules.ensures (state_of c.args.holders.now) c.requires.feasible c.args.number _ (c.route-holder.ensures.route c.args.airport.now)).on_segments

pub release-requires-clause-time : goal.release-requires-clause-time
release-requires-clause-time c =
    (kept-route c.args.airport.now c.keep_rules.ensures (state_of c.args.holders.now) c.requires.feasible c.args.number _ (c.route-holder.ensures.route c.args.airport.now)).takes_time

pub release-requires-clause-in_time : goal.release-requires-clause-in_time
release-requires-clause-in_time c =
    (kept-route c.args.airport.now c.keep_rules.ensures (state_of c.args.holders.now) c.requires.feasible c.args.number _ (c.route-holder.ensures.route c.args.airport.now)).in_time

pub release-requires-clause-stands : goal.release-requires-clause-stands
release-requires-clause-stands c =
    let state = state_of c.args.holders.now in
    steps-stand c.args.airport.now state c.args.held.now.steps c.args.held.now.store (parties-over c.args.airport.now state c.requires.feasible) c.requires.steps c.requires.stands

pub release-requires-clause-among : goal.release-requires-clause-among
release-requires-clause-among c =
    let state = state_of c.args.holders.now in
    let parted = steps-parted state c.args.number (steps_with c.route-holder.result.1 c.route-holder.result.0.now) c.route-holder.ensures.steps in
    (joined (remove (steps_of_each state) c.args.number), λ test. c.requires.steps test ∙ parted test)

pub returns-clause-steps : goal.returns-clause-steps
returns-clause-steps c =
    let state = state_of c.args.holders.now in
    let gone = steps_with c.route-holder.result.1 c.route-holder.result.0.now in
    as_many-left c.args.held.now.steps (steps_in state) c.release.new.self.steps (joined (remove (steps_of_each state) c.args.number)) gone
    c.requires.steps (steps-parted state c.args.number gone c.route-holder.ensures.steps) c.release.ensures.steps

pub returns-clause-stands : goal.returns-clause-stands
returns-clause-stands c =
    let airport = c.args.airport.now in
    let state = state_of c.args.holders.now in
    let gone = steps_with c.route-holder.result.1 c.route-holder.result.0.now in
    let left = as_many-left c.args.held.now.steps (steps_in state) c.release.new.self.steps (joined (remove (steps_of_each state) c.args.number)) gone
    c.requires.steps (steps-parted state c.args.number gone c.route-holder.ensures.steps) c.release.ensures.steps in
    subst (λ (holds : List Hold). StandsFor airport.conflicts airport.horizon holds c.release.new.self.store) (others-hold airport state c.args.number)
    (StandsFor-as_many airport c.release.new.self.steps (joined (remove (steps_of_each state) c.args.number)) c.release.new.self.store left c.release.ensures.stands)

pub returns-clause-room : goal.returns-clause-room
returns-clause-room c = rw (c.route-holder.ensures.route c.args.airport.now) c.release.ensures.room

pub returns-clause-kept : goal.returns-clause-kept
returns-clause-kept c = rw (c.route-holder.ensures.route c.args.airport.now) c.release.ensures.kept
