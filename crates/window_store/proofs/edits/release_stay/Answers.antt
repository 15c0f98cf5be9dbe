use Rattle.std.proofs.Common.{List, drop, take, IsTrue, IsFalse, sym, ◌∙◌, subst}
use Rattle.std.proofs.lemmas.List.{take_rest}
use Rattle.taxi_base.specs.declared.rows.Step.{Step}
use Rattle.window_store.specs.Stays.{begins_stay, spans_held, IsStay}
use Rattle.window_store.proofs.Staying.{stay-front, own-many, IsReleased-stay, IsReleased-within}
use Rattle.window_store.proofs.edits.release_stay.Goals as goal

pub release-requires-clause-stands : goal.release-requires-clause-stands
release-requires-clause-stands g c =
    let sets = c.args.conflicts.now.sets in let s = c.args.segment in let steps = c.args.steps.now in let k = c.args.place in let term = c.args.term in
    let begins : IsTrue (begins_stay sets s steps k) = sym c.begins_stay.ensures ∙ c.if-begins_stay.true in
    let stay = c.stay_from-stay.result in
    let is : IsStay sets term.horizon term.clearance s (drop k steps) stay =
    subst (λ (left : List Step). IsStay sets term.horizon term.clearance s left stay) (take_rest steps k) c.stay_from-stay.ensures in
    rw (take_rest steps k, take_rest (drop k steps) stay.steps) (
      term.horizon,
      spans_held term.horizon term.clearance (take stay.steps (drop k steps)),
      is.in_time,
      is.joined.seconds,
      own-many sets term.horizon term.clearance s steps k c.requires.place c.requires.met begins stay is,
      stay-front sets term.horizon term.clearance s steps k c.requires.place c.requires.met begins stay is (g.R.OtherHolds.holds c.args.remaining.now) c.args.list.now c.requires.stands,
    )

pub returns-then-begins_stay : goal.returns-then-begins_stay
returns-then-begins_stay g c =
    let sets = c.args.conflicts.now.sets in let s = c.args.segment in let steps = c.args.steps.now in let k = c.args.place in let term = c.args.term in
    let begins : IsTrue (begins_stay sets s steps k) = sym c.begins_stay.ensures ∙ c.if-begins_stay.true in
    let stay = c.stay_from-stay.result in
    let is : IsStay sets term.horizon term.clearance s (drop k steps) stay =
    subst (λ (left : List Step). IsStay sets term.horizon term.clearance s left stay) (take_rest steps k) c.stay_from-stay.ensures in
    let stands = rw (take_rest steps k, take_rest (drop k steps) stay.steps) at c.release.ensures.stands in
    IsReleased-stay sets term.horizon term.clearance s steps k c.requires.place c.requires.met begins stay is (g.R.OtherHolds.holds c.args.remaining.now) c.args.list.now c.release.new.self
    (λ st. stands term.horizon _ is.in_time is.joined.seconds (own-many sets term.horizon term.clearance s steps k c.requires.place c.requires.met begins stay is) st)
    c.release.ensures.kept (record { ids = c.release.ensures.ids; nodes = c.release.ensures.nodes })

pub returns-else-begins_stay : goal.returns-else-begins_stay
returns-else-begins_stay g c =
    let sets = c.args.conflicts.now.sets in let s = c.args.segment in let steps = c.args.steps.now in let k = c.args.place in let term = c.args.term in
    let within : IsFalse (begins_stay sets s steps k) = sym c.begins_stay.ensures ∙ c.if-begins_stay.false in
    IsReleased-within sets term.horizon term.clearance s steps k c.requires.place c.requires.met within c.args.list.now (g.R.OtherHolds.holds c.args.remaining.now)
