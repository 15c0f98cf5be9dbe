-- An arc's number says its segment and its direction.
use Rattle.std.proofs.Common.{◌≡◌, ◌/◌, arith, refl, Some, None}
use Rattle.std.specs.Prelude.{slice_get}
use Rattle.std.proofs.lemmas.Grind.{common_steps}
use Rattle.std.proofs.lemmas.Option.{gets}
use Rattle.airport_rules.specs.Plan.{layout_of_plan}
use Rattle.airport_rules.proofs.ArcLaws.{ends-none, ends-forward, ends-backward}
use Rattle.airport_rules.proofs.plan.Plan.ends.Goals as goal

pub returns-in_err-way : goal.returns-in_err-way
returns-in_err-way c =
    let none : slice_get c.self.inside.ways.items (c.args.arc.0 / 2) ≡ None = grind (arith, common_steps, gets, c.in_err-way.ensures.lookup) in
    rw (c.from_residual.ensures, ends-none (layout_of_plan c.args.self.now) c.self.inside.ways.items c.args.arc (rw (← c.self.view_is) refl) none) refl

pub returns-then-is_forward : goal.returns-then-is_forward
returns-then-is_forward c =
    let found : slice_get c.self.inside.ways.items (c.args.arc.0 / 2) ≡ Some c.in_ok-way.way.now = grind (arith, common_steps, gets, c.in_ok-way.ensures.lookup) in
    rw (ends-forward (layout_of_plan c.args.self.now) c.self.inside.ways.items c.args.arc c.in_ok-way.way.now (rw (← c.self.view_is) refl) found (grind (arith, c.if-is_forward.true, c.is_forward.ensures))) refl

pub returns-then-way : goal.returns-then-way
returns-then-way c =
    let found : slice_get c.self.inside.ways.items (c.args.arc.0 / 2) ≡ Some c.in_ok-way.way.now = grind (arith, common_steps, gets, c.in_ok-way.ensures.lookup) in
    rw (ends-backward (layout_of_plan c.args.self.now) c.self.inside.ways.items c.args.arc c.in_ok-way.way.now (rw (← c.self.view_is) refl) found (grind (arith, c.if-is_forward.false, c.is_forward.ensures)), c.if-way.true) refl

pub returns-else-way : goal.returns-else-way
returns-else-way c =
    let found : slice_get c.self.inside.ways.items (c.args.arc.0 / 2) ≡ Some c.in_ok-way.way.now = grind (arith, common_steps, gets, c.in_ok-way.ensures.lookup) in
    rw (ends-backward (layout_of_plan c.args.self.now) c.self.inside.ways.items c.args.arc c.in_ok-way.way.now (rw (← c.self.view_is) refl) found (grind (arith, c.if-is_forward.false, c.is_forward.ensures)), c.if-way.false) refl
