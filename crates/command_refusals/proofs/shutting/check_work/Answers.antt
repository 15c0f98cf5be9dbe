use Rattle.std.proofs.Common.{◌≡◌, ◌∙◌, ◌<◌, false, sym}
use Rattle.taxi_base.specs.State.{has_holder, holder_count}
use Rattle.replies.specs.Refusals.{most_holders}
use Rattle.replies.proofs.WindowsTold.{segment_named-exists}
use Rattle.command_refusals.proofs.FiledDue.{not-full}
use Rattle.command_refusals.proofs.WorkDue.{work-due}
use Rattle.command_refusals.proofs.shutting.check_work.Goals as goal

pub check_hold-requires-clause-segment : goal.check_hold-requires-clause-segment
check_hold-requires-clause-segment c = segment_named-exists c.args.airport.now c.args.shut.now.segment c.in-Some.segment (sym c.segment_named.ensures ∙ c.in-Some.is)

pub returns-clause-ok : goal.returns-clause-ok
returns-clause-ok c =
    let airport = c.args.airport.now in
    let state = c.args.ledger.now.state in
    let absent : has_holder c.args.shut.now.name state ≡ false = sym c.is_held.ensures ∙ c.if-is_held.false in
    let few : holder_count state < most_holders = not-full state (sym c.is_full.ensures ∙ c.if-is_full.false) in
    let known = sym c.segment_named.ensures ∙ c.in-Some.is in
    record {
      due = work-due airport state c.args.shut.now c.in-Some.segment absent known few (sym c.check_hold.ensures.fault ∙ c.in_default-check_hold.is);
      name = c.requires.name;
      absent = absent;
      few = few;
      feasible = c.check_hold.ensures.feasible.0 c.in_default-check_hold.is;
    }
