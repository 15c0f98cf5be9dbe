use Rattle.generated_run.proofs.Made.{few-made, summary-made}
use Rattle.generated_run.proofs.run.run_generated.Goals as goal

pub count_replies-requires-clause-few : goal.count_replies-requires-clause-few
count_replies-requires-clause-few g c =
    few-made c.args.number c.args.side c.args.flights _ _ c.as_slice.ensures.value c.in_ok-commands.ensures.commands c.requires.flights

pub returns : goal.returns
returns g c =
    summary-made c.args.number c.args.side c.args.flights _ _ _ c.count_replies.result c.requires.airport c.as_slice.ensures.value c.in_ok-commands.ensures.commands
    c.count_replies.ensures
