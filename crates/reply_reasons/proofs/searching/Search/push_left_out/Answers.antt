use Rattle.std.proofs.Common.{[], sym, append-nil}
use Rattle.reply_reasons.specs.Explained.{holder_names}
use Rattle.reply_reasons.proofs.LeftOutLaws.{none-without}
use Rattle.reply_reasons.proofs.searching.Search.push_left_out.Goals as goal

-- Nothing better is found with no holder at all.
pub returns-else-is_gain-clause-reasons : goal.returns-else-is_gain-clause-reasons
returns-else-is_gain-clause-reasons c =
    let state = c.args.others.now.state in (
      [],
      none-without c.args.self.now.airport.now c.args.self.now.asking.now state c.args.seconds.answer c.args.seconds.alone c.requires.alone (sym c.if-is_gain.ensures) (holder_names state),
      sym (append-nil c.args.reasons.now),
    )
