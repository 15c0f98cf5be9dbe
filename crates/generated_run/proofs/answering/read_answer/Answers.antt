use Rattle.generated_run.proofs.Answered.{reply-printable, reply-text, reply-answers, reply-passes}
use Rattle.generated_run.proofs.answering.read_answer.Goals as goal

pub returns-clause-answered : goal.returns-clause-answered
returns-clause-answered g c =
    let reply = c.answer.ensures.answered in
    let printable = reply-printable c.args.airport.now _ _ _ _ _ reply c.requires.router in
    let text = reply-text c.args.airport.now _ _ _ _ _ reply c.requires.router c.reply.result.now c.reply.ensures in
    reply-answers c.args.airport.now _ _ _ _ _ reply c.requires.router c.in_ok-block.block (c.in_ok-block.ensures.only reply.block printable text)

pub returns-clause-passed : goal.returns-clause-passed
returns-clause-passed g c =
    let reply = c.answer.ensures.answered in
    let printable = reply-printable c.args.airport.now _ _ _ _ _ reply c.requires.router in
    let text = reply-text c.args.airport.now _ _ _ _ _ reply c.requires.router c.reply.result.now c.reply.ensures in
    reply-passes c.args.airport.now _ _ _ _ _ reply c.requires.router c.in_ok-block.block (c.in_ok-block.ensures.only reply.block printable text)
