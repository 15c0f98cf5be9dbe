use Rattle.std.proofs.Common.{◌∙◌}
use Rattle.reply_reasons.proofs.WaitLaws.{behind}
use Rattle.reply_reasons.proofs.waits.RouteAmong.holder_behind.Goals as goal

pub returns : goal.returns
returns c =
    c.in_the_way.ensures
    ∙ behind c.args.self.now.airport.now c.args.self.now.class c.args.self.now.others.now.state c.args.self.now.steps.now c.args.place _ c.segment.result c.held_until-until.result c.if-place-eq0.false c.requires.place
    c.segment.ensures c.held_until-until.ensures
