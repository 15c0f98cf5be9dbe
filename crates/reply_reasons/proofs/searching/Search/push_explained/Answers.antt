use Rattle.reply_reasons.proofs.WholeLaws.{route-explained}
use Rattle.reply_reasons.proofs.searching.Search.push_explained.Goals as goal

pub returns : goal.returns
returns c =
    let left = c.in_ok-push_left_out.ensures.reasons in
    let free = c.in_ok-push_freed.ensures in
    route-explained c.args.self.now.airport.now c.args.self.now.asking.now c.args.others.now.state c.args.route.now c.in_ok-alone.alone c.second_found-answer.result c.second_found-answer.ensures
    c.push_left_out.new.others.state c.in_ok-push_left_out.ensures.state left.0 free.0
    c.args.reasons.now c.push.new.self c.push-2.new.self c.push_left_out.new.reasons c.push_freed.new.reasons c.push_waits_of.new.reasons
    c.requires.found c.in_ok-alone.ensures left.1 free.1
    c.requires.empty c.in_ok-push.ensures.ok c.in_ok-push-2.ensures.ok left.2 free.2 c.in_ok-push_waits_of.ensures
