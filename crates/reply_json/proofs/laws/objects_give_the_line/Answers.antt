use Rattle.reply_json.proofs.LineBack.{line-same}
use Rattle.reply_json.proofs.laws.objects_give_the_line.Goals as goal

pub returns : goal.returns
returns c = line-same
