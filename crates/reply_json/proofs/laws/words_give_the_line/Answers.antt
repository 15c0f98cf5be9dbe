use Rattle.std.proofs.lemmas.List.Splits.{join_with_byte-slice_split}
use Rattle.reply_json.proofs.laws.words_give_the_line.Goals as goal

pub returns : goal.returns
returns c = join_with_byte-slice_split 32
