use Rattle.reply_json.proofs.ReadBack.{text-same, whole-same}
use Rattle.reply_json.proofs.laws.objects_give_the_transcript.Goals as goal

pub returns-clause-block : goal.returns-clause-block
returns-clause-block c = λ airport block command line text rules is. text-same airport rules command line text block is

pub returns-clause-whole : goal.returns-clause-whole
returns-clause-whole c = λ airport blocks objects rules all tell. whole-same airport rules blocks objects all tell
