use Rattle.std.proofs.Common.{◌++◌, ◌∷◌, ◌∙◌, [], map, ap}
use Rattle.taxi_text.specs.Words.{words_of}
use Rattle.serde_json.specs.View.{view}
use Rattle.reply_json.specs.Values.{text_value}
use Rattle.reply_json.proofs.Encoded.{word-more}
use Rattle.reply_json.proofs.words.words_value.Goals as goal

pub loop-word-preserved : goal.loop-word-preserved
loop-word-preserved c =
    let inv = c.loop-word.invariant.values in
    let more = word-more view text_value c.loop-word.values.items c.in_ok-text_value.field-0 inv.0 _ _ (words_of c.args.text.now) c.in-Some.word.now inv.1 c.in-Some.ensures.steps inv.2 c.in_ok-text_value.ensures in
    record {
      can = tt;
      finite = tt;
      values = (inv.0 ++ c.in-Some.word.now ∷ [], more.0, ap (map view) c.in_ok-push.ensures.items ∙ more.1);
    }
