use Rattle.reply_json.proofs.Encoded.{encode-more}
use Rattle.reply_json.proofs.words.text_value.Goals as goal

pub loop-byte-preserved : goal.loop-byte-preserved
loop-byte-preserved c =
    encode-more c.args.bytes.now c.loop-byte.byte-index _ _ _ c.from.result c.loop-byte-test.true c.from.ensures c.loop-byte.invariant c.in_ok-push.ensures.bytes
