use Rattle.checkpoint_file.proofs.Pieces.{line-written}
use Rattle.checkpoint_file.proofs.words.write_line.Goals as goal

pub returns : goal.returns
returns c = line-written c.args.out.now.items _ _ _ c.args.first.now c.args.words.now c.in_ok-push_bytes.ensures.ok c.in_ok-write_words.ensures c.in_ok-push_bytes-2.ensures.ok
