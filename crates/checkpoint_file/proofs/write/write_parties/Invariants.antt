use Rattle.std.proofs.Common.{◌≡◌, ◌++◌, take}
use Rattle.std.specs.Prelude.{flat_map}
use Rattle.replies.specs.Texts.{line_text}
use Rattle.checkpoint_file.specs.Lines.{work_words}
use Rattle.checkpoint_file.proofs.write.write_parties.Given as goal

abbrev pub invariant-loop-place : goal.invariant-loop-place
invariant-loop-place l = l.out.items ≡ l.initial.out.items ++ flat_map (λ party. line_text (work_words l.airport party)) (take l.place l.ledger.state.parties)
