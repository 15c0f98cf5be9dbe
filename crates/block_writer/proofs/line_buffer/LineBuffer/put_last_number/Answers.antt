use Rattle.std.proofs.Common.{◌∙◌, ◌∷◌, ◌++◌, List, ℕ, decimal, ap}
use Rattle.block_writer.proofs.LineLaws.{has-room, length-with_number}
use Rattle.block_writer.proofs.line_buffer.LineBuffer.put_last_number.Goals as goal

pub write_last_number-self-inside-requires : goal.write_last_number-self-inside-requires
write_last_number-self-inside-requires c = has-room 21 c.self.inside.start c.self.inside.bytes _ c.self.invariant c.self.told c.self.view_is c.requires

pub returns-clause-length : goal.returns-clause-length
returns-clause-length c =
    length-with_number c.args.number 10 c.args.self.now _ c.ranges.number.fits
    (c.write_last_number-self-inside.ensures.written ∙ ap (λ (l : List ℕ). decimal c.args.number ++ 10 ∷ l) c.self.view_is)
