use Rattle.std.proofs.Common.{◌+◌, ◌-◌, ◌++◌, List, ℕ, length, drop, ap, ◌∙◌, arith}
use Rattle.block_writer.proofs.WriteLaws.{ends-meet}
use Rattle.block_writer.proofs.line_buffer.write_ends.Goals as goal

pub returns : goal.returns
returns g c =
    let text : List ℕ = c.args.text.now in
    let rest : ℕ = length text - g.row.N in
    let at : ℕ = c.args.at in
    ends-meet text c.args.bytes.now c.write_group.new.bytes c.write_group-2.new.bytes at rest g.row.N (omega (arith, c.requires.text)) (omega (arith, c.requires.text))
    (c.write_group.ensures ∙ ap (λ (l : List ℕ). l ++ drop (at + rest + g.row.N) c.args.bytes.now) c.group_at.ensures)
    (c.write_group-2.ensures ∙ ap (λ (l : List ℕ). l ++ drop (at + g.row.N) c.write_group.new.bytes) c.group_at-2.ensures)
