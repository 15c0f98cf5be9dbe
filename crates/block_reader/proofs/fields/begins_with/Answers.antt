use Rattle.std.proofs.Common.{◌∙◌, sym, arith}
use Rattle.block_reader.proofs.Pieces.{begins-short, begins-compared}
use Rattle.block_reader.proofs.fields.begins_with.Goals as goal

pub returns-then-bytes-text : goal.returns-then-bytes-text
returns-then-bytes-text c = sym (begins-short c.args.text.now c.args.bytes.now c.if-bytes-text.true)

pub returns-in-4-to-8 : goal.returns-in-4-to-8
returns-in-4-to-8 c = c.have_same_fours.ensures ∙ sym (begins-compared c.args.text.now c.args.bytes.now (omega (arith, c.if-bytes-text.false)))

pub returns-in-9-to-16 : goal.returns-in-9-to-16
returns-in-9-to-16 c = c.have_same_eights.ensures ∙ sym (begins-compared c.args.text.now c.args.bytes.now (omega (arith, c.if-bytes-text.false)))

pub returns-in_default : goal.returns-in_default
returns-in_default c = c.eq.ensures ∙ sym (begins-compared c.args.text.now c.args.bytes.now (omega (arith, c.if-bytes-text.false)))
