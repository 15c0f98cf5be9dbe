use Rattle.std.proofs.Common.{◌≡◌, List, ℕ, OnOk, subst}
use Rattle.traffic_generator.proofs.TextLaws.{line-more, line-ended}
use Rattle.traffic_generator.proofs.lines.push_line.Goals as goal

pub loop-piece-preserved : goal.loop-piece-preserved
loop-piece-preserved c =
    line-more c.args.separator c.args.text.now.items c.args.first.now c.args.rest.now c.loop-piece.piece-index _ _ _ _ c.loop-piece-test.true c.loop-piece.invariant
    c.in_ok-push_bytes-2.ensures.ok c.in_ok-push_bytes-3.ensures.ok

pub returns : goal.returns
returns c =
    subst (λ (t : List ℕ). OnOk c.push_bytes-2.result (c.push_bytes-2.new.out.items ≡ t))
    (line-ended c.args.separator c.args.text.now.items c.args.first.now c.args.rest.now c.loop-piece.piece-index c.loop-piece.text.items c.loop-piece-test.false c.loop-piece.invariant)
    c.push_bytes-2.ensures.ok
