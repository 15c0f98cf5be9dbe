use Rattle.std.proofs.Common.{◌≡◌, suc, ◌-◌, length, ap, arith}
use Rattle.interval_list.specs.Blocks.{block_size}
use Rattle.interval_list.proofs.Handed.{newest}
use Rattle.interval_list.proofs.Spots.{length-places}
use Rattle.interval_list.proofs.stock.free_newest.Goals as goal

pub put_together-requires : goal.put_together-requires
put_together-requires c =
    let heads = c.args.heads.now in let older = c.pop-head.new.self in
    let none : length older ≡ 0 = omega (arith, c.if-older-eq0.true, c.len-older.ensures, length-places heads, length-places older, ap length c.pop-head.ensures.places) in
    let known = newest c.args.blocks.now.blocks heads older c.args.nodes.now.cells c.pop-head.result.at 2 c.requires.all c.pop-head.ensures.places (ap block_size none) in
    (omega arith, known)

pub put_together-requires-then-older-eq1 : goal.put_together-requires-then-older-eq1
put_together-requires-then-older-eq1 c =
    let heads = c.args.heads.now in let older = c.pop-head.new.self in
    let one : length older ≡ 1 = omega (arith, c.if-older-eq1.true, c.len-older.ensures, length-places heads, length-places older, ap length c.pop-head.ensures.places) in
    let known = newest c.args.blocks.now.blocks heads older c.args.nodes.now.cells c.pop-head.result.at 17 c.requires.all c.pop-head.ensures.places (ap block_size one) in
    (omega arith, known)

pub put_together-requires-else-older-eq1 : goal.put_together-requires-else-older-eq1
put_together-requires-else-older-eq1 c =
    let heads = c.args.heads.now in let older = c.pop-head.new.self in
    let more : length older ≡ suc (suc (length older - 2)) = omega (arith, c.if-older-eq0.false, c.if-older-eq1.false, c.len-older.ensures, length-places heads, length-places older, ap length c.pop-head.ensures.places) in
    let known = newest c.args.blocks.now.blocks heads older c.args.nodes.now.cells c.pop-head.result.at 60 c.requires.all c.pop-head.ensures.places (ap block_size more) in
    (omega arith, known)
