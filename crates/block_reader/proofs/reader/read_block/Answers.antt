use Rattle.std.proofs.Common.{◌∙◌, ℕ, List, length, Err, ap}
use Rattle.taxi_base.specs.Airport.{Airport, IsWellFormed}
use Rattle.replies.specs.declared.block.Block.{Block}
use Rattle.replies.specs.Texts.{block_text}
use Rattle.block_reader.specs.declared.refused.BlockRefused.{BlockRefused}
use Rattle.block_reader.specs.declared.refused.BlockRefused.TheVariants.{NotABlock, Memory}
use Rattle.block_reader.specs.Reading.{IsRead}
use Rattle.block_reader.specs.Blocks.{block_at}
use Rattle.block_reader.specs.Read.{BeginsWith, IsBlockRead, Reads}
use Rattle.block_reader.proofs.ReadLaws.{begins, shorter, text-length, none-begins, same-begins}
use Rattle.block_reader.proofs.reader.read_block.Goals as goal

pub overflow_sub-result : goal.overflow_sub-result
overflow_sub-result c = shorter c.args.airport.now c.horizon.ensures.rules c.args.bytes.now _ _ c.in-Ok.ensures

pub returns-in-Ok-clause-found : goal.returns-in-Ok-clause-found
returns-in-Ok-clause-found c =
    (begins c.args.airport.now c.horizon.ensures.rules c.args.bytes.now _ _ c.in-Ok.ensures, text-length c.args.airport.now c.horizon.ensures.rules c.args.bytes.now _ _ c.in-Ok.ensures)

pub returns-in-Ok-clause-only : goal.returns-in-Ok-clause-only
returns-in-Ok-clause-only c = λ block p.
    let same = same-begins c.args.airport.now c.horizon.ensures.rules c.args.bytes.now c.in-Ok.block block _ c.in-Ok.ensures p in
    let long = text-length c.args.airport.now c.horizon.ensures.rules c.args.bytes.now _ _ c.in-Ok.ensures in
    ap (λ (n : ℕ). (c.in-Ok.block, n)) long ∙ ap (λ (b : Block). (b, length (block_text c.args.airport.now b))) same

refused : (airport : Airport) (bytes : List ℕ) (well : IsWellFormed airport) (why : BlockRefused) → IsRead {X = Block × List ℕ} (λ x. x) (Err why) (block_at airport bytes) → IsBlockRead airport bytes (Err why)
refused airport bytes well NotABlock none = λ block p. none-begins airport well bytes none block p
refused airport bytes well Memory none = tt

never : (airport : Airport) (bytes : List ℕ) (well : IsWellFormed airport) (why : BlockRefused) → IsRead {X = Block × List ℕ} (λ x. x) (Err why) (block_at airport bytes) → (block : Block) → BeginsWith airport bytes block → Reads airport block (Err why)
never airport bytes well NotABlock none block p = none-begins airport well bytes none block p
never airport bytes well Memory none block p = tt

pub returns-in-Err-clause-found : goal.returns-in-Err-clause-found
returns-in-Err-clause-found c = refused c.args.airport.now c.args.bytes.now c.horizon.ensures.rules c.in-Err.why c.in-Err.ensures

pub returns-in-Err-clause-only : goal.returns-in-Err-clause-only
returns-in-Err-clause-only c = λ block p. never c.args.airport.now c.args.bytes.now c.horizon.ensures.rules c.in-Err.why c.in-Err.ensures block p
