use Rattle.segment_windows.proofs.NearLaws.{near-within, near-whole, near-only}
use Rattle.segment_windows.proofs.finding.windows_between.Goals as goal

pub returns : goal.returns
returns c =
    record {
      within = near-within c.args.windows.now c.args.low c.args.high c.part_between-part.result c.part_between-part.ensures;
      whole = near-whole c.args.windows.now c.args.low c.args.high c.part_between-part.result c.part_between-part.ensures;
      only = near-only c.args.windows.now c.args.low c.args.high c.part_between-part.result c.part_between-part.ensures;
    }
