-- There are no more records than bytes.
use Rattle.airport_file.proofs.RowsLeft.{few-rows}
use Rattle.airport_file.proofs.records.reader_of.Goals as goal

pub returns-clause-few : goal.returns-clause-few
returns-clause-few c = few-rows c.from_reader.result.state _ c.args.bytes.now c.from_reader.ensures.state c.from_reader.ensures.source
