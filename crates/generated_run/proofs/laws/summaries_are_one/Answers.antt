use Rattle.traffic_generator.proofs.GridAirport.{grid-well_formed}
use Rattle.generated_run.proofs.OneRun.{summary-one}
use Rattle.generated_run.proofs.laws.summaries_are_one.Goals as goal

pub returns-clause-run : goal.returns-clause-run
returns-clause-run c = λ airport lines one other well. summary-one airport lines one other well

pub returns-clause-made : goal.returns-clause-made
returns-clause-made c = λ number side flights one other least most. summary-one _ _ one other (grid-well_formed number side (record { least = least; most = most }))
