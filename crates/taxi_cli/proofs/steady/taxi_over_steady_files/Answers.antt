use Rattle.taxi_cli.proofs.steady.taxi_over_steady_files.Goals as goal

pub returns-clause-done : goal.returns-clause-done
returns-clause-done c = λ names asked done. (c.taxi.ensures.headline names asked).done done
