use Rattle.std.proofs.Common.{Err, ap, subst, sym}
use Rattle.std.proofs.lemmas.Result.{err_from_is_err_and}
use Rattle.taxi_io.specs.Files.{IsLonger}
use Rattle.program_words.specs.Verb.{FileNames, Route}
use Rattle.program_files.specs.Inputs.{commands_limit}
use Rattle.program_files.specs.Stops.{IsCause}
use Rattle.program_files.proofs.InputLaws.{commands_cause}
use Rattle.program_files.proofs.inputs.read_inputs.Goals as goal

pub returns-in_err-bytes-clause-stop : goal.returns-in_err-bytes-clause-stop
returns-in_err-bytes-clause-stop g c =
    let told = g.S.Shelf.files c.args.shelf.now in
    let names : FileNames = record { airport = c.args.airport.now; commands = c.args.commands.now } in
    let before = g.S.Shelf.faults c.args.shelf.now in
    let after = g.S.Shelf.faults c.read_all.new.shelf in
    let stopped = err_from_is_err_and c.from_residual-in_err-bytes.result c.from_residual-in_err-bytes.ensures.1 in
    let cause = commands_cause told names c.in_ok-airport.airport c.in_err-bytes.field-0.0 before (g.S.Shelf.faults c.read_airport_file.new.shelf) after
    c.in_ok-airport.ensures.ok
    (λ e. subst (λ files. IsLonger files c.args.commands.now commands_limit) c.read_airport_file.ensures.files (c.in_err-bytes.ensures.too_large (ap Err e)))
    (λ e. c.in_err-bytes.ensures.fault (ap Err e))
    c.read_airport_file.ensures.later in
    rw stopped.1 (subst (IsCause told (Route names) (before, after)) (sym stopped.2) cause)
