use Rattle.std.proofs.Common.{Err, [], ◌∷◌, inr, ap, subst, sym}
use Rattle.std.proofs.lemmas.Result.{err_from_is_err_and}
use Rattle.taxi_io.specs.Files.{IsLonger}
use Rattle.program_words.specs.Verb.{FileNames, Check}
use Rattle.program_files.specs.Inputs.{transcript_limit}
use Rattle.program_files.specs.Stops.{IsCause}
use Rattle.program_files.proofs.InputLaws.{transcript_cause, began-more}
use Rattle.program_files.proofs.inputs.read_check.Goals as goal

pub returns-in_err-transcript-clause-stop : goal.returns-in_err-transcript-clause-stop
returns-in_err-transcript-clause-stop g c =
    let told = g.S.Shelf.files c.args.shelf.now in
    let names : FileNames = record { airport = c.args.airport.now; commands = c.args.commands.now } in
    let before = g.S.Shelf.faults c.args.shelf.now in
    let after = g.S.Shelf.faults c.read_all.new.shelf in
    let stopped = err_from_is_err_and c.from_residual-in_err-transcript.result c.from_residual-in_err-transcript.ensures.1 in
    let cause = transcript_cause told names c.args.transcript.now c.in_ok-airport.airport c.in_ok-airport.commands.items c.in_err-transcript.field-0.0 before (g.S.Shelf.faults c.read_inputs.new.shelf) after
    c.in_ok-airport.ensures.ok
    (λ e. subst (λ files. IsLonger files c.args.transcript.now transcript_limit) c.read_inputs.ensures.files (c.in_err-transcript.ensures.too_large (ap Err e)))
    (λ e. c.in_err-transcript.ensures.fault (ap Err e))
    c.read_inputs.ensures.later in
    rw stopped.1 (subst (IsCause told (Check names c.args.transcript.now) (before, after)) (sym stopped.2) cause)

pub returns-clause-order : goal.returns-clause-order
returns-clause-order g c =
    inr (
      (c.in_ok-airport.airport, c.in_ok-airport.commands.items, c.in_ok-airport.ensures.ok),
      began-more _ _ _ (c.args.airport.now ∷ c.args.commands.now ∷ []) (c.args.transcript.now ∷ []) c.in_ok-airport.ensures.both c.read_all.ensures.tried,
    )
