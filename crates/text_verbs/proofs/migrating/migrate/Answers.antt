use Rattle.std.proofs.Common.{inl, inr, ◌∙◌}
use Rattle.program_files.specs.declared.status.Status.TheVariants.{Done}
use Rattle.program_files.proofs.InputLaws.{airport_cause}
use Rattle.text_verbs.proofs.migrating.migrate.Goals as goal

pub returns-in-Ok-write_airport-clause-ends : goal.returns-in-Ok-write_airport-clause-ends
returns-in-Ok-write_airport-clause-ends g c =
    inr (
      Done,
      c.as_slice.result.now,
      record {
        airport = c.in-Ok.airport;
        accepted = c.in-Ok.ensures.ok;
        whole = c.as_slice.ensures.value ∙ c.in-Ok-write_airport.ensures.text;
      },
      c.write_last.ensures.ends,
    )

pub returns-in-Err-clause-ends : goal.returns-in-Err-clause-ends
returns-in-Err-clause-ends g c =
    inl (c.in-Err.stop, airport_cause (g.S.Shelf.files c.args.shelf.now) c.args.airport.now (g.S.Shelf.faults c.args.shelf.now, g.S.Shelf.faults c.read_airport_file.new.shelf) c.in-Err.stop c.in-Err.ensures.stop, c.write_stop.ensures.ends)
