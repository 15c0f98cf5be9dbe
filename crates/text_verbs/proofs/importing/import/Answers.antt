use Rattle.std.proofs.Common.{Err, inl, inr, ap}
use Rattle.program_words.specs.Verb.{FileNames}
use Rattle.program_files.specs.declared.status.Status.TheVariants.{Done}
use Rattle.program_files.proofs.InputLaws.{import_cause}
use Rattle.text_verbs.proofs.ImportLaws.{schedule-ends}
use Rattle.text_verbs.proofs.importing.import.Goals as goal

pub returns-in-Ok-import_schedule-clause-ends : goal.returns-in-Ok-import_schedule-clause-ends
returns-in-Ok-import_schedule-clause-ends g c =
    inr (
      Done,
      c.as_slice-in-Ok-import_schedule.result.now,
      record {
        airport = c.in-Ok.airport;
        schedule = c.in-Ok.schedule.items;
        accepted = c.in-Ok.ensures.ok;
        comes_to = rw c.as_slice-in-Ok-import_schedule.ensures.value (rw c.as_slice.ensures.value at c.in-Ok-import_schedule.ensures.ok);
      },
      c.write_last.ensures.ends,
    )

pub returns-in-Ok-clause-ends : goal.returns-in-Ok-clause-ends
returns-in-Ok-clause-ends g c =
    let names : FileNames = record { airport = c.args.airport.now; commands = c.args.schedule.now } in
    schedule-ends (g.S.Shelf.files c.args.shelf.now) names (g.S.Shelf.faults c.args.shelf.now, g.S.Shelf.faults c.read_inputs.new.shelf)
    (g.K.Sink.faults c.args.out.now, g.K.Sink.faults c.write_refused.new.out) (g.K.Sink.written c.args.out.now, g.K.Sink.written c.write_refused.new.out)
    c.in-Ok.airport c.in-Ok.schedule.items c.in-Err-import_schedule.refused c.write_refused.result c.in-Ok.ensures.ok
    (λ e. rw c.as_slice.ensures.value at (c.in-Err-import_schedule.ensures.first_row (ap Err e)))
    (λ e. rw c.as_slice.ensures.value at (c.in-Err-import_schedule.ensures.bad_start (ap Err e))) c.write_refused.ensures.ends

pub returns-clause-ends : goal.returns-clause-ends
returns-clause-ends g c =
    let names : FileNames = record { airport = c.args.airport.now; commands = c.args.schedule.now } in
    inl (c.in-Err.stop, import_cause (g.S.Shelf.files c.args.shelf.now) names (g.S.Shelf.faults c.args.shelf.now, g.S.Shelf.faults c.read_inputs.new.shelf) c.in-Err.stop c.in-Err.ensures.stop, c.write_stop.ensures.ends)
