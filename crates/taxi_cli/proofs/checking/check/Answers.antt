use Rattle.std.proofs.Common.{◌≡◌, ◌∙◌}
use Rattle.taxi_text.specs.Lines.{commands_of}
use Rattle.program_words.specs.Verb.{FileNames, Check}
use Rattle.taxi_cli.specs.Endings.{Call}
use Rattle.transcript_check.specs.Verdicts.{IsVerdict}
use Rattle.transcript_check.specs.declared.checking.Verdict.TheVariants as verdict
use Rattle.taxi_cli.proofs.EndingLaws.{stop-ends, right-ends, wrong-ends}
use Rattle.taxi_cli.proofs.checking.check.Goals as goal

pub returns-in-Ok-Right-clause-ends : goal.returns-in-Ok-Right-clause-ends
returns-in-Ok-Right-clause-ends g c =
    let call : Call = record {
      files = g.S.Shelf.files c.args.shelf.now;
      reads = (g.S.Shelf.faults c.args.shelf.now, g.S.Shelf.faults c.read_check.new.shelf);
      writes = (g.K.Sink.faults c.args.out.now, g.K.Sink.faults c.write_last.new.out);
      taken = (g.K.Sink.written c.args.out.now, g.K.Sink.written c.write_last.new.out);
      given = g.S.Shelf.given c.read_check.new.shelf;
    } in
    let names : FileNames = record { airport = c.args.airport.now; commands = c.args.commands.now } in
    let read = c.in-Ok.read in
    let found : IsVerdict read.airport (commands_of read.commands.items) read.transcript.items c.in-Ok-Right.field-0 =
    rw (c.in-Ok-Right.is, c.as_slice-commands.ensures.value, c.as_slice-transcript.ensures.value) at c.verdict_of-verdict.ensures in
    let right : c.in-Ok-Right.field-0 ≡ verdict.Right c.in-Ok-Right.count = rw c.in-Ok-Right.is at c.in-Ok-Right.field-0-is in
    right-ends call names c.args.transcript.now read.airport read.commands.items read.transcript.items c.in-Ok-Right.count _ c.write_last.result
    c.in-Ok.ensures.ok (rw right at found) (c.bytes.ensures.same ∙ c.ok_line.ensures) c.write_last.ensures.ends

pub returns-in-Ok-Wrong-clause-ends : goal.returns-in-Ok-Wrong-clause-ends
returns-in-Ok-Wrong-clause-ends g c =
    let call : Call = record {
      files = g.S.Shelf.files c.args.shelf.now;
      reads = (g.S.Shelf.faults c.args.shelf.now, g.S.Shelf.faults c.read_check.new.shelf);
      writes = (g.K.Sink.faults c.args.out.now, g.K.Sink.faults c.write_last-in-Ok-Wrong.new.out);
      taken = (g.K.Sink.written c.args.out.now, g.K.Sink.written c.write_last-in-Ok-Wrong.new.out);
      given = g.S.Shelf.given c.read_check.new.shelf;
    } in
    let names : FileNames = record { airport = c.args.airport.now; commands = c.args.commands.now } in
    let read = c.in-Ok.read in
    let found : IsVerdict read.airport (commands_of read.commands.items) read.transcript.items c.in-Ok-Wrong.field-0 =
    rw (c.in-Ok-Wrong.is, c.as_slice-commands.ensures.value, c.as_slice-transcript.ensures.value) at c.verdict_of-verdict.ensures in
    let wrong : c.in-Ok-Wrong.field-0 ≡ verdict.Wrong c.in-Ok-Wrong.number c.in-Ok-Wrong.why = rw c.in-Ok-Wrong.is at c.in-Ok-Wrong.field-0-is in
    wrong-ends call names c.args.transcript.now read.airport read.commands.items read.transcript.items c.in-Ok-Wrong.number c.in-Ok-Wrong.why _ c.write_last-in-Ok-Wrong.result
    c.in-Ok.ensures.ok (rw wrong at found) (c.bytes-in-Ok-Wrong.ensures.same ∙ c.wrong_line.ensures) c.write_last-in-Ok-Wrong.ensures.ends

pub returns-in-Err-clause-ends : goal.returns-in-Err-clause-ends
returns-in-Err-clause-ends g c =
    let call : Call = record {
      files = g.S.Shelf.files c.args.shelf.now;
      reads = (g.S.Shelf.faults c.args.shelf.now, g.S.Shelf.faults c.read_check.new.shelf);
      writes = (g.K.Sink.faults c.args.out.now, g.K.Sink.faults c.write_stop.new.out);
      taken = (g.K.Sink.written c.args.out.now, g.K.Sink.written c.write_stop.new.out);
      given = g.S.Shelf.given c.read_check.new.shelf;
    } in
    let names : FileNames = record { airport = c.args.airport.now; commands = c.args.commands.now } in
    stop-ends call (Check names c.args.transcript.now) c.in-Err.stop c.write_stop.result tt c.in-Err.ensures.stop c.write_stop.ensures.ends
