use Rattle.std.proofs.Common.{◌∙◌}
use Rattle.program_words.specs.LentWords.{traffic_for}
use Rattle.taxi_cli.specs.Endings.{Call}
use Rattle.taxi_cli.proofs.EndingLaws.{generate-ends}
use Rattle.taxi_cli.proofs.generating.generate.Goals as goal

pub returns-clause-ends : goal.returns-clause-ends
returns-clause-ends g c = λ files reads given.
    let call : Call = record {
      files = files;
      reads = reads;
      writes = (g.K.Sink.faults c.args.out.now, g.K.Sink.faults c.write_last.new.out);
      taken = (g.K.Sink.written c.args.out.now, g.K.Sink.written c.write_last.new.out);
      given = given;
    } in
    generate-ends call (traffic_for c.args.traffic.now) c.in-Ok.summary _ c.write_last.result c.in-Ok.ensures
    (c.as_slice.ensures.value ∙ c.in-Ok-text.ensures) c.write_last.ensures.ends
