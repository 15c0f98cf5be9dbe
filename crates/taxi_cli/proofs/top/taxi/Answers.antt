use Rattle.std.proofs.Common.{◌≡◌, refl, sym, ap, subst, map, string_bytes, None}
use Rattle.program_files.specs.declared.status.Status.TheVariants.{Usage}
use Rattle.program_words.specs.Usage.{usage_line}
use Rattle.taxi_cli.specs.Endings.{Call, call_of}
use Rattle.program_words.specs.Verb.{FileNames, Route, Check, Generate, Migrate, Import, asked_by}
use Rattle.program_words.specs.LentWords.{traffic_for, asked_for}
use Rattle.taxi_cli.proofs.EndingLaws.{last-ends, migrate-ends, import-ends, asked-ends, one-asked}
use Rattle.taxi_cli.proofs.DueLaws.{due-is, made-is}
use Rattle.taxi_cli.specs.Pace.{HaveBegun, HaveBegunFirst, KeepsPace, EndsBeforeCommands, commands_left}
use Rattle.taxi_cli.specs.Handed.{IsInPieces}
use Rattle.taxi_cli.proofs.HeadlineLaws.{headline-asked}
use Rattle.taxi_cli.proofs.top.taxi.Goals as goal

pub returns-in-None-clause-ends : goal.returns-in-None-clause-ends
returns-in-None-clause-ends g c =
    let call : Call = record {
      files = g.S.Shelf.files c.args.shelf.now;
      reads = (g.S.Shelf.faults c.args.shelf.now, g.S.Shelf.faults c.args.shelf.now);
      writes = (g.K.Sink.faults c.args.out.now, g.K.Sink.faults c.write_last.new.out);
      taken = (g.K.Sink.written c.args.out.now, g.K.Sink.written c.write_last.new.out);
      given = g.S.Shelf.given c.args.shelf.now;
    } in
    rw (sym c.in-None.ensures)
    (last-ends call None Usage usage_line c.usage_line.result.now c.write_last.result refl c.usage_line.ensures c.write_last.ensures.ends (λ whole. whole))

pub returns-in-Some-Route-clause-ends : goal.returns-in-Some-Route-clause-ends
returns-in-Some-Route-clause-ends g c =
    asked-ends (call_of g.S.Shelf.files g.S.Shelf.faults g.S.Shelf.given g.K.Sink.faults g.K.Sink.written (c.args.shelf.now, c.route.new.shelf) (c.args.out.now, c.route.new.out)) (map string_bytes c.args.words.now) c.in-Some-Route.field-0 (Route (record { airport = c.in-Some-Route.airport.now; commands = c.in-Some-Route.commands.now })) c.route.result
    c.in-Some-Route.ensures (ap asked_for c.in-Some-Route.field-0-is) c.route.ensures.ends

pub returns-in-Some-Check-clause-ends : goal.returns-in-Some-Check-clause-ends
returns-in-Some-Check-clause-ends g c =
    asked-ends (call_of g.S.Shelf.files g.S.Shelf.faults g.S.Shelf.given g.K.Sink.faults g.K.Sink.written (c.args.shelf.now, c.check.new.shelf) (c.args.out.now, c.check.new.out)) (map string_bytes c.args.words.now) c.in-Some-Check.field-0 (Check (record { airport = c.in-Some-Check.airport.now; commands = c.in-Some-Check.commands.now }) c.in-Some-Check.transcript.now) c.check.result
    c.in-Some-Check.ensures (ap asked_for c.in-Some-Check.field-0-is) c.check.ensures.ends

pub returns-in-Some-Generate-clause-ends : goal.returns-in-Some-Generate-clause-ends
returns-in-Some-Generate-clause-ends g c =
    let call : Call = record {
      files = g.S.Shelf.files c.args.shelf.now;
      reads = (g.S.Shelf.faults c.args.shelf.now, g.S.Shelf.faults c.args.shelf.now);
      writes = (g.K.Sink.faults c.args.out.now, g.K.Sink.faults c.generate.new.out);
      taken = (g.K.Sink.written c.args.out.now, g.K.Sink.written c.generate.new.out);
      given = g.S.Shelf.given c.args.shelf.now;
    } in
    asked-ends call (map string_bytes c.args.words.now) c.in-Some-Generate.field-0 (Generate (traffic_for c.in-Some-Generate.traffic)) c.generate.result
    c.in-Some-Generate.ensures (ap asked_for c.in-Some-Generate.field-0-is) (c.generate.ensures.ends call.files call.reads call.given)

pub returns-in-Some-Generate-clause-complete : goal.returns-in-Some-Generate-clause-complete
returns-in-Some-Generate-clause-complete g c =
    let call : Call = record {
      files = g.S.Shelf.files c.args.shelf.now;
      reads = (g.S.Shelf.faults c.args.shelf.now, g.S.Shelf.faults c.args.shelf.now);
      writes = (g.K.Sink.faults c.args.out.now, g.K.Sink.faults c.generate.new.out);
      taken = (g.K.Sink.written c.args.out.now, g.K.Sink.written c.generate.new.out);
      given = g.S.Shelf.given c.args.shelf.now;
    } in
    λ files told no_read no_write. due-is call files (asked_by (map string_bytes c.args.words.now)) c.generate.result told (returns-in-Some-Generate-clause-ends g c) no_read no_write

pub returns-in-Some-Migrate-clause-ends : goal.returns-in-Some-Migrate-clause-ends
returns-in-Some-Migrate-clause-ends g c =
    let call : Call = record {
      files = g.S.Shelf.files c.args.shelf.now;
      reads = (g.S.Shelf.faults c.args.shelf.now, g.S.Shelf.faults c.migrate.new.shelf);
      writes = (g.K.Sink.faults c.args.out.now, g.K.Sink.faults c.migrate.new.out);
      taken = (g.K.Sink.written c.args.out.now, g.K.Sink.written c.migrate.new.out);
      given = g.S.Shelf.given c.migrate.new.shelf;
    } in
    asked-ends call (map string_bytes c.args.words.now) c.in-Some-Migrate.field-0 (Migrate c.in-Some-Migrate.airport.now) c.migrate.result
    c.in-Some-Migrate.ensures (ap asked_for c.in-Some-Migrate.field-0-is) (migrate-ends call c.in-Some-Migrate.airport.now c.migrate.result c.migrate.ensures.ends)

pub returns-in-Some-Import-clause-ends : goal.returns-in-Some-Import-clause-ends
returns-in-Some-Import-clause-ends g c =
    let call : Call = record {
      files = g.S.Shelf.files c.args.shelf.now;
      reads = (g.S.Shelf.faults c.args.shelf.now, g.S.Shelf.faults c.import.new.shelf);
      writes = (g.K.Sink.faults c.args.out.now, g.K.Sink.faults c.import.new.out);
      taken = (g.K.Sink.written c.args.out.now, g.K.Sink.written c.import.new.out);
      given = g.S.Shelf.given c.import.new.shelf;
    } in
    asked-ends call (map string_bytes c.args.words.now) c.in-Some-Import.field-0 (Import (record { airport = c.in-Some-Import.airport.now; commands = c.in-Some-Import.schedule.now })) c.import.result
    c.in-Some-Import.ensures (ap asked_for c.in-Some-Import.field-0-is) (import-ends call (record { airport = c.in-Some-Import.airport.now; commands = c.in-Some-Import.schedule.now }) c.import.result c.import.ensures.ends)

pub returns-in-None-clause-headline : goal.returns-in-None-clause-headline
returns-in-None-clause-headline g c = λ names asked. headline-asked (call_of g.S.Shelf.files g.S.Shelf.faults g.S.Shelf.given g.K.Sink.faults g.K.Sink.written (c.args.shelf.now, c.args.shelf.now) (c.args.out.now, c.write_last.new.out)) _ names _ (returns-in-None-clause-ends g c) asked

pub returns-in-Some-Route-clause-headline : goal.returns-in-Some-Route-clause-headline
returns-in-Some-Route-clause-headline g c = λ names asked. headline-asked (call_of g.S.Shelf.files g.S.Shelf.faults g.S.Shelf.given g.K.Sink.faults g.K.Sink.written (c.args.shelf.now, c.route.new.shelf) (c.args.out.now, c.route.new.out)) _ names _ (returns-in-Some-Route-clause-ends g c) asked

pub returns-in-Some-Check-clause-headline : goal.returns-in-Some-Check-clause-headline
returns-in-Some-Check-clause-headline g c = λ names asked. headline-asked (call_of g.S.Shelf.files g.S.Shelf.faults g.S.Shelf.given g.K.Sink.faults g.K.Sink.written (c.args.shelf.now, c.check.new.shelf) (c.args.out.now, c.check.new.out)) _ names _ (returns-in-Some-Check-clause-ends g c) asked

pub returns-in-Some-Generate-clause-headline : goal.returns-in-Some-Generate-clause-headline
returns-in-Some-Generate-clause-headline g c = λ names asked. headline-asked (call_of g.S.Shelf.files g.S.Shelf.faults g.S.Shelf.given g.K.Sink.faults g.K.Sink.written (c.args.shelf.now, c.args.shelf.now) (c.args.out.now, c.generate.new.out)) _ names _ (returns-in-Some-Generate-clause-ends g c) asked

pub returns-in-Some-Migrate-clause-headline : goal.returns-in-Some-Migrate-clause-headline
returns-in-Some-Migrate-clause-headline g c = λ names asked. headline-asked (call_of g.S.Shelf.files g.S.Shelf.faults g.S.Shelf.given g.K.Sink.faults g.K.Sink.written (c.args.shelf.now, c.migrate.new.shelf) (c.args.out.now, c.migrate.new.out)) _ names _ (returns-in-Some-Migrate-clause-ends g c) asked

pub returns-in-Some-Import-clause-headline : goal.returns-in-Some-Import-clause-headline
returns-in-Some-Import-clause-headline g c = λ names asked. headline-asked (call_of g.S.Shelf.files g.S.Shelf.faults g.S.Shelf.given g.K.Sink.faults g.K.Sink.written (c.args.shelf.now, c.import.new.shelf) (c.args.out.now, c.import.new.out)) _ names _ (returns-in-Some-Import-clause-ends g c) asked

pub returns-in-Some-Route-clause-made : goal.returns-in-Some-Route-clause-made
returns-in-Some-Route-clause-made g c = λ traffic asked.
    absurd (cc (one-asked (map string_bytes c.args.words.now) c.in-Some-Route.field-0 (Route (record { airport = c.in-Some-Route.airport.now; commands = c.in-Some-Route.commands.now })) (Generate traffic) c.in-Some-Route.ensures (ap asked_for c.in-Some-Route.field-0-is) asked))

pub returns-in-Some-Check-clause-made : goal.returns-in-Some-Check-clause-made
returns-in-Some-Check-clause-made g c = λ traffic asked.
    absurd (cc (one-asked (map string_bytes c.args.words.now) c.in-Some-Check.field-0 (Check (record { airport = c.in-Some-Check.airport.now; commands = c.in-Some-Check.commands.now }) c.in-Some-Check.transcript.now) (Generate traffic) c.in-Some-Check.ensures (ap asked_for c.in-Some-Check.field-0-is) asked))

pub returns-in-Some-Generate-clause-made : goal.returns-in-Some-Generate-clause-made
returns-in-Some-Generate-clause-made g c =
    let call : Call = record {
      files = g.S.Shelf.files c.args.shelf.now;
      reads = (g.S.Shelf.faults c.args.shelf.now, g.S.Shelf.faults c.args.shelf.now);
      writes = (g.K.Sink.faults c.args.out.now, g.K.Sink.faults c.generate.new.out);
      taken = (g.K.Sink.written c.args.out.now, g.K.Sink.written c.generate.new.out);
      given = g.S.Shelf.given c.args.shelf.now;
    } in
    λ traffic asked. (refl, λ no_write. made-is call (traffic_for c.in-Some-Generate.traffic) c.generate.result (c.generate.ensures.ends call.files call.reads call.given) no_write)

pub returns-in-Some-Migrate-clause-made : goal.returns-in-Some-Migrate-clause-made
returns-in-Some-Migrate-clause-made g c = λ traffic asked.
    absurd (cc (one-asked (map string_bytes c.args.words.now) c.in-Some-Migrate.field-0 (Migrate c.in-Some-Migrate.airport.now) (Generate traffic) c.in-Some-Migrate.ensures (ap asked_for c.in-Some-Migrate.field-0-is) asked))

pub returns-in-Some-Import-clause-made : goal.returns-in-Some-Import-clause-made
returns-in-Some-Import-clause-made g c = λ traffic asked.
    absurd (cc (one-asked (map string_bytes c.args.words.now) c.in-Some-Import.field-0 (Import (record { airport = c.in-Some-Import.airport.now; commands = c.in-Some-Import.schedule.now })) (Generate traffic) c.in-Some-Import.ensures (ap asked_for c.in-Some-Import.field-0-is) asked))

pub returns-in-None-clause-pace : goal.returns-in-None-clause-pace
returns-in-None-clause-pace g c = λ names asked. absurd (cc (c.in-None.ensures, asked))

pub returns-in-Some-Route-clause-pace : goal.returns-in-Some-Route-clause-pace
returns-in-Some-Route-clause-pace g c =
    let call : Call = record {
      files = g.S.Shelf.files c.args.shelf.now;
      reads = (g.S.Shelf.faults c.args.shelf.now, g.S.Shelf.faults c.route.new.shelf);
      writes = (g.K.Sink.faults c.args.out.now, g.K.Sink.faults c.route.new.out);
      taken = (g.K.Sink.written c.args.out.now, g.K.Sink.written c.route.new.out);
      given = g.S.Shelf.given c.route.new.shelf;
    } in
    let mine : FileNames = record { airport = c.in-Some-Route.airport.now; commands = c.in-Some-Route.commands.now } in
    λ names asked.
    let same : Route mine ≡ Route names = one-asked (map string_bytes c.args.words.now) c.in-Some-Route.field-0 (Route mine) (Route names) c.in-Some-Route.ensures (ap asked_for c.in-Some-Route.field-0-is) asked in
    let is : mine ≡ names = cc same in
    subst (λ (n : FileNames). HaveBegun n (g.S.Shelf.tried c.args.shelf.now) (g.S.Shelf.tried c.route.new.shelf)
    → KeepsPace call n (commands_left (g.S.Shelf.files c.args.shelf.now) n (g.S.Shelf.begun c.route.new.shelf) (g.S.Shelf.rest c.route.new.shelf)) c.route.result) is c.route.ensures.pace

pub returns-in-Some-Check-clause-pace : goal.returns-in-Some-Check-clause-pace
returns-in-Some-Check-clause-pace g c =
    λ names asked. absurd (cc (one-asked (map string_bytes c.args.words.now) c.in-Some-Check.field-0
    (Check (record { airport = c.in-Some-Check.airport.now; commands = c.in-Some-Check.commands.now }) c.in-Some-Check.transcript.now) (Route names)
    c.in-Some-Check.ensures (ap asked_for c.in-Some-Check.field-0-is) asked))

pub returns-in-Some-Migrate-clause-pace : goal.returns-in-Some-Migrate-clause-pace
returns-in-Some-Migrate-clause-pace g c =
    λ names asked. absurd (cc (one-asked (map string_bytes c.args.words.now) c.in-Some-Migrate.field-0 (Migrate c.in-Some-Migrate.airport.now) (Route names)
    c.in-Some-Migrate.ensures (ap asked_for c.in-Some-Migrate.field-0-is) asked))

pub returns-in-Some-Generate-clause-pace : goal.returns-in-Some-Generate-clause-pace
returns-in-Some-Generate-clause-pace g c =
    λ names asked. absurd (cc (one-asked (map string_bytes c.args.words.now) c.in-Some-Generate.field-0 (Generate (traffic_for c.in-Some-Generate.traffic)) (Route names)
    c.in-Some-Generate.ensures (ap asked_for c.in-Some-Generate.field-0-is) asked))

pub returns-in-Some-Import-clause-pace : goal.returns-in-Some-Import-clause-pace
returns-in-Some-Import-clause-pace g c =
    λ names asked. absurd (cc (one-asked (map string_bytes c.args.words.now) c.in-Some-Import.field-0
    (Import (record { airport = c.in-Some-Import.airport.now; commands = c.in-Some-Import.schedule.now })) (Route names)
    c.in-Some-Import.ensures (ap asked_for c.in-Some-Import.field-0-is) asked))

pub returns-in-None-clause-first : goal.returns-in-None-clause-first
returns-in-None-clause-first g c = λ names asked. absurd (cc (c.in-None.ensures, asked))

pub returns-in-Some-Route-clause-first : goal.returns-in-Some-Route-clause-first
returns-in-Some-Route-clause-first g c =
    let mine : FileNames = record { airport = c.in-Some-Route.airport.now; commands = c.in-Some-Route.commands.now } in
    λ names asked.
    let same : Route mine ≡ Route names = one-asked (map string_bytes c.args.words.now) c.in-Some-Route.field-0 (Route mine) (Route names) c.in-Some-Route.ensures (ap asked_for c.in-Some-Route.field-0-is) asked in
    let is : mine ≡ names = cc same in
    subst (λ (n : FileNames). HaveBegunFirst n (g.S.Shelf.tried c.args.shelf.now) (g.S.Shelf.tried c.route.new.shelf) → EndsBeforeCommands (call_of g.S.Shelf.files g.S.Shelf.faults g.S.Shelf.given g.K.Sink.faults g.K.Sink.written (c.args.shelf.now, c.route.new.shelf) (c.args.out.now, c.route.new.out)) n c.route.result) is c.route.ensures.first

pub returns-in-Some-Check-clause-first : goal.returns-in-Some-Check-clause-first
returns-in-Some-Check-clause-first g c =
    λ names asked. absurd (cc (one-asked (map string_bytes c.args.words.now) c.in-Some-Check.field-0 _ (Route names) c.in-Some-Check.ensures (ap asked_for c.in-Some-Check.field-0-is) asked))

pub returns-in-Some-Migrate-clause-first : goal.returns-in-Some-Migrate-clause-first
returns-in-Some-Migrate-clause-first g c =
    λ names asked. absurd (cc (one-asked (map string_bytes c.args.words.now) c.in-Some-Migrate.field-0 _ (Route names) c.in-Some-Migrate.ensures (ap asked_for c.in-Some-Migrate.field-0-is) asked))

pub returns-in-Some-Generate-clause-first : goal.returns-in-Some-Generate-clause-first
returns-in-Some-Generate-clause-first g c =
    λ names asked. absurd (cc (one-asked (map string_bytes c.args.words.now) c.in-Some-Generate.field-0 _ (Route names) c.in-Some-Generate.ensures (ap asked_for c.in-Some-Generate.field-0-is) asked))

pub returns-in-Some-Import-clause-first : goal.returns-in-Some-Import-clause-first
returns-in-Some-Import-clause-first g c =
    λ names asked. absurd (cc (one-asked (map string_bytes c.args.words.now) c.in-Some-Import.field-0 _ (Route names) c.in-Some-Import.ensures (ap asked_for c.in-Some-Import.field-0-is) asked))

pub returns-in-None-clause-handed : goal.returns-in-None-clause-handed
returns-in-None-clause-handed g c = λ names asked. absurd (cc (c.in-None.ensures, asked))

pub returns-in-Some-Route-clause-handed : goal.returns-in-Some-Route-clause-handed
returns-in-Some-Route-clause-handed g c =
    let mine : FileNames = record { airport = c.in-Some-Route.airport.now; commands = c.in-Some-Route.commands.now } in
    λ names asked.
    let same : Route mine ≡ Route names = one-asked (map string_bytes c.args.words.now) c.in-Some-Route.field-0 (Route mine) (Route names) c.in-Some-Route.ensures (ap asked_for c.in-Some-Route.field-0-is) asked in
    let is : mine ≡ names = cc same in
    subst (λ (n : FileNames). IsInPieces (call_of g.S.Shelf.files g.S.Shelf.faults g.S.Shelf.given g.K.Sink.faults g.K.Sink.written (c.args.shelf.now, c.route.new.shelf) (c.args.out.now, c.route.new.out)) n c.route.result) is c.route.ensures.handed

pub returns-in-Some-Check-clause-handed : goal.returns-in-Some-Check-clause-handed
returns-in-Some-Check-clause-handed g c =
    λ names asked. absurd (cc (one-asked (map string_bytes c.args.words.now) c.in-Some-Check.field-0 _ (Route names) c.in-Some-Check.ensures (ap asked_for c.in-Some-Check.field-0-is) asked))

pub returns-in-Some-Migrate-clause-handed : goal.returns-in-Some-Migrate-clause-handed
returns-in-Some-Migrate-clause-handed g c =
    λ names asked. absurd (cc (one-asked (map string_bytes c.args.words.now) c.in-Some-Migrate.field-0 _ (Route names) c.in-Some-Migrate.ensures (ap asked_for c.in-Some-Migrate.field-0-is) asked))

pub returns-in-Some-Generate-clause-handed : goal.returns-in-Some-Generate-clause-handed
returns-in-Some-Generate-clause-handed g c =
    λ names asked. absurd (cc (one-asked (map string_bytes c.args.words.now) c.in-Some-Generate.field-0 _ (Route names) c.in-Some-Generate.ensures (ap asked_for c.in-Some-Generate.field-0-is) asked))

pub returns-in-Some-Import-clause-handed : goal.returns-in-Some-Import-clause-handed
returns-in-Some-Import-clause-handed g c =
    λ names asked. absurd (cc (one-asked (map string_bytes c.args.words.now) c.in-Some-Import.field-0 _ (Route names) c.in-Some-Import.ensures (ap asked_for c.in-Some-Import.field-0-is) asked))

pub returns-in-None-clause-complete : goal.returns-in-None-clause-complete
returns-in-None-clause-complete g c = λ files told no_read no_write. due-is (call_of g.S.Shelf.files g.S.Shelf.faults g.S.Shelf.given g.K.Sink.faults g.K.Sink.written (c.args.shelf.now, c.args.shelf.now) (c.args.out.now, c.write_last.new.out)) files _ _ told (returns-in-None-clause-ends g c) no_read no_write

pub returns-in-Some-Route-clause-complete : goal.returns-in-Some-Route-clause-complete
returns-in-Some-Route-clause-complete g c = λ files told no_read no_write. due-is (call_of g.S.Shelf.files g.S.Shelf.faults g.S.Shelf.given g.K.Sink.faults g.K.Sink.written (c.args.shelf.now, c.route.new.shelf) (c.args.out.now, c.route.new.out)) files _ _ told (returns-in-Some-Route-clause-ends g c) no_read no_write

pub returns-in-Some-Check-clause-complete : goal.returns-in-Some-Check-clause-complete
returns-in-Some-Check-clause-complete g c = λ files told no_read no_write. due-is (call_of g.S.Shelf.files g.S.Shelf.faults g.S.Shelf.given g.K.Sink.faults g.K.Sink.written (c.args.shelf.now, c.check.new.shelf) (c.args.out.now, c.check.new.out)) files _ _ told (returns-in-Some-Check-clause-ends g c) no_read no_write

pub returns-in-Some-Migrate-clause-complete : goal.returns-in-Some-Migrate-clause-complete
returns-in-Some-Migrate-clause-complete g c = λ files told no_read no_write. due-is (call_of g.S.Shelf.files g.S.Shelf.faults g.S.Shelf.given g.K.Sink.faults g.K.Sink.written (c.args.shelf.now, c.migrate.new.shelf) (c.args.out.now, c.migrate.new.out)) files _ _ told (returns-in-Some-Migrate-clause-ends g c) no_read no_write

pub returns-in-Some-Import-clause-complete : goal.returns-in-Some-Import-clause-complete
returns-in-Some-Import-clause-complete g c = λ files told no_read no_write. due-is (call_of g.S.Shelf.files g.S.Shelf.faults g.S.Shelf.given g.K.Sink.faults g.K.Sink.written (c.args.shelf.now, c.import.new.shelf) (c.args.out.now, c.import.new.out)) files _ _ told (returns-in-Some-Import-clause-ends g c) no_read no_write
