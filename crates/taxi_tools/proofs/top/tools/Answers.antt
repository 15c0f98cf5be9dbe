use Rattle.std.proofs.Common.{◌≡◌, refl, sym, subst, map, string_bytes, Option, None}
use Rattle.program_files.specs.declared.status.Status.TheVariants.{Usage}
use Rattle.command_run.specs.Pace.{commands_left}
use Rattle.program_files.specs.Call.{Call, call_of}
use Rattle.program_files.proofs.EndingLaws.{last-ends_as}
use Rattle.tool_words.specs.Usage.{usage_line}
use Rattle.tool_words.specs.Verb.{Verb, asked_by, IsNamed, CountsFromOne}
use Rattle.tool_words.specs.LentWords.{asked_for}
use Rattle.tool_words.proofs.Counted.{counts_from-one}
use Rattle.taxi_tools.specs.Endings.{IsDueText}
use Rattle.taxi_tools.specs.Handed.{IsHandedOver}
use Rattle.taxi_tools.specs.Pace.{KeepsPace}
use Rattle.taxi_tools.proofs.EndingLaws.{written-in_one}
use Rattle.taxi_tools.proofs.DueLaws.{due-is}
use Rattle.taxi_tools.proofs.Promises.{promised}
use Rattle.taxi_tools.proofs.top.tools.Goals as goal

pub returns-in-None-clause-ends : goal.returns-in-None-clause-ends
returns-in-None-clause-ends g c =
    let call : Call = call_of g.S.Shelf.files g.S.Shelf.faults g.S.Shelf.given g.K.Sink.faults g.K.Sink.written (c.args.shelf.now, c.args.shelf.now) (c.args.out.now, c.write_last.new.out) in
    rw (sym c.in-None.ensures)
    (last-ends_as (IsDueText call None) call.writes call.taken Usage usage_line c.usage_line.result.now c.write_last.result refl c.usage_line.ensures c.write_last.ensures.ends (λ whole. whole))

pub returns-in-None-clause-handed : goal.returns-in-None-clause-handed
returns-in-None-clause-handed g c =
    let call : Call = call_of g.S.Shelf.files g.S.Shelf.faults g.S.Shelf.given g.K.Sink.faults g.K.Sink.written (c.args.shelf.now, c.args.shelf.now) (c.args.out.now, c.write_last.new.out) in
    subst (λ (o : Option Verb). IsHandedOver call o c.write_last.result) c.in-None.ensures
    (written-in_one call None Usage c.usage_line.result.now c.write_last.result c.write_last.ensures.ends (λ e. absurd (cc e)))

pub returns-in-None-clause-pace : goal.returns-in-None-clause-pace
returns-in-None-clause-pace g c =
    let s = g.S.Shelf in
    let k = g.K.Sink in
    let call : Call = call_of s.files s.faults s.given k.faults k.written (c.args.shelf.now, c.args.shelf.now) (c.args.out.now, c.write_last.new.out) in
    subst (λ (o : Option Verb). KeepsPace call o (λ names. commands_left (s.files c.args.shelf.now) names (s.begun c.args.shelf.now) (s.rest c.args.shelf.now)) (s.tried c.args.shelf.now, s.tried c.args.shelf.now) c.write_last.result) c.in-None.ensures tt

pub returns-in-None-clause-complete : goal.returns-in-None-clause-complete
returns-in-None-clause-complete g c = λ files told no_read no_write.
    due-is (call_of g.S.Shelf.files g.S.Shelf.faults g.S.Shelf.given g.K.Sink.faults g.K.Sink.written (c.args.shelf.now, c.args.shelf.now) (c.args.out.now, c.write_last.new.out)) files _ _ told
    (returns-in-None-clause-ends g c) no_read no_write

-- the words name what is asked for
pub carry_out-requires : goal.carry_out-requires
carry_out-requires g c = record {
  known = λ name named. c.requires.known name (subst (λ (o : Option Verb). IsNamed o name) c.in-Some.ensures named);
  counted = subst CountsFromOne (sym c.in-Some.ensures) (counts_from-one (map string_bytes c.args.words.now));
}

pub returns-in-Some : goal.returns-in-Some
returns-in-Some g c =
    let s = g.S.Shelf in
    let k = g.K.Sink in
    let call : Call = call_of s.files s.faults s.given k.faults k.written (c.args.shelf.now, c.carry_out.new.shelf) (c.args.out.now, c.carry_out.new.out) in
    let kept = promised call (asked_for c.in-Some.asked) (λ names. commands_left (s.files c.args.shelf.now) names (s.begun c.carry_out.new.shelf) (s.rest c.carry_out.new.shelf)) (s.tried c.args.shelf.now, s.tried c.carry_out.new.shelf) (c.carry_out.new.shelf ≡ c.args.shelf.now) c.carry_out.result
    (asked_by (map string_bytes c.args.words.now)) c.in-Some.ensures c.carry_out.ensures in
    record {
      ends = kept.0.ends;
      usage = kept.0.usage;
      unread = kept.0.unread;
      complete = kept.0.complete;
      handed = kept.0.handed;
      pace = kept.0.pace;
      order = kept.1;
      reads_later = kept.0.reads_later;
      writes_later = kept.0.writes_later;
    }
