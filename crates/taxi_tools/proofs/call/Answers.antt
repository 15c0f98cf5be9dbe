use Rattle.std.proofs.Common.{◌≡◌, inl, ℕ, List, refl, ap, ◌∙◌, subst, map, string_bytes, arith}
use Rattle.program_files.specs.declared.status.Status.TheVariants.{Memory}
use Rattle.command_run.specs.Pace.{commands_left}
use Rattle.program_files.specs.Call.{Call, call_of}
use Rattle.program_words.specs.Given.{words_given}
use Rattle.tool_words.specs.Verb.{IsNamed, asked_by}
use Rattle.taxi_tools.specs.Exit.{KeepsPromises}
use Rattle.taxi_tools.proofs.Promises.{no-words}
use Rattle.taxi_tools.proofs.call.Goals as goal

pub tools-requires : goal.tools-requires
tools-requires g c = record {
  known = λ name named.
      let same : map string_bytes c.as_slice.result.now ≡ words_given c.args.given = ap (map string_bytes) c.as_slice.ensures.value ∙ c.in-Ok.ensures.words in
      c.requires.known name (subst (λ (w : List (List ℕ)). IsNamed (asked_by w) name) same named);
}

pub returns-in-Ok-clause-promises : goal.returns-in-Ok-clause-promises
returns-in-Ok-clause-promises g c =
    let s = g.S.Shelf in
    let k = g.K.Sink in
    let call : Call = call_of s.files s.faults s.given k.faults k.written (c.args.shelf.now, c.tools.new.shelf) (c.args.out.now, c.tools.new.out) in
    let same : map string_bytes c.as_slice.result.now ≡ words_given c.args.given = ap (map string_bytes) c.as_slice.ensures.value ∙ c.in-Ok.ensures.words in
    let kept = c.tools.ensures in (
      c.tools.result,
      c.exit_code.ensures,
      subst (λ (w : List (List ℕ)). KeepsPromises call (asked_by w) (λ names. commands_left (s.files c.args.shelf.now) names (s.begun c.tools.new.shelf) (s.rest c.tools.new.shelf)) (s.tried c.args.shelf.now, s.tried c.tools.new.shelf) (c.tools.new.shelf ≡ c.args.shelf.now) c.tools.result) same
          (record {
            ends = kept.ends;
            usage = kept.usage;
            unread = kept.unread;
            complete = kept.complete;
            handed = kept.handed;
            pace = kept.pace;
            order = inl kept.order;
            reads_later = kept.reads_later;
            writes_later = kept.writes_later;
          }),
    )

pub returns-in-Err-clause-promises : goal.returns-in-Err-clause-promises
returns-in-Err-clause-promises g c =
    let s = g.S.Shelf in
    let k = g.K.Sink in (
      Memory,
      c.exit_code-in-Err.ensures,
      no-words (call_of s.files s.faults s.given k.faults k.written (c.args.shelf.now, c.args.shelf.now) (c.args.out.now, c.args.out.now)) (asked_by (words_given c.args.given))
          (λ names. commands_left (s.files c.args.shelf.now) names (s.begun c.args.shelf.now) (s.rest c.args.shelf.now)) (s.tried c.args.shelf.now) (c.args.shelf.now ≡ c.args.shelf.now) refl refl (omega arith) (omega arith),
    )
