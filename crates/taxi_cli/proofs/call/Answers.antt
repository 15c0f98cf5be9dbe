use Rattle.std.proofs.Common.{◌≡◌, ◌∙◌, inl, ℕ, List, refl, sym, ap, subst, map, string_bytes, arith}
use Rattle.program_files.specs.declared.status.Status.TheVariants.{Memory}
use Rattle.program_words.specs.Verb.{IsNamed, asked_by}
use Rattle.program_words.specs.Given.{words_given}
use Rattle.taxi_cli.specs.Endings.{Call, call_of}
use Rattle.taxi_cli.specs.Exit.{KeepsPromises}
use Rattle.taxi_cli.specs.Pace.{commands_left}
use Rattle.taxi_cli.proofs.Promises.{no-words}
use Rattle.taxi_cli.proofs.call.Goals as goal

pub taxi-requires : goal.taxi-requires
taxi-requires g c = record {
  known = λ name named.
      let same : map string_bytes c.as_slice.result.now ≡ words_given c.args.given = ap (map string_bytes) c.as_slice.ensures.value ∙ c.in-Ok.ensures.words in
      c.requires.known name (subst (λ (w : List (List ℕ)). IsNamed (asked_by w) name) same named);
}

pub returns-in-Ok-clause-promises : goal.returns-in-Ok-clause-promises
returns-in-Ok-clause-promises g c =
    let s = g.S.Shelf in
    let k = g.K.Sink in
    let call : Call = call_of s.files s.faults s.given k.faults k.written (c.args.shelf.now, c.taxi.new.shelf) (c.args.out.now, c.taxi.new.out) in
    let same : map string_bytes c.as_slice.result.now ≡ words_given c.args.given = ap (map string_bytes) c.as_slice.ensures.value ∙ c.in-Ok.ensures.words in
    let kept = c.taxi.ensures in (
      c.taxi.result,
      c.exit_code.ensures,
      subst (λ (w : List (List ℕ)). KeepsPromises call (asked_by w) (λ names. commands_left (s.files c.args.shelf.now) names (s.begun c.taxi.new.shelf) (s.rest c.taxi.new.shelf))
          (s.tried c.args.shelf.now, s.tried c.taxi.new.shelf) (c.taxi.new.shelf ≡ c.args.shelf.now) c.taxi.result) same
          (record {
            ends = kept.ends;
            usage = kept.usage;
            unread = kept.unread;
            complete = kept.complete;
            headline = kept.headline;
            made = kept.made;
            pace = kept.pace;
            first = kept.first;
            handed = kept.handed;
            order = inl kept.order;
            reads_later = kept.reads_later;
            writes_later = kept.writes_later;
          }),
    )

pub returns-in-Err-clause-promises : goal.returns-in-Err-clause-promises
returns-in-Err-clause-promises g c =
    let s = g.S.Shelf in
    let k = g.K.Sink in (
      Memory,
      c.exit_code-in-Err.ensures,
      no-words (call_of s.files s.faults s.given k.faults k.written (c.args.shelf.now, c.args.shelf.now) (c.args.out.now, c.args.out.now)) (asked_by (words_given c.args.given))
          (λ names. commands_left (s.files c.args.shelf.now) names (s.begun c.args.shelf.now) (s.rest c.args.shelf.now)) (s.tried c.args.shelf.now)
          (c.args.shelf.now ≡ c.args.shelf.now) refl refl (omega arith) (omega arith),
    )
