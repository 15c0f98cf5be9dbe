use Rattle.std.proofs.Common.{◌≡◌, ◌∙◌, ◌-◌, Err, length, take, refl, sym, ap, subst, arith, rules}
use Rattle.std.proofs.lemmas.List.{length-take}
use Rattle.std.proofs.lemmas.Result.{err_from_is_err_and}
use Rattle.command_run.specs.Told.{AreToldBy, IsStoppedTold, IsHandedOn}
use Rattle.command_run.proofs.Taken.{ended-left, taken-none}
use Rattle.command_run.proofs.Told.{failed-of, same-err, so_far-nothing, told-fed, told-ended, told-first, numbers-few, so_far-left, first-stops, first-prompt, last-stops, last-prompt, by-last, by-none, whole-told, read-stops, write-on}
use Rattle.command_run.proofs.telling.run_told.Goals as goal
use Rattle.command_run.proofs.telling.run_told.Goals.{in-Some-last_line+in_ok-count-2, in_default-last_line}

pub loop-line-init : goal.loop-line-init
loop-line-init g c = record {
  so_far = rw c.new-reader.ensures (so_far-nothing g.T.Teller.telling _ _ _ _ _ _ _ c.requires.fresh);
  airport = refl;
  begun = search rules;
  tried = refl;
  reads_later = omega arith;
  writes_later = omega arith;
  files = refl;
  names = search rules;
}

pub overflow_add-number : goal.overflow_add-number
overflow_add-number g c =
    let some = numbers-few _ _ _ _ _ _ _ _ _ _ _ _ _ _ _ c.loop-line.invariant.so_far in
    let countable = c.requires.countable in
    omega (arith, some.0, countable)

pub tell_line-requires : goal.tell_line-requires
tell_line-requires g c =
    let some = numbers-few _ _ _ _ _ _ _ _ _ _ _ _ _ _ _ c.loop-line.invariant.so_far in
    let countable = c.requires.countable in
    omega (arith, some.1, countable)

pub overflow_add-count : goal.overflow_add-count
overflow_add-count g c =
    let some = numbers-few _ _ _ _ _ _ _ _ _ _ _ _ _ _ _ c.loop-line.invariant.so_far in
    let few = c.in_ok-count.ensures.few in
    let countable = c.requires.countable in
    omega (arith, some.1, few, countable)

pub loop-line-preserved-in-Some : goal.loop-line-preserved-in-Some
loop-line-preserved-in-Some g c =
    let inv = c.loop-line.invariant in
    let later = c.tell_line.ensures.later in
    let before = inv.writes_later in
    record {
      so_far = rw c.drop_first.ensures
          (told-first _ _ _ _ _ _ _ _ _ _ _ _ _ _ _ inv.so_far c.in-Some.line.now (sym c.in-Some.ensures) _ _ _ _ (rw inv.airport at c.in_ok-count.ensures.told));
      airport = c.tell_line.ensures.airport ∙ inv.airport;
      begun = inv.begun;
      tried = inv.tried;
      reads_later = inv.reads_later;
      writes_later = omega (arith, later, before);
      files = inv.files;
      names = inv.names;
    }

pub returns-in_err-count-clause-stopped : goal.returns-in_err-count-clause-stopped
returns-in_err-count-clause-stopped g c =
    let so_far = c.loop-line.invariant.so_far in
    let stopped = err_from_is_err_and c.from_residual.result c.from_residual.ensures.1 in
    let first = sym c.in-Some.ensures in
    let cut = rw c.loop-line.invariant.airport at c.in_err-count.ensures.cut in
    rw stopped.1
    (subst (IsStoppedTold g.T.Teller.telling (g.T.Teller.airport c.args.teller.now) c.args.limit (g.S.Shelf.rest c.args.shelf.now, g.S.Shelf.rest c.loop-line.shelf) (g.K.Sink.written c.args.out.now, g.K.Sink.written c.tell_line.new.out)) (sym stopped.2)
    (first-stops _ _ _ _ _ _ _ _ _ _ _ _ _ _ _ so_far c.in-Some.line.now first _ cut c.in_err-count.field-0.0))

pub returns-in_err-count-clause-pace : goal.returns-in_err-count-clause-pace
returns-in_err-count-clause-pace g c = λ is.
    let stopped = err_from_is_err_and c.from_residual.result c.from_residual.ensures.1 in
    let first = sym c.in-Some.ensures in
    let failed = failed-of c.in_err-count.field-0.0 (sym stopped.2 ∙ same-err _ _ _ stopped.1 is) in
    let cut = rw c.loop-line.invariant.airport at (c.in_err-count.ensures.cut_short (ap Err failed)) in
    first-prompt _ _ _ _ _ _ _ _ _ _ _ _ _ _ _ c.loop-line.invariant.so_far c.in-Some.line.now first _ cut

pub returns-in_err-taken-clause-stopped : goal.returns-in_err-taken-clause-stopped
returns-in_err-taken-clause-stopped g c =
    let so_far = c.loop-line.invariant.so_far in
    let stopped = err_from_is_err_and c.from_residual-in_err-taken.result c.from_residual-in_err-taken.ensures.1 in
    rw stopped.1
    (subst (IsStoppedTold g.T.Teller.telling (g.T.Teller.airport c.args.teller.now) c.args.limit (g.S.Shelf.rest c.args.shelf.now, g.S.Shelf.rest c.read_piece.new.shelf) (g.K.Sink.written c.args.out.now, g.K.Sink.written c.loop-line.out)) (sym stopped.2)
    (read-stops _ _ _ _ _ _ _ _ _ _ _ _ _ _ _ so_far (sym c.in_default.ensures) _ c.in_err-taken.field-0.0
    (λ e. c.in_err-taken.ensures.too_large (ap Err e)) (λ e. c.in_err-taken.ensures.kept (ap Err e))).0)

pub returns-in_err-feed-clause-stopped : goal.returns-in_err-feed-clause-stopped
returns-in_err-feed-clause-stopped g c =
    let stopped = err_from_is_err_and c.from_residual-in_err-feed.result c.from_residual-in_err-feed.ensures.1 in
    rw stopped.1
    (subst (IsStoppedTold g.T.Teller.telling (g.T.Teller.airport c.args.teller.now) c.args.limit (g.S.Shelf.rest c.args.shelf.now, g.S.Shelf.rest c.read_piece.new.shelf) (g.K.Sink.written c.args.out.now, g.K.Sink.written c.loop-line.out)) (sym stopped.2)
    (so_far-left _ _ _ _ _ _ _ _ _ _ _ _ _ _ _ c.loop-line.invariant.so_far _))

pub loop-line-preserved : goal.loop-line-preserved
loop-line-preserved g c =
    let inv = c.loop-line.invariant in
    let bound = c.in_ok-taken.ensures.bound in
    let long = length-take c.in_ok-taken.taken c.read_piece.new.buffer in
    let later = c.read_piece.ensures.later in
    let before = inv.reads_later in
    record {
      so_far = rw c.in_ok-feed.ensures.ok
          (told-fed _ _ _ _ _ _ _ _ _ _ _ _ _ _ _ inv.so_far _ _ (take c.in_ok-taken.taken c.read_piece.new.buffer) _ (sym c.in_default.ensures) c.in_ok-taken.ensures.bytes c.in_ok-taken.ensures.given
          (omega (arith, bound, long)) (omega (arith, bound, long)) (let all : length (take c.in_ok-taken.taken c.read_piece.new.buffer) ≡ c.in_ok-taken.taken = omega (arith, bound, long) in ap (λ n. c.loop-line.left - n) (sym all)));
      airport = inv.airport;
      begun = search rules;
      tried = c.read_piece.ensures.tried ∙ inv.tried;
      reads_later = omega (arith, later, before);
      writes_later = inv.writes_later;
      files = c.read_piece.ensures.files ∙ inv.files;
      names = search rules;
    }

pub returns-in_err-count-2-clause-stopped : goal.returns-in_err-count-2-clause-stopped
returns-in_err-count-2-clause-stopped g c =
    let stopped = err_from_is_err_and c.from_residual-in_err-count-2.result c.from_residual-in_err-count-2.ensures.1 in
    let ended = ended-left _ _ _ _ c.if-taken-eq0.true c.in_ok-taken.ensures.end c.in_ok-taken.ensures.bytes in
    let none = sym c.in_default.ensures in
    let nothing = taken-none c.in_ok-taken.taken c.read_piece.new.buffer c.if-taken-eq0.true in
    let told = told-ended _ _ _ _ _ _ _ _ _ _ _ _ _ _ _ c.loop-line.invariant.so_far _ _ _ ended.0 c.in_ok-taken.ensures.given nothing none in
    let last = sym c.in-Some-last_line.ensures in
    let cut = rw c.loop-line.invariant.airport at c.in_err-count-2.ensures.cut in
    rw stopped.1
    (subst (IsStoppedTold g.T.Teller.telling (g.T.Teller.airport c.args.teller.now) c.args.limit (g.S.Shelf.rest c.args.shelf.now, g.S.Shelf.rest c.read_piece.new.shelf) (g.K.Sink.written c.args.out.now, g.K.Sink.written c.tell_line-in-Some-last_line.new.out)) (sym stopped.2)
    (last-stops _ _ _ _ _ _ _ _ _ _ _ _ _ _ _ told.0 none c.in-Some-last_line.line.now last ended.1 _ cut c.in_err-count-2.field-0.0))

pub returns-in_err-count-2-clause-pace : goal.returns-in_err-count-2-clause-pace
returns-in_err-count-2-clause-pace g c = λ is.
    let stopped = err_from_is_err_and c.from_residual-in_err-count-2.result c.from_residual-in_err-count-2.ensures.1 in
    let ended = ended-left _ _ _ _ c.if-taken-eq0.true c.in_ok-taken.ensures.end c.in_ok-taken.ensures.bytes in
    let none = sym c.in_default.ensures in
    let nothing = taken-none c.in_ok-taken.taken c.read_piece.new.buffer c.if-taken-eq0.true in
    let told = told-ended _ _ _ _ _ _ _ _ _ _ _ _ _ _ _ c.loop-line.invariant.so_far _ _ _ ended.0 c.in_ok-taken.ensures.given nothing none in
    let last = sym c.in-Some-last_line.ensures in
    let failed = failed-of c.in_err-count-2.field-0.0 (sym stopped.2 ∙ same-err _ _ _ stopped.1 is) in
    let cut = rw c.loop-line.invariant.airport at (c.in_err-count-2.ensures.cut_short (ap Err failed)) in
    last-prompt _ _ _ _ _ _ _ _ _ _ _ _ _ _ _ told.0 none c.in-Some-last_line.line.now last told.1 _ cut

pub overflow_add-count-in-Some-last_line : goal.overflow_add-count-in-Some-last_line
overflow_add-count-in-Some-last_line g c =
    let some = numbers-few _ _ _ _ _ _ _ _ _ _ _ _ _ _ _ c.loop-line.invariant.so_far in
    let few = c.in_ok-count-2.ensures.few in
    let countable = c.requires.countable in
    omega (arith, some.1, few, countable)

pub returns-clause-handed_on : goal.returns-clause-handed_on
returns-clause-handed_on g c =
    let ended = ended-left _ _ _ _ c.if-taken-eq0.true c.in_ok-taken.ensures.end c.in_ok-taken.ensures.bytes in
    let none = sym c.in_default.ensures in
    let nothing = taken-none c.in_ok-taken.taken c.read_piece.new.buffer c.if-taken-eq0.true in
    let told = told-ended _ _ _ _ _ _ _ _ _ _ _ _ _ _ _ c.loop-line.invariant.so_far _ _ _ ended.0 c.in_ok-taken.ensures.given nothing none in
    elim c.match-last_line.branch [
      | in-Some-last_line+in_ok-count-2 w ↦
          let line_told = rw c.loop-line.invariant.airport at w.in_ok-count-2.ensures.told in
          rw (w.out-is, w.count-is, w.teller-is) (by-last _ _ _ _ _ _ _ _ _ _ _ _ _ _ _ told.0 none w.in-Some-last_line.line.now (sym w.in-Some-last_line.ensures) ended.1 _ _ _ _ line_told)
      | in_default-last_line w ↦
          rw (w.out-is, w.count-is, w.teller-is) (by-none _ _ _ _ _ _ _ _ _ _ _ _ _ _ _ told.0 none (sym w.in_default-last_line.ensures) ended.1)
    ]

pub returns-clause-whole : goal.returns-clause-whole
returns-clause-whole g c = whole-told g.T.Teller.telling _ _ _ _ _ _ _ _ _ (returns-clause-handed_on g c)

pub tell_line-requires-in-Some-last_line : goal.tell_line-requires-in-Some-last_line
tell_line-requires-in-Some-last_line g c =
    let some = numbers-few _ _ _ _ _ _ _ _ _ _ _ _ _ _ _ c.loop-line.invariant.so_far in
    let countable = c.requires.countable in
    omega (arith, some.1, countable)

pub returns-in_err-count-clause-stopped_on : goal.returns-in_err-count-clause-stopped_on
returns-in_err-count-clause-stopped_on g c =
    let stopped = err_from_is_err_and c.from_residual.result c.from_residual.ensures.1 in
    rw stopped.1
    (subst (IsHandedOn (AreToldBy g.T.Teller.telling (g.T.Teller.airport c.args.teller.now) (g.T.Teller.told c.args.teller.now, g.T.Teller.told c.tell_line.new.teller) (g.T.Teller.state c.tell_line.new.teller)) c.args.limit (g.S.Shelf.rest c.args.shelf.now, g.S.Shelf.rest c.loop-line.shelf) (g.K.Sink.written c.args.out.now, g.K.Sink.written c.tell_line.new.out)) (sym stopped.2)
    (write-on _ _ _ _ c.in_err-count.field-0.0))

pub returns-in_err-taken-clause-stopped_on : goal.returns-in_err-taken-clause-stopped_on
returns-in_err-taken-clause-stopped_on g c =
    let stopped = err_from_is_err_and c.from_residual-in_err-taken.result c.from_residual-in_err-taken.ensures.1 in
    rw stopped.1
    (subst (IsHandedOn (AreToldBy g.T.Teller.telling (g.T.Teller.airport c.args.teller.now) (g.T.Teller.told c.args.teller.now, g.T.Teller.told c.loop-line.teller) (g.T.Teller.state c.loop-line.teller)) c.args.limit (g.S.Shelf.rest c.args.shelf.now, g.S.Shelf.rest c.read_piece.new.shelf) (g.K.Sink.written c.args.out.now, g.K.Sink.written c.loop-line.out)) (sym stopped.2)
    (read-stops _ _ _ _ _ _ _ _ _ _ _ _ _ _ _ c.loop-line.invariant.so_far (sym c.in_default.ensures) _ c.in_err-taken.field-0.0
    (λ e. c.in_err-taken.ensures.too_large (ap Err e)) (λ e. c.in_err-taken.ensures.kept (ap Err e))).1)

pub returns-in_err-feed-clause-stopped_on : goal.returns-in_err-feed-clause-stopped_on
returns-in_err-feed-clause-stopped_on g c =
    let stopped = err_from_is_err_and c.from_residual-in_err-feed.result c.from_residual-in_err-feed.ensures.1 in
    rw stopped.1
    (subst (IsHandedOn (AreToldBy g.T.Teller.telling (g.T.Teller.airport c.args.teller.now) (g.T.Teller.told c.args.teller.now, g.T.Teller.told c.loop-line.teller) (g.T.Teller.state c.loop-line.teller)) c.args.limit (g.S.Shelf.rest c.args.shelf.now, g.S.Shelf.rest c.read_piece.new.shelf) (g.K.Sink.written c.args.out.now, g.K.Sink.written c.loop-line.out)) (sym stopped.2)
    tt)

pub returns-in_err-count-2-clause-stopped_on : goal.returns-in_err-count-2-clause-stopped_on
returns-in_err-count-2-clause-stopped_on g c =
    let stopped = err_from_is_err_and c.from_residual-in_err-count-2.result c.from_residual-in_err-count-2.ensures.1 in
    rw stopped.1
    (subst (IsHandedOn (AreToldBy g.T.Teller.telling (g.T.Teller.airport c.args.teller.now) (g.T.Teller.told c.args.teller.now, g.T.Teller.told c.tell_line-in-Some-last_line.new.teller) (g.T.Teller.state c.tell_line-in-Some-last_line.new.teller)) c.args.limit (g.S.Shelf.rest c.args.shelf.now, g.S.Shelf.rest c.read_piece.new.shelf) (g.K.Sink.written c.args.out.now, g.K.Sink.written c.tell_line-in-Some-last_line.new.out)) (sym stopped.2)
    (write-on _ _ _ _ c.in_err-count-2.field-0.0))
