use Rattle.std.proofs.Common.{◌≡◌, ◌+◌, length, sym, subst, arith}
use Rattle.interval_list.specs.Cells.{windows_of}
use Rattle.interval_list.specs.Intervals.{Intervals, span, ids_of, IsNormal}
use Rattle.interval_list.specs.Steps.{cut, HasRoomToCut}
use Rattle.interval_list.proofs.Edited.{length-windows_of}
use Rattle.interval_list.proofs.Owning.{length-ids_of}
use Rattle.interval_list.proofs.Handed.{out-same}
use Rattle.interval_list.proofs.Results.{IsTakenOut, taken_out}
use Rattle.interval_list.proofs.list.IntervalList.subtract.Goals as goal

pub take_out-requires-clause-room : goal.take_out-requires-clause-room
take_out-requires-clause-room c = subst (λ (l : Intervals). HasRoomToCut (span c.args.from c.args.until) l.windows l.spare) (sym c.self.view_is) c.requires.room

abbrev made : goal.After-take_out → Intervals
made c = record { windows = windows_of c.take_out.new.windows; spare = ids_of (windows_of c.take_out.new.spares) }

result : (c : goal.After-take_out) → IsTakenOut (span c.args.from c.args.until) c.args.self.now (made c)
result c =
    let s = span c.args.from c.args.until in
    taken_out s c.args.self.now (made c) c.requires.some (subst IsNormal c.self.view_is c.self.invariant.0) c.requires.room
    (subst (λ (l : Intervals). (made c).windows ≡ (cut s l.windows l.spare).0) c.self.view_is c.take_out.ensures.windows)
    (subst (λ (l : Intervals). (made c).spare ≡ (cut s l.windows l.spare).1) c.self.view_is c.take_out.ensures.spares)

pub invariant_of-self : goal.invariant_of-self
invariant_of-self c =
    let list = c.self.inside in let new = c.take_out.new in
    let number = subst (λ (l : Intervals). length (made c).windows + length (made c).spare ≡ length l.windows + length l.spare) (sym c.self.view_is) (result c).number in (
      (result c).normal,
      omega (
        arith,
        c.self.invariant.1,
        number,
        length-ids_of (windows_of new.spares),
        length-ids_of (windows_of list.spares),
        length-windows_of new.windows,
        length-windows_of new.spares,
        length-windows_of list.windows,
        length-windows_of list.spares,
      ),
      out-same list.stock list.windows list.spares new.windows new.spares c.take_out.ensures.nodes c.self.invariant.2,
    )

pub returns-clause-seconds : goal.returns-clause-seconds
returns-clause-seconds c = (result c).seconds

pub returns-clause-spans : goal.returns-clause-spans
returns-clause-spans c = (result c).spans

pub returns-clause-normal : goal.returns-clause-normal
returns-clause-normal c = (result c).normal

pub returns-clause-kept : goal.returns-clause-kept
returns-clause-kept c = (result c).kept

pub returns-clause-ids : goal.returns-clause-ids
returns-clause-ids c = (result c).ids

pub returns-clause-number : goal.returns-clause-number
returns-clause-number c = (result c).number
