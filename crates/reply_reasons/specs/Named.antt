-- Which lines of an explanation name a holder who is in force?
use Rattle.std.specs.Prelude.{ℕ, List, Option, IsSomeAnd, Contains, ⊤}
use Rattle.taxi_base.specs.State.{State}
use Rattle.reply_reasons.specs.declared.asking.Way.{Way}
use Rattle.reply_reasons.specs.declared.asking.Way.TheVariants.{New, ToAny, On}
use Rattle.reply_reasons.specs.declared.reason.Reason.{Reason}
use Rattle.reply_reasons.specs.declared.reason.Reason.TheVariants as reason
use Rattle.reply_reasons.specs.Explained.{holder_names}

-- one of the others is named
abbrev pub IsNamed : State → Option (List ℕ) → Type 0
IsNamed others holder = IsSomeAnd holder (λ name. Contains (holder_names others) name)

-- where the line tells of a wait
abbrev pub NamesWaitedFor : State → Reason → Type 0
NamesWaitedFor others (reason.Wait step arc seconds holder) = IsNamed others holder
NamesWaitedFor others _ = ⊤

-- where it tells of a wait, of a hold, or of a queue
abbrev pub NamesHolder : State → Reason → Type 0
NamesHolder others (reason.Hold seconds holder) = IsNamed others holder
NamesHolder others (reason.Queue seconds holder) = IsNamed others holder
NamesHolder others told = NamesWaitedFor others told

-- a new flight asks for the route, not one in force
abbrev pub IsForNew : Way → Type 0
IsForNew New = ⊤
IsForNew (ToAny nodes) = ⊤
IsForNew (On steps time) = ⊥
