-- The index has each name's place, which is below the number of names.
use Rattle.std.proofs.Common.{◌≡◌, ◌<◌, ◌≤◌, ℕ, List, length, Option, Some, None, arith, rules, sym}
use Rattle.std.specs.Prelude.{IfSome}
use Rattle.taxi_base.specs.Airport.{place_of}
use Rattle.airport_rules.proofs.PlaceLaws.{place-within}
use Rattle.airport_rules.proofs.name_list.NameList.find.Goals as goal

within : (name : List ℕ) (names : List (List ℕ)) (found : Option ℕ) → found ≡ place_of name names → length names ≤ 10000 → IfSome found (λ at. at < length names) × IfSome found (λ at. at < 10000)
within name names (Some at) e few = let low = place-within name names at (sym e) in (low, omega (arith, low, few))
within name names None e few = (tt, tt)

pub returns-clause-within : goal.returns-clause-within
returns-clause-within c =
    let place : c.copied.result ≡ place_of c.args.name.now c.self.inside.names.items = search rules in
    rw (← c.self.view_is) ((within c.args.name.now c.self.inside.names.items c.copied.result place c.self.invariant.few).0)

pub returns-clause-few : goal.returns-clause-few
returns-clause-few c =
    let place : c.copied.result ≡ place_of c.args.name.now c.self.inside.names.items = search rules in
    (within c.args.name.now c.self.inside.names.items c.copied.result place c.self.invariant.few).1
