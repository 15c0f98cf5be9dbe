use Rattle.std.proofs.Common.{◌≡◌, ◌+◌, ◌<◌, ◌∷◌, ◌++◌, length, sym, ap, subst, arith}
use Rattle.std.specs.Prelude.{All, ℕ, List}
use Rattle.interval_list.specs.Cells.{places, windows_of}
use Rattle.interval_list.specs.Intervals.{Intervals, ids_of, owned, IsNormal}
use Rattle.interval_list.proofs.Owning.{below-drawn, normal-drawn, length-ids_of}
use Rattle.interval_list.proofs.Edited.{length-windows_of}
use Rattle.interval_list.proofs.Handed.{out-drawn}
use Rattle.interval_list.proofs.list.IntervalList.draw.Goals as goal

pub invariant_of-self-2 : goal.invariant_of-self-2
invariant_of-self-2 c =
    let list = c.self.inside in let n = c.args.ids.now.next in let ws = windows_of list.windows in let ss = ids_of (windows_of list.spares) in
    let below : All (λ x. x < n) (ids_of ws ++ ss) = subst (λ (l : Intervals). All (λ x. x < n) (owned l)) (sym c.self.view_is) c.requires.below in
    let drawn : ids_of (windows_of c.push.new.self) ≡ n ∷ ss = ap ids_of c.push.ensures.windows in
    let Normal : List ℕ → Type 0 = λ zs. IsNormal (record { windows = ws; spare = zs }) in (
      subst Normal (sym drawn) (normal-drawn (record { windows = ws; spare = ss }) n c.self.invariant.0 below),
      omega (
        arith,
        c.requires.few,
        ap (λ (l : Intervals). length l.windows + length l.spare) c.self.view_is,
        length-windows_of list.windows,
        ap length c.push.ensures.windows,
        length-windows_of c.push.new.self,
        length-ids_of (windows_of list.spares),
        length-windows_of list.spares,
      ),
      out-drawn c.draw.new.self list.windows list.spares c.push.new.self c.in_ok-node.node.at c.push.ensures.places (c.in_ok-node.ensures.ok (places list.windows ++ places list.spares) c.self.invariant.2),
    )

pub returns-clause-below : goal.returns-clause-below
returns-clause-below c =
    let list = c.self.inside in let n = c.args.ids.now.next in let ws = windows_of list.windows in let ss = ids_of (windows_of list.spares) in
    let below : All (λ x. x < n) (ids_of ws ++ ss) = subst (λ (l : Intervals). All (λ x. x < n) (owned l)) (sym c.self.view_is) c.requires.below in
    let drawn : ids_of (windows_of c.push.new.self) ≡ n ∷ ss = ap ids_of c.push.ensures.windows in
    let Below : List ℕ → Type 0 = λ zs. All (λ x. x < n + 1) (ids_of ws ++ zs) in
    subst Below (sym drawn) (below-drawn n (ids_of ws) ss below)

pub returns-clause-normal : goal.returns-clause-normal
returns-clause-normal c = (invariant_of-self-2 c).0
