use Rattle.std.proofs.Common.{◌≡◌, Some, IsTrue, ◌↔◌, Bool, ℕ, sym, ◌∙◌, ap, subst}
use Rattle.std.proofs.lemmas.Bool.{eqb-true, eq-eqb}
use Rattle.taxi_base.specs.declared.numbers.Node.{Node}
use Rattle.taxi_base.specs.Choices.{OneOf}
use Rattle.taxi_base.proofs.OneOfLaws.{any-OneOf}
use Rattle.check_rows.specs.Rules.{far_end}
use Rattle.check_rows.proofs.target.leads_to_one.Goals as goal

pub returns : goal.returns
returns c =
    let n : Node = c.far_end.result in
    subst (λ (b : Bool). IsTrue b ↔ OneOf (λ node. far_end c.args.way c.args.graph.now c.args.arc ≡ Some node) c.args.nodes.now) (sym c.contains.ensures.value)
    (any-OneOf _ (λ (node : Node). far_end c.args.way c.args.graph.now c.args.arc ≡ Some node)
    (λ node. (
      λ h. (let e : node.0 ≡ n.0 = eqb-true node.0 n.0 h in c.far_end.ensures ∙ ap (λ (k : ℕ). Some (record { 0 = k })) (sym e)),
      λ e. (let same : n ≡ node = some_same n node (sym c.far_end.ensures ∙ e) in eq-eqb node.0 n.0 (ap (λ (m : Node). m.0) (sym same))),
    ))
    c.args.nodes.now)
  where
    some_same : (a b : Node) → Some a ≡ Some b → a ≡ b
    some_same a b e = cc
