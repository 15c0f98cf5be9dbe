use Rattle.std.proofs.Common.{◌∙◌, ◌++◌, List, ℕ, ap}
use Rattle.taxi_text.proofs.Stored.{bytes_after, zeros_after, length_after}
use Rattle.taxi_text.proofs.texts.ShortText.push.Goals as goal

pub invariant_of-self : goal.invariant_of-self
invariant_of-self c =
    let written = c.copy_from_slice.ensures.after in (
      zeros_after c.self.inside.len c.self.inside.bytes c.copy_from_slice.new.self c.args.piece.now c.self.invariant.1 c.self.invariant.0 written,
      length_after c.self.inside.len c.self.inside.bytes c.copy_from_slice.new.self c.args.piece.now c.self.invariant.1 c.self.invariant.0 written,
    )

pub returns : goal.returns
returns c =
    bytes_after c.self.inside.len c.self.inside.bytes c.copy_from_slice.new.self c.args.piece.now c.self.invariant.1 c.self.invariant.0 c.copy_from_slice.ensures.after
    ∙ ap (λ (s : List ℕ). s ++ c.args.piece.now) c.self.view_is
