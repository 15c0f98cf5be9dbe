use Rattle.std.proofs.Common.{◌≡◌, ◌∙◌, ap, subst}
use Rattle.taxi_base.specs.Walks.{begin_of, end_of}
use Rattle.replies.specs.declared.block.Block.TheVariants.{Filed}
use Rattle.replies.specs.Texts.{block_text}
use Rattle.taxi_engine.proofs.texts.filed_text.Goals as goal

pub returns : goal.returns
returns c = λ airport.
    let flight = c.args.flight.now in
    subst (λ end. c.filed_text.result ≡ block_text airport (Filed flight.name (begin_of flight.steps) end)) (c.end_of.ensures ∙ ap end_of c.as_slice-steps.ensures)
    (subst (λ start. c.filed_text.result ≡ block_text airport (Filed flight.name start c.end_of.result)) (c.begin_of.ensures ∙ ap begin_of c.as_slice-steps.ensures) (c.filed_text.ensures airport))
