use Rattle.std.proofs.Common.{◌≡◌, ◌∙◌, ◌++◌, List, refl, ap, codes, decimal}
use Rattle.std.specs.Prelude.{flat_map}
use Rattle.taxi_base.specs.declared.rows.Step.{Step}
use Rattle.taxi_base.specs.Walks.{begin_of}
use Rattle.checkpoint_file.specs.Written.{step_text}
use Rattle.checkpoint_file.proofs.Pieces.{file-written}
use Rattle.checkpoint_file.proofs.write.write_file.Goals as goal

pub returns : goal.returns
returns c =
    let begin : c.start_of.result ≡ begin_of c.args.flight.now.steps = c.start_of.ensures ∙ ap begin_of c.as_slice.ensures in
    let steps = ap (λ (s : List Step). c.write_words.new.out.items ++ flat_map (step_text c.args.airport.now) s) c.as_slice-2.ensures in
    file-written c.args.airport.now c.args.flight.now c.args.out.now.items _ _ _ _ (codes "file") c.bytes.result.now c.bytes-2.result.now c.bytes-3.result.now
    refl c.bytes.ensures.same (c.bytes-2.ensures.same ∙ c.class_text-class.ensures.text) (c.bytes-3.ensures.same ∙ c.number_text-start.ensures ∙ ap decimal (c.from.ensures ∙ begin))
    c.in_ok-push_bytes.ensures.ok c.in_ok-write_words.ensures (c.in_ok-write_steps.ensures ∙ steps) c.in_ok-push_bytes-2.ensures.ok
