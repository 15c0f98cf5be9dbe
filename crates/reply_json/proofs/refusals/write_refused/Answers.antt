use Rattle.std.proofs.Common.{◌++◌, ◌∙◌, ℕ, List, ap}
use Rattle.std.proofs.lemmas.Result.{on_ok_weaker}
use Rattle.reply_json.proofs.refusals.write_refused.Goals as goal

pub returns : goal.returns
returns c = λ airport.
    on_ok_weaker c.push_bytes.result
    (λ pushed. pushed ∙ ap (λ (t : List ℕ). c.args.out.now.items ++ t) (c.as_bytes.ensures.value ∙ c.in_ok-text.ensures airport))
    c.push_bytes.ensures.ok
