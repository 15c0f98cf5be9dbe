use Rattle.std.proofs.Common.{◌++◌, ◌∷◌, ◌∙◌, [], ℕ, List, ap, append_assoc}
use Rattle.std.proofs.lemmas.Result.{on_ok_weaker}
use Rattle.replies.specs.declared.block.Block.{Block}
use Rattle.serde_json.specs.Written.{compact_text}
use Rattle.reply_json.specs.Lines.{command_object, object_line}
use Rattle.reply_json.proofs.line.write_object_line.Goals as goal

pub returns : goal.returns
unfolding object_line
returns c = λ block printable is.
    let old = c.args.out.now.items in
    let text : Block → List ℕ = λ b. compact_text (command_object c.args.airport.now c.args.command c.args.line c.args.text.now b) in
    on_ok_weaker c.push_bytes.result
    (λ pushed.
    pushed ∙ ap (λ (t : List ℕ). t ++ 10 ∷ []) c.in_ok-write_object.ensures ∙ append_assoc old (text c.in_ok-block.block) (10 ∷ [])
    ∙ ap (λ (b : Block). old ++ (text b ++ 10 ∷ [])) (c.in_ok-block.ensures.only block printable is))
    c.push_bytes.ensures.ok
