use Rattle.std.proofs.Common.{◌≡◌, ◌∙◌, sym, subst, false, List, ℕ, codes}
use Rattle.std.specs.Prelude.{bytes_eq}
use Rattle.command_run.proofs.Supplied.{other-text}
use Rattle.command_run.proofs.before.answer_with_memory.Goals as goal

pub returns : goal.returns
returns g c =
    let reply = c.answer.ensures.answered in
    let other : bytes_eq c.reply.result.now (codes "refused memory\n") ≡ false =
    subst (λ (text : List ℕ). bytes_eq c.reply.result.now text ≡ false) c.as_slice.ensures (sym c.eq.ensures ∙ c.if-eq.false) in
    record {
      answered = (reply, other-text (g.R.Router.airport c.args.router.now) reply.block c.reply.result.now (c.reply.ensures ∙ reply.is_text) other);
      airport = c.answer.ensures.airport;
    }
