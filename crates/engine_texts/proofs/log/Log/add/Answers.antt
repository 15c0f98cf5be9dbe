use Rattle.std.proofs.Common.{◌≡◌, ◌∙◌, false, List, ℕ, codes, sym, subst}
use Rattle.std.specs.Prelude.{bytes_eq}
use Rattle.command_run.proofs.Supplied.{other-text}
use Rattle.engine_texts.proofs.log.Log.add.Goals as goal

pub returns-clause-found : goal.returns-clause-found
returns-clause-found c = λ block is.
    let other : bytes_eq c.args.reply.now (codes "refused memory\n") ≡ false =
    subst (λ (text : List ℕ). bytes_eq c.args.reply.now text ≡ false) c.as_slice.ensures (sym c.eq.ensures ∙ c.if-eq.false) in
    other-text c.args.airport.now block c.args.reply.now is other
