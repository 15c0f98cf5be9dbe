use Rattle.std.proofs.Common.{◌∙◌, sym}
use Rattle.certificate_check.proofs.BatchForm.{any-contains}
use Rattle.certificate_check.proofs.late_order.is_party_named.Goals as goal

pub returns-then-party_meets : goal.returns-then-party_meets
returns-then-party_meets c =
    let any = any-contains c.args.party.now.name c.args.entries.now in (
      λ e meets. any.0 (sym c.is_named.ensures ∙ e),
      λ named. c.is_named.ensures ∙ any.1 (named (sym c.party_meets.ensures ∙ c.if-party_meets.true)),
    )
