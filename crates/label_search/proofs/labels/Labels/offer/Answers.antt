use Rattle.std.proofs.Common.{◌<◌, None, IfSome, sym, ◌∙◌, subst}
use Rattle.std.proofs.lemmas.List.{get_or_default}
use Rattle.std.proofs.lemmas.Bool.{false≢true}
use Rattle.label_search.specs.Labels.{standing}
use Rattle.label_search.proofs.Offers.{improved_lower, improved_not}
use Rattle.label_search.proofs.labels.Labels.offer.Goals as goal

pub returns-in-None : goal.returns-in-None
returns-in-None c =
    let s = c.args.self.now in
    let read = c.index-old.ensures ∙ get_or_default s.known.items c.args.cell c.index-old.result.now None c.requires.known in
    let less = c.gets_less_by.ensures.0 c.if-gets_less_by.true in
    rw (c.insert.ensures, c.write.ensures.known, c.write.ensures.queue)
    (improved_lower (standing s) c.args.cell c.args.label c.requires.known c.requires.queue (subst (λ o. IfSome o (λ l. c.args.label.value < l.value)) read less))

pub returns-in-Some : goal.returns-in-Some
returns-in-Some c =
    let s = c.args.self.now in
    let read = c.index-old.ensures ∙ get_or_default s.known.items c.args.cell c.index-old.result.now None c.requires.known in
    let less = c.gets_less_by.ensures.0 c.if-gets_less_by.true in
    rw (c.insert_or_lower.ensures, c.write.ensures.known, c.write.ensures.queue)
    (improved_lower (standing s) c.args.cell c.args.label c.requires.known c.requires.queue (subst (λ o. IfSome o (λ l. c.args.label.value < l.value)) read less))

pub returns-else-gets_less_by : goal.returns-else-gets_less_by
returns-else-gets_less_by c =
    let s = c.args.self.now in
    let read = c.index-old.ensures ∙ get_or_default s.known.items c.args.cell c.index-old.result.now None c.requires.known in
    improved_not (standing s) c.args.cell c.args.label c.requires.known c.requires.queue
    (λ less. false≢true (sym c.if-gets_less_by.false ∙ c.gets_less_by.ensures.1 (subst (λ o. IfSome o (λ l. c.args.label.value < l.value)) (sym read) less)))
