use Rattle.std.proofs.Common.{◌≡◌, ◌∙◌, ap, subst}
use Rattle.std.specs.Prelude.{OnOk}
use Rattle.replies.specs.declared.block.Block.TheVariants.{Windows}
use Rattle.replies.specs.Texts.{block_text}
use Rattle.window_store.specs.Store.{spans_at}
use Rattle.taxi_engine.proofs.Told.{windows-told}
use Rattle.taxi_engine.proofs.windows.print_windows.Goals as goal

pub returns : goal.returns
returns c =
    let segment = c.args.segment in
    let told = c.in_ok-windows.ensures ∙ ap (λ store. spans_at store segment) c.store.ensures ∙ windows-told c.args.airport.now c.args.ledger.now segment c.requires.fits c.requires.unlifted c.requires.exists in
    subst (λ windows. OnOk c.print.result (c.print.new.self ≡ block_text c.args.airport.now (Windows segment windows))) told c.print.ensures
