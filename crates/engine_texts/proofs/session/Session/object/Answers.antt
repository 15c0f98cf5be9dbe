use Rattle.std.proofs.Common.{◌≡◌, ◌∙◌, ◌-◌, [], ℕ, Bool, List, Option, Some, IfOk, IfSome, MatchOption, length, arith, sym, ap, subst}
use Rattle.std.specs.Prelude.{Vec, slice_get}
use Rattle.std.specs.declared.alloc.Global.{Global}
use Rattle.std.proofs.lemmas.List.{length-map}
use Rattle.taxi_base.specs.Airport.{Airport}
use Rattle.replies.specs.Printable.{IsPrintable}
use Rattle.replies.specs.Texts.{block_text}
use Rattle.block_reader.specs.Read.{IsBlockText}
use Rattle.reply_json.specs.Lines.{object_line}
use Rattle.engine_texts.specs.Log.{lines_in, last_of}
use Rattle.engine_texts.specs.Session.{SessionState, log_of}
use Rattle.engine_texts.specs.Texts.{IsObject, IsObjectOf}
use Rattle.engine_texts.proofs.Runs.{ok-map, last-map}
use Rattle.engine_texts.proofs.session.Session.object.Goals as goal

-- the reply is the text of the block that answered the last line
pub returns-in-Some : goal.returns-in-Some
returns-in-Some c =
    let inside = c.self.inside in
    let engine = inside.engine in
    let whole = c.if-not-self.false in
    let lines = lines_in inside.log.lines in
    let line = c.in-Some.line.now in
    let at : Some line ≡ slice_get inside.log.lines.items (length inside.log.lines.items - 1) =
    subst (λ (l : List (Vec ℕ Global)). Some line ≡ slice_get l (length l - 1)) c.deref.ensures.value c.in-Some.ensures.value in
    let last : last_of lines ≡ Some line.items = last-map inside.log.lines.items line at in
    let read : IsBlockText engine.airport engine.reply = subst (λ (o : Option (List ℕ)). IfSome o (λ l. IsBlockText engine.airport engine.reply)) last (c.self.invariant.logged whole).reply in
    let block = read.0 in
    let airport = c.airport-airport.ensures.airport in
    let told = c.object_text.ensures block (subst (λ (a : Airport). IsPrintable a block) (sym airport) read.1) (c.reply-reply.ensures ∙ read.2 ∙ ap (λ (a : Airport). block_text a block) (sym airport)) in
    let number = c.len-command.ensures in
    let long = c.deref.ensures.len in
    let same = ap (λ (l : List (Vec ℕ Global)). length l) c.deref.ensures.value in
    let each = length-map inside.log.lines.items (λ (l : Vec ℕ Global). l.items) in
    let count : c.len-command.result ≡ length lines = omega (arith, number, long, same, each) in
    let session : SessionState = record { engine = engine; log = log_of inside.whole lines; told = inside.told.items } in
    subst (λ (s : SessionState). IfOk c.object_text.result (λ text. IsObject s c.args.number text.items)) c.self.view_is
    (ok-map c.object_text.result (λ text. text.items ≡ object_line c.airport-airport.result.now c.len-command.result c.args.number c.as_slice.result.now block) (λ text. IsObject session c.args.number text.items)
    (λ text is. record {
      commands = lines;
      logged = ap (λ (w : Bool). log_of w lines) whole;
      object = subst (λ (o : Option (List ℕ)). MatchOption o (text.items ≡ []) (λ l. IsObjectOf session c.args.number (length lines) l text.items)) (sym last)
          (record {
            block = block;
            printable = read.1;
            reply = read.2;
            whole = is ∙ (λ i. object_line (airport i) (count i) c.args.number (c.as_slice.ensures.value i) block);
          });
    }) told)
