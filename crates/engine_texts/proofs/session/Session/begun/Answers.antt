use Rattle.std.proofs.Common.{◌≡◌, [], ℕ, List, IfSome, sym, subst}
use Rattle.std.proofs.lemmas.List.Elements.{All-nil}
use Rattle.block_reader.specs.Read.{IsBlockText}
use Rattle.command_run.specs.Supplied.{FoundMemory, IsKeptRun}
use Rattle.run_figures.specs.Counts.{AreCounts}
use Rattle.engine_texts.specs.Log.{last_of}
use Rattle.engine_texts.proofs.session.Session.begun.Goals as goal

-- no line is answered yet
pub invariant_of-result : goal.invariant_of-result
invariant_of-result c =
    let engine = c.args.engine in
    let counts = c.args.beginning.log.counts in
    let none : IsKeptRun engine.airport [] engine.state (λ blocks. AreCounts engine.airport blocks counts) =
    record { run = record { blocks = []; run = c.requires.state; found_memory = All-nil FoundMemory }; kept = c.requires.empty.counts engine.airport } in
    record {
      few = c.requires.few;
      airport = c.requires.airport;
      logged = λ whole. record {
        run = subst (λ (lines : List (List ℕ)). IsKeptRun engine.airport lines engine.state (λ blocks. AreCounts engine.airport blocks counts)) (sym c.requires.empty.lines) none;
        reply = subst (λ (lines : List (List ℕ)). IfSome (last_of lines) (λ line. IsBlockText engine.airport engine.reply)) (sym c.requires.empty.lines) tt;
      };
    }
