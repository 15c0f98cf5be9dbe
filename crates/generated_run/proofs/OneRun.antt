-- Over the same lines there is one run in which memory runs out for no command, so there is one summary.
use Rattle.std.proofs.Common.{◌≡◌, ◌∙◌, ℕ, List, sym, ap}
use Rattle.taxi_base.specs.Airport.{Airport, IsWellFormed}
use Rattle.taxi_base.specs.State.{no_holder}
use Rattle.transcripts.proofs.OneRun.{run-one}
use Rattle.generated_run.specs.declared.summary.Summary.{Summary}
use Rattle.generated_run.specs.Summaries.{IsSummaryOf, summary_of}

pub summary-one : (airport : Airport) (lines : List (List ℕ)) (one other : Summary) → IsWellFormed airport
    → IsSummaryOf airport lines one → IsSummaryOf airport lines other → one ≡ other
summary-one airport lines one other well a b =
    a.counted ∙ ap (summary_of airport) (run-one airport no_holder lines a.blocks b.blocks a.after b.after well a.run b.run a.found_memory b.found_memory).0 ∙ sym b.counted
