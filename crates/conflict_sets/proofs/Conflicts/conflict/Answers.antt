-- What is found is in conflict, and what is in conflict is found.
use Rattle.std.proofs.Common.{◌∙◌}
use Rattle.taxi_base.proofs.Search.{is_ok-search}
use Rattle.taxi_base.specs.declared.numbers.Segment.{Segment}
use Rattle.conflict_sets.proofs.Members.{same_segment, has_member-conflicts}
use Rattle.conflict_sets.proofs.Conflicts.conflict.Goals as goal

pub returns-then-row-gt-SHORT : goal.returns-then-row-gt-SHORT
returns-then-row-gt-SHORT c =
    c.is_ok.ensures.value
    ∙ is_ok-search (λ (m : Segment). m.0) same_segment c.of-row.result.now c.args.t c.binary_search.result c.of-row.ensures.all.rising c.binary_search.ensures.bound c.binary_search.ensures.position
    ∙ has_member-conflicts c.args.self.now.sets c.args.s c.of-row.result.now c.args.t c.of-row.ensures.all

pub returns : goal.returns
returns c = c.has_member.ensures ∙ has_member-conflicts c.args.self.now.sets c.args.s c.of-row.result.now c.args.t c.of-row.ensures.all
