use Rattle.std.proofs.Common.{◌≤◌, ◌++◌, ◌∙◌, List, length, ap}
use Rattle.std.specs.Prelude.{flat_map}
use Rattle.std.proofs.lemmas.List.{take_all}
use Rattle.taxi_base.specs.declared.answers.Party.{Party}
use Rattle.replies.specs.Texts.{line_text}
use Rattle.checkpoint_file.specs.Lines.{work_words}
use Rattle.checkpoint_file.proofs.Pieces.{place-more}
use Rattle.checkpoint_file.proofs.write.write_parties.Goals as goal

pub loop-place-preserved : goal.loop-place-preserved
loop-place-preserved c =
    place-more (λ party. line_text (work_words c.args.airport.now party)) c.args.ledger.now.state.parties c.loop-place.place c.party_at.result _ _ _
    c.party_at.ensures c.loop-place.invariant c.in_ok-write_party.ensures

pub returns : goal.returns
returns c =
    let past : length c.args.ledger.now.state.parties ≤ c.loop-place.place = rw c.parties-place-end.ensures.count at c.loop-place-test.false in
    c.loop-place.invariant
    ∙ ap (λ (parties : List Party). c.args.out.now.items ++ flat_map (λ party. line_text (work_words c.args.airport.now party)) parties)
    (take_all c.loop-place.place c.args.ledger.now.state.parties past)
