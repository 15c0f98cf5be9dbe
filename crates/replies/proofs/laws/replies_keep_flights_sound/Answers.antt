use Rattle.replies.proofs.ReplyLaws.{IsAnswered-sound, carried_out-kept}
use Rattle.replies.proofs.laws.replies_keep_flights_sound.Goals as goal

pub returns-clause-replies : goal.returns-clause-replies
returns-clause-replies c = λ airport state line block after sound reply. let answered = IsAnswered-sound airport state line block after sound reply in (answered, answered.sound)

pub returns-clause-carried_out : goal.returns-clause-carried_out
returns-clause-carried_out c = λ airport state command block after sound count none done. let kept = carried_out-kept airport state sound command block after count none done in (kept.as_it_says, kept.stays_sound)
