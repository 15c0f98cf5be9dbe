use Rattle.certificate_check.proofs.PassedLate.{passed-entered, passed-flight, passed-party}
use Rattle.certificate_check.proofs.laws.repairs_that_pass_keep_what_was_entered.Goals as goal

pub returns-clause-entered : goal.returns-clause-entered
returns-clause-entered c = λ airport state line name time until block after flight begun sound is there e.
    passed-entered airport state sound line name time until block after is flight begun there e

pub returns-clause-flights : goal.returns-clause-flights
returns-clause-flights c = λ airport state line name time until block after delay flight sound is known there other clear.
    passed-flight airport state sound line name time until block after is delay known flight there other clear

pub returns-clause-parties : goal.returns-clause-parties
returns-clause-parties c = λ airport state line name time until block after delay party sound is known.
    passed-party airport state sound line name time until block after is delay known party
