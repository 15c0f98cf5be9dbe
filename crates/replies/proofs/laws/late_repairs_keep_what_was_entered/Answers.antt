use Rattle.replies.proofs.LateKept.{told-entered, told-flight, told-party}
use Rattle.replies.proofs.laws.late_repairs_keep_what_was_entered.Goals as goal

pub returns-clause-entered : goal.returns-clause-entered
returns-clause-entered c = λ airport state name time until block after flight begun sound none done there e.
    told-entered airport state sound name time until block after none done flight begun there e

pub returns-clause-flights : goal.returns-clause-flights
returns-clause-flights c = λ airport state name time until block after delay flight sound none done known there other clear.
    told-flight airport state sound name time until block after none done delay known flight there other clear

pub returns-clause-parties : goal.returns-clause-parties
returns-clause-parties c = λ airport state name time until block after delay party sound none done known.
    told-party airport state sound name time until block after none done delay known party
