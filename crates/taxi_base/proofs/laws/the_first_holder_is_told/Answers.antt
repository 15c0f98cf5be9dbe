use Rattle.taxi_base.proofs.HolderLaws.{holder_at-told, holder_at-none}
use Rattle.taxi_base.proofs.laws.the_first_holder_is_told.Goals as goal

pub returns-clause-told : goal.returns-clause-told
returns-clause-told c = λ airport state s t name ordered. holder_at-told airport state s t ordered name

pub returns-clause-none : goal.returns-clause-none
returns-clause-none c = holder_at-none
