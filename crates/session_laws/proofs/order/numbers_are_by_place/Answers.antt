use Rattle.session_laws.proofs.Plans.ByPlace.{numbers_are, only_numbers}
use Rattle.session_laws.proofs.order.numbers_are_by_place.Goals as goal

pub returns-clause-holds : goal.returns-clause-holds
returns-clause-holds c = numbers_are

pub returns-clause-only : goal.returns-clause-only
returns-clause-only c = only_numbers
