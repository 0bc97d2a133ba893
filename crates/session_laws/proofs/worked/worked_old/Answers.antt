use Rattle.std.proofs.Common.{refl}
use Rattle.row_order.specs.Places.{cycle_from, first_places, least_left, next_blocker, next_place, order, order_or_cycle}
use Rattle.flush_order.specs.Sorted.{sorted_numbers}
use Rattle.flush_plan.specs.Planning.{plan}
use Rattle.session_laws.proofs.worked.worked_old.Goals as goal

pub returns-clause-referred : goal.returns-clause-referred
unfolding plan order_or_cycle order first_places next_place least_left cycle_from next_blocker sorted_numbers
returns-clause-referred c = refl

pub returns-clause-referring : goal.returns-clause-referring
unfolding plan order_or_cycle order first_places next_place least_left cycle_from next_blocker sorted_numbers
returns-clause-referring c = refl

pub returns-clause-changed : goal.returns-clause-changed
unfolding plan order_or_cycle order first_places next_place least_left cycle_from next_blocker sorted_numbers
returns-clause-changed c = refl

pub returns-clause-changed_late : goal.returns-clause-changed_late
unfolding plan order_or_cycle order first_places next_place least_left cycle_from next_blocker sorted_numbers
returns-clause-changed_late c = refl
