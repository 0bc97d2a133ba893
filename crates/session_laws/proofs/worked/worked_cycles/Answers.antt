use Rattle.std.proofs.Common.{refl}
use Rattle.row_order.specs.Places.{cycle_from, first_places, least_left, next_blocker, next_place, order, order_or_cycle}
use Rattle.flush_order.specs.Sorted.{sorted_numbers}
use Rattle.flush_plan.specs.Planning.{plan}
use Rattle.session_laws.proofs.worked.worked_cycles.Goals as goal

pub returns-clause-itself : goal.returns-clause-itself
unfolding plan order_or_cycle order first_places next_place least_left cycle_from next_blocker sorted_numbers
returns-clause-itself c = refl

pub returns-clause-late : goal.returns-clause-late
unfolding plan order_or_cycle order first_places next_place least_left cycle_from next_blocker sorted_numbers
returns-clause-late c = refl

pub returns-clause-three : goal.returns-clause-three
unfolding plan order_or_cycle order first_places next_place least_left cycle_from next_blocker sorted_numbers
returns-clause-three c = refl

pub returns-clause-beyond : goal.returns-clause-beyond
unfolding plan order_or_cycle order first_places next_place least_left cycle_from next_blocker sorted_numbers
returns-clause-beyond c = refl

pub returns-clause-least : goal.returns-clause-least
unfolding plan order_or_cycle order first_places next_place least_left cycle_from next_blocker sorted_numbers
returns-clause-least c = refl
