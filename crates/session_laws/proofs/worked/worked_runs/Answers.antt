use Rattle.std.proofs.Common.{refl}
use Rattle.row_order.specs.Places.{cycle_from, first_places, least_left, next_blocker, next_place, order, order_or_cycle}
use Rattle.flush_order.specs.Sorted.{sorted_numbers}
use Rattle.flush_plan.specs.Planning.{plan}
use Rattle.session_laws.proofs.worked.worked_runs.Goals as goal

pub returns-clause-together : goal.returns-clause-together
unfolding plan order_or_cycle order first_places next_place least_left cycle_from next_blocker sorted_numbers
returns-clause-together c = refl

pub returns-clause-reference : goal.returns-clause-reference
unfolding plan order_or_cycle order first_places next_place least_left cycle_from next_blocker sorted_numbers
returns-clause-reference c = refl

pub returns-clause-third : goal.returns-clause-third
unfolding plan order_or_cycle order first_places next_place least_left cycle_from next_blocker sorted_numbers
returns-clause-third c = refl

pub returns-clause-keys : goal.returns-clause-keys
unfolding plan order_or_cycle order first_places next_place least_left cycle_from next_blocker sorted_numbers
returns-clause-keys c = refl
