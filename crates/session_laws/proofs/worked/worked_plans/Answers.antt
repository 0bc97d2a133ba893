use Rattle.std.proofs.Common.{refl}
use Rattle.schema_core.specs.Apply.{apply, delete_row, insert_rows, update_row}
use Rattle.schema_core.specs.Judged.{change_all, remove_all, write_all}
use Rattle.row_order.specs.Places.{cycle_from, first_places, least_left, next_blocker, next_place, order, order_or_cycle}
use Rattle.flush_order.specs.Sorted.{sorted_numbers}
use Rattle.flush_plan.specs.Flushing.{send}
use Rattle.flush_plan.specs.Planning.{plan}
use Rattle.flush_plan.specs.Stating.{all_placed, with_edit, place_new, stated_tables}
use Rattle.session_laws.proofs.worked.worked_plans.Goals as goal

pub returns-clause-cycle : goal.returns-clause-cycle
unfolding plan order_or_cycle order first_places next_place least_left cycle_from next_blocker sorted_numbers
returns-clause-cycle c = refl

pub returns-clause-late_link : goal.returns-clause-late_link
unfolding plan order_or_cycle order first_places next_place least_left cycle_from next_blocker sorted_numbers
returns-clause-late_link c = refl

pub returns-clause-known_key : goal.returns-clause-known_key
unfolding plan order_or_cycle order first_places next_place least_left cycle_from next_blocker sorted_numbers
returns-clause-known_key c = refl

pub returns-clause-tie : goal.returns-clause-tie
unfolding plan order_or_cycle order first_places next_place least_left cycle_from next_blocker sorted_numbers
returns-clause-tie c = refl

pub returns-clause-cleared : goal.returns-clause-cleared
unfolding plan order_or_cycle order first_places next_place least_left cycle_from next_blocker sorted_numbers
returns-clause-cleared c = refl

pub returns-clause-gone_cycle : goal.returns-clause-gone_cycle
unfolding plan order_or_cycle order first_places next_place least_left cycle_from next_blocker sorted_numbers
returns-clause-gone_cycle c = refl

pub returns-clause-sent : goal.returns-clause-sent
unfolding send apply delete_row insert_rows update_row change_all remove_all write_all
returns-clause-sent c = refl

pub returns-clause-states : goal.returns-clause-states
unfolding stated_tables all_placed place_new with_edit
returns-clause-states c = refl

pub returns-clause-states_gone : goal.returns-clause-states_gone
unfolding stated_tables all_placed place_new with_edit
returns-clause-states_gone c = refl
