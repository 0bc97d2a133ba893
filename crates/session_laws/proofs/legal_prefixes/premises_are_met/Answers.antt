use Rattle.std.proofs.Common.{◌≡◌, Ok, refl}
use Rattle.schema_core.specs.Apply.{apply, delete_row, insert_rows, update_row}
use Rattle.schema_core.specs.Judged.{change_all, remove_all, write_all}
use Rattle.row_order.specs.Places.{cycle_from, first_places, least_left, next_blocker, next_place, order, order_or_cycle}
use Rattle.flush_order.specs.Sorted.{sorted_numbers}
use Rattle.flush_plan.specs.Flushing.{send, send_all}
use Rattle.flush_plan.specs.Planning.{plan}
use Rattle.session_laws.specs.Plans.Laws.{before}
use Rattle.session_laws.specs.Plans.Worked.{mixed_changes, mixed_keys, mixed_old, mixed_plan, mixed_rows, schema}
use Rattle.session_laws.proofs.Plans.Example.{its_placed, met, mixed_declared, mixed_formed, mixed_met, mixed_placed}
use Rattle.session_laws.proofs.legal_prefixes.premises_are_met.Goals as goal

-- the changes of all three kinds have this plan
mixed_planned : plan schema mixed_changes ≡ Ok mixed_plan
unfolding plan order_or_cycle order first_places next_place least_left cycle_from next_blocker sorted_numbers
mixed_planned = refl

-- and its statements leave these rows and keys
mixed_sent : send_all schema mixed_changes (Ok (before mixed_old)) mixed_plan ≡ Ok (record { tables = mixed_rows; keys = mixed_keys })
unfolding send apply delete_row insert_rows update_row change_all remove_all write_all
mixed_sent = refl

pub returns-clause-new : goal.returns-clause-new
returns-clause-new c = (its_placed, met)

pub returns-clause-late : goal.returns-clause-late
returns-clause-late c = (mixed_placed, mixed_met)

pub returns-clause-late_plan : goal.returns-clause-late_plan
returns-clause-late_plan c = mixed_planned

pub returns-clause-declared : goal.returns-clause-declared
returns-clause-declared c = mixed_declared

pub returns-clause-formed : goal.returns-clause-formed
returns-clause-formed c = mixed_formed

pub returns-clause-sent : goal.returns-clause-sent
returns-clause-sent c = mixed_sent
