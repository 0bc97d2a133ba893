use Rattle.std.proofs.Common.{refl}
use Rattle.schema_core.specs.Apply.{apply, insert_rows}
use Rattle.schema_core.specs.Judged.{write_all}
use Rattle.table_laws.proofs.worked.worked_many.Goals as goal

pub returns-clause-next_keys : goal.returns-clause-next_keys
unfolding apply insert_rows write_all
returns-clause-next_keys c = refl

pub returns-clause-spent_later : goal.returns-clause-spent_later
unfolding apply insert_rows write_all
returns-clause-spent_later c = refl

pub returns-clause-rows_order : goal.returns-clause-rows_order
unfolding apply insert_rows write_all
returns-clause-rows_order c = refl

pub returns-clause-key_twice : goal.returns-clause-key_twice
unfolding apply insert_rows write_all
returns-clause-key_twice c = refl

pub returns-clause-not_null_first : goal.returns-clause-not_null_first
unfolding apply insert_rows write_all
returns-clause-not_null_first c = refl

pub returns-clause-unique_twice : goal.returns-clause-unique_twice
unfolding apply insert_rows write_all
returns-clause-unique_twice c = refl

pub returns-clause-later_row : goal.returns-clause-later_row
unfolding apply insert_rows write_all
returns-clause-later_row c = refl
