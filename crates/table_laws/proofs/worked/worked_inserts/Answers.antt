use Rattle.std.proofs.Common.{refl}
use Rattle.schema_core.specs.Apply.{apply, delete_row, insert_rows, update_row}
use Rattle.schema_core.specs.Judged.{change_all, remove_all, write_all}
use Rattle.table_laws.proofs.worked.worked_inserts.Goals as goal

pub returns-clause-not_null_first : goal.returns-clause-not_null_first
unfolding apply delete_row insert_rows update_row change_all remove_all write_all
returns-clause-not_null_first c = refl

pub returns-clause-keys_spent : goal.returns-clause-keys_spent
unfolding apply delete_row insert_rows update_row change_all remove_all write_all
returns-clause-keys_spent c = refl

pub returns-clause-first_key : goal.returns-clause-first_key
unfolding apply delete_row insert_rows update_row change_all remove_all write_all
returns-clause-first_key c = refl

pub returns-clause-next_key : goal.returns-clause-next_key
unfolding apply delete_row insert_rows update_row change_all remove_all write_all
returns-clause-next_key c = refl

pub returns-clause-primary_key : goal.returns-clause-primary_key
unfolding apply delete_row insert_rows update_row change_all remove_all write_all
returns-clause-primary_key c = refl

pub returns-clause-null_in_unique : goal.returns-clause-null_in_unique
unfolding apply delete_row insert_rows update_row change_all remove_all write_all
returns-clause-null_in_unique c = refl

pub returns-clause-unique : goal.returns-clause-unique
unfolding apply delete_row insert_rows update_row change_all remove_all write_all
returns-clause-unique c = refl

pub returns-clause-self_reference : goal.returns-clause-self_reference
unfolding apply delete_row insert_rows update_row change_all remove_all write_all
returns-clause-self_reference c = refl

pub returns-clause-foreign : goal.returns-clause-foreign
unfolding apply delete_row insert_rows update_row change_all remove_all write_all
returns-clause-foreign c = refl

pub returns-clause-no_table : goal.returns-clause-no_table
unfolding apply delete_row insert_rows update_row change_all remove_all write_all
returns-clause-no_table c = refl

pub returns-clause-composite : goal.returns-clause-composite
unfolding apply delete_row insert_rows update_row change_all remove_all write_all
returns-clause-composite c = refl

pub returns-clause-composite_key : goal.returns-clause-composite_key
unfolding apply delete_row insert_rows update_row change_all remove_all write_all
returns-clause-composite_key c = refl
