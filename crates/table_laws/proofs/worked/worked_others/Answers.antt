use Rattle.std.proofs.Common.{refl}
use Rattle.schema_core.specs.Apply.{apply, delete_row, insert_rows, update_row}
use Rattle.schema_core.specs.Judged.{change_all, remove_all, write_all}
use Rattle.table_laws.proofs.worked.worked_others.Goals as goal

pub returns-clause-absent : goal.returns-clause-absent
unfolding apply delete_row insert_rows update_row change_all remove_all write_all
returns-clause-absent c = refl

pub returns-clause-deleted : goal.returns-clause-deleted
unfolding apply delete_row insert_rows update_row change_all remove_all write_all
returns-clause-deleted c = refl

pub returns-clause-referred : goal.returns-clause-referred
unfolding apply delete_row insert_rows update_row change_all remove_all write_all
returns-clause-referred c = refl

pub returns-clause-referred_elsewhere : goal.returns-clause-referred_elsewhere
unfolding apply delete_row insert_rows update_row change_all remove_all write_all
returns-clause-referred_elsewhere c = refl

pub returns-clause-missing : goal.returns-clause-missing
unfolding apply delete_row insert_rows update_row change_all remove_all write_all
returns-clause-missing c = refl

pub returns-clause-changed : goal.returns-clause-changed
unfolding apply delete_row insert_rows update_row change_all remove_all write_all
returns-clause-changed c = refl

pub returns-clause-dangling : goal.returns-clause-dangling
unfolding apply delete_row insert_rows update_row change_all remove_all write_all
returns-clause-dangling c = refl

pub returns-clause-update_unique : goal.returns-clause-update_unique
unfolding apply delete_row insert_rows update_row change_all remove_all write_all
returns-clause-update_unique c = refl

pub returns-clause-update_not_null : goal.returns-clause-update_not_null
unfolding apply delete_row insert_rows update_row change_all remove_all write_all
returns-clause-update_not_null c = refl
