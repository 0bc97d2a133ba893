use Rattle.keeper_core.specs.declared.sent.Sent.TheVariants as sent
use Rattle.keeper_core.specs.Calls as call
use Rattle.keeper_core.specs.Keeping.{RefusesBulk, RefusesRow, RefusesSelect}
use Rattle.schema_core.specs.Tables.{AreAscending}
use Rattle.table_laws.proofs.Accepted.{keeps_bulk_ascending}
use Rattle.table_laws.proofs.EachCall.{keeps_query, write_ascends}
use Rattle.table_laws.proofs.Telling.{attached_ascends, told_called, told_stated}
use Rattle.table_laws.proofs.told.what_is_told_stays_ascending.Goals as goal

pub returns-clause-attached : goal.returns-clause-attached
returns-clause-attached g c = λ target old new is. attached_ascends target (g.K.Keeper.moment old) (g.K.Keeper.moment new) is

pub returns-clause-called : goal.returns-clause-called
returns-clause-called g c = λ m scopes old new result keeps held did.
    told_called AreAscending g.K.Keeper.moment m scopes old new result keeps (g.met.K.Keeper.coherent old) (g.met.K.Keeper.coherent new) held did

pub returns-clause-written : goal.returns-clause-written
returns-clause-written g c = λ schema statement old new result held did.
    told_stated AreAscending g.K.Keeper.moment (call.write schema statement) (sent.Write statement) (RefusesRow statement) old new result (write_ascends schema statement) (g.met.K.Keeper.coherent old) (g.met.K.Keeper.coherent new) held did

pub returns-clause-bulk : goal.returns-clause-bulk
returns-clause-bulk g c = λ schema statement old new result held did.
    told_stated AreAscending g.K.Keeper.moment (call.bulk schema statement) (sent.Bulk statement) (RefusesBulk schema statement) old new result (keeps_bulk_ascending schema statement) (g.met.K.Keeper.coherent old) (g.met.K.Keeper.coherent new) held did

pub returns-clause-queried : goal.returns-clause-queried
returns-clause-queried g c = λ schema select old new result held did.
    told_stated AreAscending g.K.Keeper.moment (call.query schema select) (sent.Query select) (RefusesSelect schema select) old new result (keeps_query AreAscending schema select) (g.met.K.Keeper.coherent old) (g.met.K.Keeper.coherent new) held did
