use Rattle.keeper_core.specs.declared.sent.Sent.TheVariants as sent
use Rattle.keeper_core.specs.Calls as call
use Rattle.keeper_core.specs.Keeping.{RefusesBulk, RefusesRow, RefusesSelect}
use Rattle.table_laws.specs.Legality.{AreSound}
use Rattle.table_laws.proofs.Accepted.{keeps_bulk_legal}
use Rattle.table_laws.proofs.Dropped.{no_tables_sound}
use Rattle.table_laws.proofs.EachCall.{keeps_query, write_legal}
use Rattle.table_laws.proofs.Telling.{told_attached, told_called, told_stated}
use Rattle.table_laws.proofs.told.what_is_told_stays_legal.Goals as goal

pub returns-clause-attached : goal.returns-clause-attached
returns-clause-attached g c = λ schema old new is. told_attached (AreSound schema) (g.K.Keeper.moment old) (g.K.Keeper.moment new) (no_tables_sound schema) is

pub returns-clause-called : goal.returns-clause-called
returns-clause-called g c = λ schema m scopes old new result keeps held did.
    told_called (AreSound schema) g.K.Keeper.moment m scopes old new result keeps (g.met.K.Keeper.coherent old) (g.met.K.Keeper.coherent new) held did

pub returns-clause-written : goal.returns-clause-written
returns-clause-written g c = λ schema statement old new result well held did.
    told_stated (AreSound schema) g.K.Keeper.moment (call.write schema statement) (sent.Write statement) (RefusesRow statement) old new result (write_legal schema statement well) (g.met.K.Keeper.coherent old) (g.met.K.Keeper.coherent new) held did

pub returns-clause-bulk : goal.returns-clause-bulk
returns-clause-bulk g c = λ schema statement old new result plain held did.
    told_stated (AreSound schema) g.K.Keeper.moment (call.bulk schema statement) (sent.Bulk statement) (RefusesBulk schema statement) old new result (keeps_bulk_legal schema statement plain) (g.met.K.Keeper.coherent old) (g.met.K.Keeper.coherent new) held did

pub returns-clause-queried : goal.returns-clause-queried
returns-clause-queried g c = λ schema select old new result held did.
    told_stated (AreSound schema) g.K.Keeper.moment (call.query schema select) (sent.Query select) (RefusesSelect schema select) old new result (keeps_query (AreSound schema) schema select) (g.met.K.Keeper.coherent old) (g.met.K.Keeper.coherent new) held did
