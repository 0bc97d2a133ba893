use Rattle.table_laws.proofs.Savepoints.{restores}
use Rattle.table_laws.proofs.savepoint_laws.rollback_to_restores.Goals as goal

pub returns : goal.returns
returns c = restores
