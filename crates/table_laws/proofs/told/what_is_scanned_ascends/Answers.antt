use Rattle.table_laws.proofs.Scanned.{scan_ascends}
use Rattle.table_laws.proofs.told.what_is_scanned_ascends.Goals as goal

pub returns : goal.returns
returns g c = λ schema table rows told old new is legal did. scan_ascends g.K.Keeper.moment schema table rows told old new is legal did
