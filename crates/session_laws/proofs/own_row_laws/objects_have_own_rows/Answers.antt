use Rattle.session_laws.proofs.OwnRows.Standing.{own_rows}
use Rattle.session_laws.proofs.own_row_laws.objects_have_own_rows.Goals as goal

pub returns : goal.returns
returns c = own_rows
