use Rattle.session_laws.proofs.Projects.Apart.{switches_keep_apart}
use Rattle.session_laws.proofs.project_laws.switches_keep_rows_apart.Goals as goal

pub returns : goal.returns
returns c = switches_keep_apart
