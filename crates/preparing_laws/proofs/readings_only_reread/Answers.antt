use Rattle.preparing_laws.proofs.Going.{only_reread}
use Rattle.preparing_laws.proofs.readings_only_reread.Goals as goal

pub returns : goal.returns
returns c = only_reread
