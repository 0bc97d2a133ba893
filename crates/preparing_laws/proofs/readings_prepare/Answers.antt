use Rattle.preparing_laws.proofs.Done.{readings_prepare_law}
use Rattle.preparing_laws.proofs.readings_prepare.Goals as goal

pub returns : goal.returns
returns c = readings_prepare_law
