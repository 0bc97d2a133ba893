use Rattle.loading_laws.proofs.MainSelects.Unjoined.{plain_load}
use Rattle.loading_laws.proofs.plain_loads.loads_are_plain.Goals as goal

pub returns : goal.returns
returns c = λ mapped query world none. plain_load mapped query world none
