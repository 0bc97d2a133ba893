use Rattle.mapping_laws.proofs.Told.{tells_apart}
use Rattle.mapping_laws.proofs.hierarchies.discriminators_tell_apart.Goals as goal

pub returns : goal.returns
returns c = λ mapped class has less bare. tells_apart mapped class has less bare
