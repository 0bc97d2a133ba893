use Rattle.loading_laws.proofs.Loaders.Loads.{both_agree}
use Rattle.loading_laws.proofs.loader_laws.loaders_agree.Goals as goal

pub returns : goal.returns
returns c = λ mapped relation place owners owner all w lazy after stage rows ready among unloaded g h. both_agree mapped relation place owners owner all w lazy after stage rows ready among unloaded g h
