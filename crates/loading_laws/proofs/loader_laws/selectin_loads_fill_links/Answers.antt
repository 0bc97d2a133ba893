use Rattle.loading_laws.proofs.Loaders.Loads.{selectin_links}
use Rattle.loading_laws.proofs.loader_laws.selectin_loads_fill_links.Goals as goal

pub returns : goal.returns
returns c = λ mapped relation place owners owner all w after stage rows ready among unloaded agrees g. selectin_links mapped relation place owners owner all w after stage rows ready among unloaded agrees g
