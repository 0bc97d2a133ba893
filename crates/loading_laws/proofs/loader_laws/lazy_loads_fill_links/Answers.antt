use Rattle.loading_laws.proofs.Loaders.Loads.{lazy_links}
use Rattle.loading_laws.proofs.loader_laws.lazy_loads_fill_links.Goals as goal

pub returns : goal.returns
returns c = λ mapped relation place owner all w after stage rows ready unloaded agrees g. lazy_links mapped relation place owner all w after stage rows ready unloaded agrees g
