use Rattle.loading_laws.proofs.Loaders.Lazily.{links_read}
use Rattle.loading_laws.proofs.loader_laws.links_read_lazily.Goals as goal

pub returns : goal.returns
returns c = λ mapped relation links place owner all w after stage can there ready rows unloaded agrees g. links_read mapped relation place owner all w stage ready rows unloaded links after can there agrees g
