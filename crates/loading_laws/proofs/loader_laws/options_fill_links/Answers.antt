use Rattle.loading_laws.proofs.Loaders.Options.{options_links}
use Rattle.loading_laws.proofs.loader_laws.options_fill_links.Goals as goal

pub returns : goal.returns
returns c = λ mapped class places place objects owner all w after stage less inside there answered rows held among unloaded agrees g. options_links mapped class places place objects owner all w after stage less inside there answered rows held among unloaded agrees g
