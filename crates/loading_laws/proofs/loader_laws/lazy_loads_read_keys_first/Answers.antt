use Rattle.loading_laws.proofs.Loaders.Expired.{lazy_reads_first}
use Rattle.loading_laws.proofs.loader_laws.lazy_loads_read_keys_first.Goals as goal

pub returns : goal.returns
returns c = λ mapped relation place owner all w after stage rows owned single unloaded expired g. lazy_reads_first mapped relation place owner all w after stage rows owned single unloaded expired g
