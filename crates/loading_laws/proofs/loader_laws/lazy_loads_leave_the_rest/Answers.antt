use Rattle.loading_laws.proofs.Loaders.Lazily.{lazy_leaves}
use Rattle.loading_laws.proofs.loader_laws.lazy_loads_leave_the_rest.Goals as goal

pub returns : goal.returns
returns c = lazy_leaves
