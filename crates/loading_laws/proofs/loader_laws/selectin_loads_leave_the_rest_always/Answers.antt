use Rattle.loading_laws.proofs.Loaders.Refused.{selectin_leaves_always}
use Rattle.loading_laws.proofs.loader_laws.selectin_loads_leave_the_rest_always.Goals as goal

pub returns : goal.returns
returns c = λ mapped relation place owners w stage owned. selectin_leaves_always mapped relation place owners w stage owned
