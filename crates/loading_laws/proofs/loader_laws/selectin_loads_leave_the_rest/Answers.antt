use Rattle.loading_laws.proofs.Loaders.Options.{selectin_leaves}
use Rattle.loading_laws.proofs.loader_laws.selectin_loads_leave_the_rest.Goals as goal

pub returns : goal.returns
returns c = λ mapped relation place owners w after stage owned g. selectin_leaves mapped relation place owners w after stage owned g
