use Rattle.loading_laws.proofs.Loaders.Statements.{selectin_asks}
use Rattle.loading_laws.proofs.loader_laws.selectin_loads_ask_in_batches.Goals as goal

pub returns : goal.returns
returns c = λ mapped relation place owners w after owned g. selectin_asks mapped relation place owners w after owned g
