use Rattle.loading_laws.proofs.Strategies.Batch.{selectin_fills}
use Rattle.loading_laws.proofs.strategy_laws.selectin_loads_fill_what_is_related.Goals as goal

pub returns : goal.returns
returns c = λ mapped relation place owners owner all w after many stage waiting among g. selectin_fills mapped relation place owners owner all w after many stage waiting among g
