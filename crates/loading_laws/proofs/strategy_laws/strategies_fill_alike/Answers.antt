use Rattle.loading_laws.proofs.Strategies.Batch.{agree}
use Rattle.loading_laws.proofs.strategy_laws.strategies_fill_alike.Goals as goal

pub returns : goal.returns
returns c = λ mapped relation place owners owner all w lazy together many stage waiting among g h. agree mapped relation place owners owner all w lazy together many stage waiting among g h
