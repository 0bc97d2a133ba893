use Rattle.loading_laws.proofs.Strategies.Paired.{pair_alike}
use Rattle.loading_laws.proofs.strategy_laws.strategies_pair_alike.Goals as goal

pub returns : goal.returns
returns c = λ mapped relation far place owners owner all w lazy together stage holding among g h. pair_alike mapped relation far place owners owner all w lazy together stage holding among g h
