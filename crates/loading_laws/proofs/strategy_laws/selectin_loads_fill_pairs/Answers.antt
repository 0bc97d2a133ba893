use Rattle.loading_laws.proofs.Strategies.Paired.{selectin_fills_pairs}
use Rattle.loading_laws.proofs.strategy_laws.selectin_loads_fill_pairs.Goals as goal

pub returns : goal.returns
returns c = λ mapped relation far place owners owner all w after stage holding among g. selectin_fills_pairs mapped relation far place owners owner all w after stage holding among g
