use Rattle.loading_laws.proofs.Strategies.Paired.{lazy_fills_pairs}
use Rattle.loading_laws.proofs.strategy_laws.lazy_loads_fill_pairs.Goals as goal

pub returns : goal.returns
returns c = λ mapped relation far place owner all w after stage holding g. lazy_fills_pairs mapped relation far place owner all w after stage holding g
