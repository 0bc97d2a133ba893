use Rattle.loading_laws.proofs.Strategies.Lazy.{lazy_fills}
use Rattle.loading_laws.proofs.strategy_laws.lazy_loads_fill_what_is_related.Goals as goal

pub returns : goal.returns
returns c = λ mapped relation place owner all w after many stage waiting g. lazy_fills mapped relation place owner all w after many stage waiting g
