use Rattle.loading_laws.proofs.Joined.Fills.{joined_fills}
use Rattle.loading_laws.proofs.joined_load_laws.joined_loads_fill_what_is_related.Goals as goal

pub returns : goal.returns
returns c = λ mapped query plain joined all answered w after row place owner joining many are g own. joined_fills mapped query plain joined all answered w after row place owner joining many are g own
