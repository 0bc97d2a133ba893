use Rattle.loading_laws.proofs.Wide.Main.{main_multiplies, of_plain}
use Rattle.loading_laws.proofs.wide_laws.main_selects_multiply.Goals as goal

pub returns : goal.returns
returns c = λ mapped tables query can. main_multiplies mapped tables query (of_plain mapped tables query can)
