use Rattle.loading_laws.proofs.MainSelects.Main.{main_is_plain}
use Rattle.loading_laws.proofs.plain_selects.main_selects_are_plain.Goals as goal

pub returns : goal.returns
returns c = λ mapped query has relations less inside reads plain single few. main_is_plain mapped query has relations less inside reads plain single few
