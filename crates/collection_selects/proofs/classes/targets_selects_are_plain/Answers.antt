use Rattle.collection_selects.proofs.ClassLemmas.{targets_are_plain}
use Rattle.collection_selects.proofs.classes.targets_selects_are_plain.Goals as goal

pub returns : goal.returns
returns c = λ mapped class keys has less some fit. targets_are_plain mapped class keys has less some fit
