use Rattle.collection_selects.proofs.ClassLemmas.{cells_are_plain}
use Rattle.collection_selects.proofs.classes.cells_selects_are_plain.Goals as goal

pub returns : goal.returns
returns c = λ mapped class attrs key has less there fits. cells_are_plain mapped class attrs key has less there fits
