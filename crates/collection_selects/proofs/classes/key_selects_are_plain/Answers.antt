use Rattle.collection_selects.proofs.ClassLemmas.{key_is_plain}
use Rattle.collection_selects.proofs.classes.key_selects_are_plain.Goals as goal

pub returns : goal.returns
returns c = λ mapped class key has less fits. key_is_plain mapped class key has less fits
