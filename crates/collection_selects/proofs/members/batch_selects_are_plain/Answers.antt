use Rattle.collection_selects.proofs.MemberLemmas.{batches_are_plain}
use Rattle.collection_selects.proofs.members.batch_selects_are_plain.Goals as goal

pub returns : goal.returns
returns c = λ mapped relation keys has related many far some fit. batches_are_plain mapped relation keys has related many far some fit
