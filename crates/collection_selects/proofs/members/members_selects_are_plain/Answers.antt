use Rattle.collection_selects.proofs.PairLemmas.{members_are_plain}
use Rattle.collection_selects.proofs.members.members_selects_are_plain.Goals as goal

pub returns : goal.returns
returns c = λ mapped relation key has related many fits. members_are_plain mapped relation key has related many fits
