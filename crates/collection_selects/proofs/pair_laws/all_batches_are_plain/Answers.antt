use Rattle.collection_selects.proofs.Pairs.Plainness.{batch_is_plain}
use Rattle.collection_selects.proofs.pair_laws.all_batches_are_plain.Goals as goal

pub returns : goal.returns
returns c = λ mapped relation keys has related many some fit. batch_is_plain mapped relation keys has related many some fit
