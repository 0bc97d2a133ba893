use Rattle.mapping_laws.proofs.Ties.{class_tables}
use Rattle.mapping_laws.proofs.KeyKinds.{keys_alike}
use Rattle.mapping_laws.proofs.keys.keys_are_of_roots.Goals as goal

pub returns : goal.returns
returns c = λ mapped class key has less. keys_alike mapped class key has (class_tables mapped class has less)
