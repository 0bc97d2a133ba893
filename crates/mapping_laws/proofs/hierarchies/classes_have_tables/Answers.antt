use Rattle.mapping_laws.proofs.Ties.{class_tables}
use Rattle.mapping_laws.proofs.hierarchies.classes_have_tables.Goals as goal

pub returns : goal.returns
returns c = λ mapped class has less. class_tables mapped class has less
