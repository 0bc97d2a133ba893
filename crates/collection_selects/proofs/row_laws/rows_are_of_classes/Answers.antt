use Rattle.collection_selects.proofs.Rows.{are_rows}
use Rattle.collection_selects.proofs.row_laws.rows_are_of_classes.Goals as goal

pub returns : goal.returns
returns c = λ mapped class conditions rows has less kinds given. are_rows mapped class conditions rows has less kinds given
