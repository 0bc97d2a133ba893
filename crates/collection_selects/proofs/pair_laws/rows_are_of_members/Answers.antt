use Rattle.collection_selects.proofs.Pairs.Rows.{batch_rows_are_members}
use Rattle.collection_selects.proofs.pair_laws.rows_are_of_members.Goals as goal

pub returns : goal.returns
returns c = λ mapped relation keys rows has related kinds given. batch_rows_are_members mapped relation keys rows has related kinds given
