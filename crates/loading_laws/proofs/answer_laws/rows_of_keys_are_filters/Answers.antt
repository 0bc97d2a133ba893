use Rattle.loading_laws.proofs.Answers.Filters.{rows_of_keys}
use Rattle.loading_laws.proofs.answer_laws.rows_of_keys_are_filters.Goals as goal

pub returns : goal.returns
returns c = λ mapped class tables columns read keys all rows reads are whole some. rows_of_keys mapped class tables columns read keys all rows reads are whole some
