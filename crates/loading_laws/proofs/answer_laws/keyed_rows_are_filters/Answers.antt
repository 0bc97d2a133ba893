use Rattle.loading_laws.proofs.Answers.Filters.{rows_of_key}
use Rattle.loading_laws.proofs.answer_laws.keyed_rows_are_filters.Goals as goal

pub returns : goal.returns
returns c = λ mapped class tables columns read key all rows reads is whole some. rows_of_key mapped class tables columns read key all rows reads is whole some
