use Rattle.known_queries.proofs.Found.{fits_finds}
use Rattle.known_queries.proofs.fitting_expressions_find_columns.Goals as goal

pub returns : goal.returns
returns c = λ schema e scope fit. fits_finds schema e scope fit
