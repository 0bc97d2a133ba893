use Rattle.loading_laws.proofs.TiedRows.Joined.{options_give_tied as give_tied}
use Rattle.loading_laws.proofs.tied_row_laws.options_give_tied.Goals as goal

pub returns : goal.returns
returns c = give_tied
