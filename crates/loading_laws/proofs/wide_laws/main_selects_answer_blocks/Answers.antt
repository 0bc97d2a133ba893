use Rattle.loading_laws.proofs.Wide.Blocks.{main_in_blocks}
use Rattle.loading_laws.proofs.wide_laws.main_selects_answer_blocks.Goals as goal

pub returns : goal.returns
returns c = λ mapped tables query can cuts. main_in_blocks mapped tables query can cuts
