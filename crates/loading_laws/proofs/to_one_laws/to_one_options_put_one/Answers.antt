use Rattle.loading_laws.proofs.ToOne.One.{options_put_one}
use Rattle.loading_laws.proofs.to_one_laws.to_one_options_put_one.Goals as goal

pub returns : goal.returns
returns c = options_put_one
