use Rattle.select_laws.proofs.KeptPlain.{normal_is_plain}
use Rattle.select_laws.proofs.plain.plain_in_normal_form.Goals as goal

pub returns : goal.returns
returns c = normal_is_plain _ _ c.requires
