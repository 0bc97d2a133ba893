use Rattle.joined_rows.proofs.Options.{are_joined}
use Rattle.joined_rows.proofs.rows.rows_have_parts.Goals as goal

pub returns : goal.returns
returns c = λ mapped query more rows has related less places items sources kinds given. are_joined mapped query more rows has related less places items sources kinds given
