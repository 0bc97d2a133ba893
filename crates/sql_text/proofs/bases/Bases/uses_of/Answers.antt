use Rattle.std.proofs.Common.{ap, ◌∙◌, unwrap_or}
use Rattle.sql_text.proofs.bases.Bases.uses_of.Goals as goal

pub returns : goal.returns
returns c =
    let value = c.unwrap_or.ensures ∙ ap (λ o. unwrap_or o 0) (c.copied.ensures ∙ c.get.ensures.value) in
    cc (value, c.self.invariant c.args.base.now, c.self.view_is)
