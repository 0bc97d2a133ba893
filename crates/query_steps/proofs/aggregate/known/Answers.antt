use Rattle.std.proofs.Common.{rules, not}
use Rattle.std.proofs.lemmas.Fn.{filter_same}
use Rattle.sql_semantics.specs.Eval as spec
use Rattle.query_steps.proofs.aggregate.known.Goals as goal

pub returns : goal.returns
returns c = filter_same _ (λ v. not (spec.is_null v)) _ (λ x b f r. search rules) _ _ c.retain.ensures.filtered
