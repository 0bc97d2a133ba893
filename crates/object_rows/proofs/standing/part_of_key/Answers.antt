use Rattle.std.proofs.Common.{ap, ◌∙◌}
use Rattle.std.specs.Prelude.{unwrap_or}
use Rattle.std.proofs.lemmas.Option.{unwrap_or-slice_get}
use Rattle.base_core.specs.declared.value.Value.TheVariants.{Null}
use Rattle.object_rows.proofs.standing.part_of_key.Goals as goal

pub returns-in-None : goal.returns-in-None
returns-in-None c = ap (λ found. unwrap_or found Null) c.in-None.ensures ∙ unwrap_or-slice_get c.args.key.now c.args.part Null
