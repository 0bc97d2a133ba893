use Rattle.std.proofs.Common.{ap, ◌∙◌}
use Rattle.std.specs.Prelude.{unwrap_or}
use Rattle.std.proofs.lemmas.Option.{unwrap_or-slice_get}
use Rattle.object_arena.specs.declared.object.Link.TheVariants.{Unset}
use Rattle.load_batches.specs.Batches.{is_unloaded}
use Rattle.load_batches.proofs.owners.is_unloaded.Goals as goal

pub returns-in-None : goal.returns-in-None
returns-in-None c = ap is_unloaded (ap (λ found. unwrap_or found Unset) c.in-None.ensures ∙ unwrap_or-slice_get c.args.object.now.links c.args.place.0 Unset)
