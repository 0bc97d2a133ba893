-- A refusal of the first judgement is that of all.
use Rattle.std.proofs.Common.{◌≡◌, ap, List, ◌∷◌}
use Rattle.base_core.specs.Answers.{Refuses}
use Rattle.base_core.specs.declared.value.Kind.{Kind}
use Rattle.base_core.specs.declared.refusal.Refusal.{Refusal}
use Rattle.base_core.specs.declared.refusal.Refusal.TheVariants.{Memory}
use Rattle.sql_semantics.specs.Kinds.{Judged, then_judge, gives, all_of, all_alike, kind_or_mismatch}

pub refused : (e : Refusal) (r : Judged) (next : Kind → Judged) → Refuses e r → Refuses e (then_judge r next)
refused Memory r next told = tt
refused e r next told = ap (λ x. then_judge x next) told
