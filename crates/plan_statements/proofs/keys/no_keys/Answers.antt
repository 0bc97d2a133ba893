use Rattle.std.proofs.Common.{◌≡◌, List, [], length, ap, ◌∙◌, arith}
use Rattle.std.proofs.lemmas.List.{length-replicate}
use Rattle.base_core.specs.declared.value.Value.{Value}
use Rattle.plan_statements.proofs.KeyLemmas.{none_known}
use Rattle.plan_statements.proofs.keys.no_keys.Goals as goal

pub returns-clause-keys : goal.returns-clause-keys
returns-clause-keys c = none_known c.loop-place._place c.loop-place.known c.loop-place.invariant

pub returns-clause-long : goal.returns-clause-long
returns-clause-long c =
    let long : length c.loop-place.known ≡ c.loop-place._place = ap length c.loop-place.invariant ∙ length-replicate {A = List Value} c.loop-place._place [] in
    omega arith
