-- The greatest key is below the one that is looked for.
use Rattle.std.proofs.Common.{sym, ap, ◌∙◌}
use Rattle.std.specs.BTreeMap.{get}
use Rattle.std.specs.Ordering.{is_lt}
use Rattle.base_core.specs.Order.{values_cmp}
use Rattle.base_core.proofs.Greatest.{none_above}
use Rattle.base_core.proofs.ascending.is_above_all.Goals as goal

pub returns-in-Some : goal.returns-in-Some
returns-in-Some g c = λ is. none_above (get values_cmp c.args.map.now c.args.key.now) (is_lt (values_cmp c.in-Some.last.now c.args.key.now)) (c.in-Some.ensures.greatest c.args.key.now) (ap is_lt (sym c.cmp.ensures) ∙ sym c.is_lt.ensures ∙ is)
