use Rattle.std.proofs.Common.{◌<◌}
use Rattle.base_core.specs.declared.ids.ClassId.{ClassId}
use Rattle.class_mapping.specs.PlainClass.{ArePlain, IsPlainClass}
use Rattle.session_laws.proofs.configured_laws.plain_classes.Given as goal

abbrev pub invariant-loop-number : goal.invariant-loop-number
invariant-loop-number l = ArePlain l.mapping → (class : ClassId) → class.0 < l.number → IsPlainClass l.mapping class
