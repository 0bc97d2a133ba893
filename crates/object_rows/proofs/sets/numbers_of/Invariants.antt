use Rattle.std.proofs.Common.{◌≡◌, ℕ, ◌==◌, take}
use Rattle.std.specs.BTreeSet.{contains}
use Rattle.std.specs.List.{list_any}
use Rattle.std.specs.Ordering.{nat_cmp}
use Rattle.base_core.specs.declared.ids.ObjId.{ObjId}
use Rattle.object_rows.proofs.sets.numbers_of.Given as goal

abbrev pub invariant-loop-object : goal.invariant-loop-object
invariant-loop-object l = (number : ℕ) → contains nat_cmp l.numbers number ≡ list_any (λ (other : ObjId). other.0 == number) (take l.object-index l.objects)
