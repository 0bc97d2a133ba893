-- What a mapping has once it is configured, as the laws of what is written ask for it.
use Rattle.std.specs.Prelude.{◌≡◌, Bool, true, not, ◌&&◌}
use Rattle.std.specs.List.{list_all}
use Rattle.class_types.specs.declared.declared.ClassSpec.{ClassSpec}
use Rattle.class_types.specs.declared.declared.RelationSpec.{RelationSpec}
use Rattle.base_core.specs.declared.ids.ClassId.{ClassId}
use Rattle.class_mapping.specs.Mapped.{IsClass, Mapped}
use Rattle.class_mapping.specs.PlainClass.{ArePlain, IsPlainClass}

-- a collection does not say that its foreign key is written late
abbrev pub is_late_by_link : RelationSpec → Bool
is_late_by_link relation = not (relation.post_update && relation.many)

abbrev pub has_late_links : ClassSpec → Bool
has_late_links spec = list_all is_late_by_link spec.relations

-- no collection of a declared class does, as lines of classes can not say it
abbrev pub HasLateLinks : Mapped → Type 0
HasLateLinks mapped = list_all has_late_links mapped.classes.specs ≡ true

-- where each class is a plain root, each has what such a class has
abbrev pub ClassesArePlain : Mapped → Type 0
ClassesArePlain mapped = ArePlain mapped → (class : ClassId) → IsClass mapped class → IsPlainClass mapped class
