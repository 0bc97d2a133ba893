-- What single declarations of classes and relationships say.
use Rattle.std.specs.Prelude.{ℕ, Bool, true, false, List, Option, None, Some}
use Rattle.std.specs.List.{list_any}
use Rattle.std.specs.Ordering.{is_eq}
use Rattle.base_core.specs.declared.value.Value.{Value}
use Rattle.base_core.specs.Order.{value_cmp}
use Rattle.schema_core.specs.Catalog.{same_name}
use Rattle.class_types.specs.declared.declared.Cascade.{Cascade}
use Rattle.class_types.specs.declared.declared.ClassSpec.{ClassSpec}

abbrev pub is_declared : List ClassSpec → List ℕ → Bool
is_declared specs name = list_any (λ spec. same_name spec.name name) specs

abbrev pub is_named : Option (List ℕ) → List ℕ → Bool
is_named None name = false
is_named (Some own) name = same_name own name

-- a class maps the table of the name
abbrev pub maps_name : List ClassSpec → Option (List ℕ) → Bool
maps_name specs None = false
maps_name specs (Some name) = list_any (λ spec. is_named spec.table name) specs

abbrev pub is_identity : Option Value → Option Value → Bool
is_identity (Some one) (Some other) = is_eq (value_cmp one other)
is_identity one other = false

abbrev pub default_cascade : Cascade
default_cascade = record { save_update = true; merge = true; refresh_expire = false; expunge = false; delete = false; delete_orphan = false }

abbrev pub cascade_or_default : Option Cascade → Cascade
cascade_or_default None = default_cascade
cascade_or_default (Some cascade) = cascade
