-- What is known of an object by the class with which it is bound.
use Rattle.std.proofs.Common.{◌≡◌, None, sym, subst}
use Rattle.base_core.specs.declared.ids.AttrNo.{AttrNo}
use Rattle.base_core.specs.declared.ids.ClassId.{ClassId}
use Rattle.base_core.specs.declared.ids.ObjId.{ObjId}
use Rattle.base_core.specs.declared.value.Value.{Value}
use Rattle.class_mapping.specs.Mapped.{IsAttribute, Mapped}
use Rattle.object_arena.specs.Graph.{Graph}
use Rattle.session_scopes.specs.SessionState.{IsMadeOf}
use Rattle.command_names.specs.Attributes.{value_fault}
use Rattle.command_resolve.specs.Standing.{HasAttribute, HasValue}

pub has_attribute : (mapped : Mapped) (graph : Graph) (object : ObjId) (class : ClassId) (attr : AttrNo) → IsMadeOf graph object class → IsAttribute mapped class attr → HasAttribute mapped graph object attr
has_attribute mapped graph object class attr made is = (made.0, subst (λ (k : ClassId). IsAttribute mapped k attr) (sym made.1) is)

pub has_value : (mapped : Mapped) (graph : Graph) (object : ObjId) (class : ClassId) (attr : AttrNo) (value : Value)
    → IsMadeOf graph object class → IsAttribute mapped class attr → value_fault mapped class attr value ≡ None → HasValue mapped graph object attr value
has_value mapped graph object class attr value made is fits = (
  has_attribute mapped graph object class attr made is,
  subst (λ (k : ClassId). value_fault mapped k attr value ≡ None) (sym made.1) fits,
)
