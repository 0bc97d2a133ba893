-- What is known of an object by the members of its class.
use Rattle.std.proofs.Common.{ℕ, Bool, true, false, sym, subst}
use Rattle.base_core.specs.declared.ids.ClassId.{ClassId}
use Rattle.base_core.specs.declared.ids.ObjId.{ObjId}
use Rattle.base_core.specs.declared.ids.RelNo.{RelNo}
use Rattle.class_mapping.specs.Mapped.{Mapped}
use Rattle.object_arena.specs.Graph.{Graph}
use Rattle.session_scopes.specs.SessionState.{IsMadeOf}
use Rattle.command_names.specs.declared.members.Member.{Member}
use Rattle.command_names.specs.declared.members.Member.TheVariants.{Attribute, One, Many}
use Rattle.command_names.specs.Attributes.{IsMember, IsRelation}
use Rattle.command_resolve.specs.Resolving.{show_by}
use Rattle.command_resolve.specs.Standing.{HasLink, IsResolved}
use Rattle.command_resolve.proofs.Made.{has_attribute}

pub has_link : (mapped : Mapped) (graph : Graph) (object : ObjId) (class : ClassId) (relation : RelNo) (many : Bool) → IsMadeOf graph object class → IsRelation mapped class relation many → HasLink mapped graph object relation many
has_link mapped graph object class relation many made is = (made.0, subst (λ (k : ClassId). IsRelation mapped k relation many) (sym made.1) is)

-- a member of an object that is shown
pub shows : (mapped : Mapped) (graph : Graph) (drawn : ℕ) (object : ObjId) (class : ClassId) (member : Member) → IsMadeOf graph object class → IsMember mapped class member → IsResolved mapped graph drawn (show_by object member)
shows mapped graph drawn object class (Attribute attr) made is = has_attribute mapped graph object class attr made is
shows mapped graph drawn object class (One relation) made is = (made.0, (has_link mapped graph object class relation false made is).1.0)
shows mapped graph drawn object class (Many relation) made is = (made.0, (has_link mapped graph object class relation true made is).1.0)
