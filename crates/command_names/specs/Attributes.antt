-- What the names of a class's attributes and relationships stand for, and whether values are of their kinds.
use Rattle.std.specs.Prelude.{◌≡◌, ◌<◌, ℕ, Bool, true, false, not, List, [], ◌∷◌, ◌++◌, length, slice_index_or, Option, None, Some, Ok, Err, if◌then◌else◌}
use Rattle.std.specs.Option.{option_map}
use Rattle.std.specs.List.{list_any, position}
use Rattle.base_core.specs.declared.ids.AttrNo.{AttrNo}
use Rattle.base_core.specs.declared.ids.ClassId.{ClassId}
use Rattle.base_core.specs.declared.ids.RelNo.{RelNo}
use Rattle.base_core.specs.declared.value.Value.{Value}
use Rattle.base_core.specs.declared.refusal.Refusal.{Refusal}
use Rattle.schema_core.specs.Catalog.{same_name}
use Rattle.schema_core.specs.Tables.{kind_of_value}
use Rattle.schema_core.specs.Refusals.{kind_fault}
use Rattle.class_types.specs.declared.mapped.Relation.{Relation}
use Rattle.class_mapping.specs.Mapped.{IsAttribute, Mapped, attribute_of, attributes_of, find_class, relations_of, find_attribute}
use Rattle.object_arena.specs.Fit.{no_relation}
use Rattle.sql_semantics.specs.Checked.{Checked, ◌>>=◌}
use Rattle.command_names.specs.declared.members.Member.{Member}
use Rattle.command_names.specs.declared.members.Member.TheVariants.{Attribute, One, Many}
use Rattle.command_names.specs.Terms.{found_or_unknown, unknown, wrong_kind}

-- ---- names

-- the class of a name
abbrev pub class_named : Mapped → List ℕ → Checked ClassId
class_named mapped name = found_or_unknown name (find_class mapped name)

-- the relationship of a name
abbrev pub find_relation : List Relation → List ℕ → Option RelNo
find_relation relations name = option_map (λ place. record { 0 = place }) (position (λ relation. same_name relation.name name) relations)

abbrev pub link_at : List Relation → RelNo → Member
link_at relations relation = if (slice_index_or relations relation.0 no_relation).many then Many relation else One relation

abbrev pub link_or_unknown : List Relation → List ℕ → Option RelNo → Checked Member
link_or_unknown relations name (Some relation) = Ok (link_at relations relation)
link_or_unknown relations name None = unknown name

abbrev pub member_or : List Relation → List ℕ → Option AttrNo → Checked Member
member_or relations name (Some attr) = Ok (Attribute attr)
member_or relations name None = link_or_unknown relations name (find_relation relations name)

-- the attribute or the relationship of a class that a name stands for
abbrev pub member_named : Mapped → ClassId → List ℕ → Checked Member
member_named mapped class name = member_or (relations_of mapped class) name (find_attribute (attributes_of mapped class) name)

-- where an attribute is wanted, a relationship is of the wrong kind
abbrev pub as_attribute : Member → Checked AttrNo
as_attribute (Attribute attr) = Ok attr
as_attribute member = wrong_kind

-- the attribute of a class that a name stands for; the name of a relationship stands for none, and is known
abbrev pub attribute_named : Mapped → ClassId → List ℕ → Checked AttrNo
attribute_named mapped class name = member_named mapped class name >>= as_attribute

abbrev pub link_unless : Bool → RelNo → Checked RelNo
link_unless is_wrong relation = if is_wrong then wrong_kind else Ok relation

-- where a collection or a link to one object is wanted, an attribute is of the wrong kind, and so is a relationship of the other form
abbrev pub as_link : Bool → Member → Checked RelNo
as_link many (Attribute attr) = wrong_kind
as_link many (One relation) = link_unless many relation
as_link many (Many relation) = link_unless (not many) relation

-- the collection of a class that a name stands for, or the link to one object
abbrev pub link_named : Mapped → Bool → ClassId → List ℕ → Checked RelNo
link_named mapped many class name = member_named mapped class name >>= as_link many

abbrev pub IsLink : List Relation → RelNo → Bool → Type 0
IsLink relations relation many = (relation.0 < length relations) × ((slice_index_or relations relation.0 no_relation).many ≡ many)

-- of these relationships
abbrev pub IsAmong : List Relation → Member → Type 0
IsAmong relations (Attribute attr) = ⊥
IsAmong relations (One relation) = IsLink relations relation false
IsAmong relations (Many relation) = IsLink relations relation true

-- the class has a relationship of this number, which is a collection or not
abbrev pub IsRelation : Mapped → ClassId → RelNo → Bool → Type 0
IsRelation mapped class relation many = IsLink (relations_of mapped class) relation many

-- the class has the member
abbrev pub IsMember : Mapped → ClassId → Member → Type 0
IsMember mapped class (Attribute attr) = IsAttribute mapped class attr
IsMember mapped class (One relation) = IsRelation mapped class relation false
IsMember mapped class (Many relation) = IsRelation mapped class relation true

-- ---- kinds

-- why a value is none for an attribute of a class: it is not NULL, and of another kind
abbrev pub value_fault : Mapped → ClassId → AttrNo → Value → Option Refusal
value_fault mapped class attr value = kind_fault (attribute_of mapped class attr).kind (kind_of_value value)

abbrev pub unless_fault : {A : Type 0} → Option Refusal → A → Checked A
unless_fault None a = Ok a
unless_fault (Some fault) a = Err fault

-- ---- the values of a new object

-- values for attributes
abbrev pub Cells : Type 0
Cells = List (AttrNo × Value)

-- a name with the value that a line gives it
abbrev pub Giving : Type 0
Giving = List ℕ × Value

-- a name has a value already
abbrev pub is_given : List Giving → List ℕ → Bool
is_given before name = list_any (λ giving. same_name giving.0 name) before

-- the attribute of a name that has no value yet
abbrev pub attribute_given : Mapped → ClassId → List Giving → List ℕ → Checked AttrNo
attribute_given mapped class before name = attribute_named mapped class name >>= λ attr. (if is_given before name then wrong_kind else Ok attr)

-- values for attributes, behind those that are given before, in the order of the line
abbrev pub cells_behind : Mapped → ClassId → List Giving → List Giving → Checked Cells
cells_behind mapped class before [] = Ok []
cells_behind mapped class before (giving ∷ given) =
    attribute_given mapped class before giving.0 >>= λ attr. (cells_behind mapped class (before ++ giving ∷ []) given >>= λ cells. Ok ((attr, giving.1) ∷ cells))

abbrev pub first_of_two : Option Refusal → Option Refusal → Option Refusal
first_of_two None second = second
first_of_two (Some first) second = Some first

-- the fault of the first value of another kind than its attribute
abbrev pub cells_fault : Mapped → ClassId → Cells → Option Refusal
cells_fault mapped class [] = None
cells_fault mapped class (cell ∷ cells) = first_of_two (value_fault mapped class cell.0 cell.1) (cells_fault mapped class cells)

-- the values of a line for a new object: names are read first, each stands for an attribute and is given once, and then the kinds of the values
abbrev pub cells_of : Mapped → ClassId → List Giving → Checked Cells
cells_of mapped class given = cells_behind mapped class [] given >>= λ cells. unless_fault (cells_fault mapped class cells) cells
