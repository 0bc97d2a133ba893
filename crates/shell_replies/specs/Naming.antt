-- The names of what refusals and replies have by number.
use Rattle.std.specs.Prelude.{ℕ, Bool, ◌&&◌, nat_lt, List, [], length, slice_get, Option, None, Some, if◌then◌else◌}
use Rattle.base_core.specs.declared.ids.AttrNo.{AttrNo}
use Rattle.base_core.specs.declared.ids.ClassId.{ClassId}
use Rattle.base_core.specs.declared.ids.ObjId.{ObjId}
use Rattle.base_core.specs.declared.ids.RelNo.{RelNo}
use Rattle.printing.specs.Texts.{Names}
use Rattle.schema_core.specs.Catalog.{Catalog, spec_of}
use Rattle.sql_text.specs.Columns.{column_name}
use Rattle.class_types.specs.declared.mapped.Attribute.{Attribute}
use Rattle.class_types.specs.declared.mapped.Relation.{Relation}
use Rattle.class_mapping.specs.Mapped.{Mapped, attributes_of, class_spec, relations_of}
use Rattle.object_arena.specs.Graph.{Graph, object_at, place_of}

-- before there is a session: the tables' names; everything else, and a table that is not declared, has the empty name
abbrev pub table_names : Catalog → Names
table_names schema = record {
  table = λ table. (spec_of schema table).name;
  column = λ table column. [];
  class = λ class. [];
  attribute = λ class attribute. [];
  relation = λ class relation. [];
  class_of = λ object. [];
}

abbrev pub class_name : Mapped → ClassId → List ℕ
class_name mapped class = (class_spec mapped class).name

-- an object of this number has been made; numbers begin at 1
abbrev pub has_object : Graph → ObjId → Bool
has_object graph object = nat_lt 0 object.0 && nat_lt (place_of object) (length graph.objects)

-- the name of an object's class; a number that no object has gives the empty name
abbrev pub name_of_object : Mapped → Graph → ObjId → List ℕ
name_of_object mapped graph object = if has_object graph object then class_name mapped (object_at graph object).class else []

-- a class of this number is declared
abbrev pub has_class : Mapped → ClassId → Bool
has_class mapped class = nat_lt class.0 (length mapped.classes.specs)

abbrev pub attribute_or_none : Option Attribute → List ℕ
attribute_or_none None = []
attribute_or_none (Some attribute) = attribute.name

-- the name of an attribute of a class; what is none of a class has the empty name
abbrev pub attribute_name : Mapped → ClassId → AttrNo → List ℕ
attribute_name mapped class attribute = if has_class mapped class then attribute_or_none (slice_get (attributes_of mapped class) attribute.0) else []

abbrev pub relation_or_none : Option Relation → List ℕ
relation_or_none None = []
relation_or_none (Some relation) = relation.name

-- the name of a relationship of a class; what is none of a class has the empty name
abbrev pub relation_name : Mapped → ClassId → RelNo → List ℕ
relation_name mapped class relation = if has_class mapped class then relation_or_none (slice_get (relations_of mapped class) relation.0) else []

-- in a session: the names of tables and their columns, of classes with their attributes and relationships, and of the classes of objects
abbrev pub session_names : Mapped → Graph → Names
session_names mapped graph = record {
  table = λ table. (spec_of mapped.schema table).name;
  column = column_name mapped.schema;
  class = class_name mapped;
  attribute = attribute_name mapped;
  relation = relation_name mapped;
  class_of = name_of_object mapped graph;
}
