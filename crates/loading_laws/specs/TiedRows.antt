-- What the rows of a query's main select that come of one row of its class have of each joined option: the rows of the option's
-- target to which that row is tied.
use Rattle.std.specs.Prelude.{◌≡◌, ◌<◌, Bool, true, false, List, filter, length, map, Option, None, Some}
use Rattle.std.specs.List.{All, AllByRecursion}
use Rattle.base_core.specs.declared.ids.ClassId.{ClassId}
use Rattle.base_core.specs.declared.value.Value.{Value}
use Rattle.schema_core.specs.Tables.{same_values}
use Rattle.expr_types.specs.declared.select.ObjectQuery.{ObjectQuery}
use Rattle.sql_semantics.specs.Eval.{Row, Tables, rows_in}
use Rattle.sql_semantics.specs.Shapes.{AreLegalRows, AreRows}
use Rattle.class_types.specs.declared.mapped.Relation.{Relation}
use Rattle.class_sides.specs.Keys.{TableKey}
use Rattle.class_mapping.specs.Mapped.{IsClass, Mapped, relations_of}
use Rattle.class_mapping.specs.Paired.{is_at_or_under}
use Rattle.class_mapping.specs.Related.{AreRelated, IsRelated, many_side}
use Rattle.mapping_laws.specs.Hierarchies.{HasHierarchies}
use Rattle.object_arena.specs.Fit.{relation_of}
use Rattle.load_columns.specs.declared.placing.SourceColumn.{SourceColumn}
use Rattle.load_columns.specs.Placing.{attribute_columns, columns_at, foreign_numbers, from_root, place_of_table}
use Rattle.load_filling.specs.Rows.{row_key}
use Rattle.known_queries.specs.Known.{BeginsWith}
use Rattle.joined_rows.specs.declared.parts.Part.{Part}
use Rattle.joined_rows.specs.Parts.{own_values, parts_of, values_from}
use Rattle.joined_rows.specs.Taking.{has_target}
use Rattle.loading_laws.specs.Answers.Answers.{AreRowsOf}
use Rattle.loading_laws.specs.Members.{HaveSame, paired_rows}
use Rattle.loading_laws.specs.Wide.Parts.{cells}
use Rattle.loading_laws.specs.Wide.Answers.{AreOfSources, joined_rows, own_columns}

-- ---- foreign keys in rows of classes

-- what a row of a class has in the columns of a relationship's foreign key
abbrev pub KeyReader : Type 0
KeyReader = ClassId → Relation → Row → List Value

abbrev pub foreign_columns : Mapped → ClassId → Relation → List SourceColumn
foreign_columns mapped class relation = columns_at (place_of_table mapped class (from_root 0) relation.foreign.0) (foreign_numbers mapped relation.foreign)

-- Without a secondary table the columns of a foreign key are attributes of the classes at and under the many side's: it is read where
-- these hold whatever values.
abbrev pub ReadsKeys : Mapped → KeyReader → Type 0
ReadsKeys mapped read =
    (class : ClassId) (relation : Relation) (values : SourceColumn → Value) → IsClass mapped class → IsRelated mapped relation → is_at_or_under mapped class (many_side relation) ≡ true → relation.far ≡ None
    → read class relation (map values (attribute_columns mapped class (from_root 0))) ≡ map values (foreign_columns mapped class relation)

-- ---- ties

-- The rows of the target, of all its rows, to which a relationship ties a row of the class, by whether it is many and its far key:
-- those that refer to the row's key, those to which a pair leads from it, and those to which the row refers.
abbrev pub tied_rows : Mapped → KeyReader → ClassId → Relation → Tables → List Row → Row → Bool → Option TableKey → List Row
tied_rows mapped read class relation tables all row true None = filter (λ other. same_values (read relation.target relation other) (row_key mapped class row)) all
tied_rows mapped read class relation tables all row true (Some far) = paired_rows mapped relation far all (rows_in tables relation.foreign.0.0) (row_key mapped class row)
tied_rows mapped read class relation tables all row false far = filter (λ other. same_values (row_key mapped relation.target other) (read class relation row)) all

-- those of the relationship at a part's place
abbrev pub tied_at : Mapped → KeyReader → ClassId → Part → Tables → List Row → Row → List Row
tied_at mapped read class part tables all row =
    let relation = relation_of mapped class part.place in
    tied_rows mapped read class relation tables all row relation.many relation.far

-- what the rows that have a target of a part have of it
abbrev pub members_in : Mapped → Part → List Row → List Row
members_in mapped part rows = map (λ row. own_values mapped part.target (values_from part row)) (filter (has_target mapped part) rows)

-- ---- the law

-- a query for the objects of a class of a configured mapping, over tables with legal rows
pub record HasOptions (mapped : Mapped) (read : KeyReader) (query : ObjectQuery) (tables : Tables) : Type 0 where
  pub has : HasHierarchies mapped
  pub related : AreRelated mapped
  pub class : IsClass mapped query.class
  pub places : All (λ place. place.0 < length (relations_of mapped query.class)) query.joined
  pub begins : BeginsWith mapped query.class query.select
  pub held : AreRows mapped.schema tables
  pub legal : AreLegalRows mapped.schema tables
  pub reads : ReadsKeys mapped read

-- Of these rows those that have a target of a part have, of all rows of that target, the ones to which the class's row is tied.
abbrev pub GivesTied : Mapped → KeyReader → ClassId → Tables → Row → List Row → Part → Type 0
GivesTied mapped read class tables own joined part =
    (all : List Row) → AreRowsOf mapped part.target tables all → HaveSame (members_in mapped part joined) (tied_at mapped read class part tables all own)

-- The rows that come of one row of each own source give so for each option.
abbrev pub OptionsGiveTied : Type 0
OptionsGiveTied =
    (mapped : Mapped) (read : KeyReader) (query : ObjectQuery) (tables : Tables) (rows : List Row) → HasOptions mapped read query tables → AreOfSources mapped.schema tables query.select rows
    → AllByRecursion (GivesTied mapped read query.class tables (cells (own_columns mapped query) rows) (joined_rows mapped tables query rows)) (parts_of mapped query.class query.joined)
