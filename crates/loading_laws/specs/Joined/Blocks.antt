-- The rows of a query's main select beside those of its own: what comes of each row of the class, and to which rows its options lead.
use Rattle.std.specs.Prelude.{◌≡◌, Bool, true, false, List, filter, map, Option, None, Some}
use Rattle.std.specs.List.{AllByRecursion, flat_map, list_any}
use Rattle.base_core.specs.declared.ids.ClassId.{ClassId}
use Rattle.base_core.specs.declared.value.Value.{Value}
use Rattle.schema_core.specs.Tables.{same_values}
use Rattle.expr_types.specs.declared.select.ObjectQuery.{ObjectQuery}
use Rattle.sql_semantics.specs.Eval.{Row, Tables, rows_in}
use Rattle.class_types.specs.declared.mapped.Relation.{Relation}
use Rattle.class_sides.specs.Keys.{TableKey}
use Rattle.class_mapping.specs.Mapped.{Mapped}
use Rattle.object_arena.specs.Fit.{is_empty, relation_of}
use Rattle.load_filling.specs.Rows.{row_key, value_in}
use Rattle.joined_rows.specs.declared.parts.Part.{Part}
use Rattle.joined_rows.specs.Parts.{own_values, parts_of, values_from}
use Rattle.joined_rows.specs.Taking.{has_target}
use Rattle.load_targets.specs.ForeignKeys.{foreign_attrs}
use Rattle.loading_laws.specs.Answers.Answers.{AreRowsOf}
use Rattle.loading_laws.specs.Members.{paired_rows}
use Rattle.loading_laws.specs.Strategies.Filled.{related_rows}

-- ---- to which rows a relationship leads

-- what a row of the class has in the attributes of a relationship's foreign key
abbrev pub referred_key : Mapped → ClassId → Relation → Row → List Value
referred_key mapped class relation row = map (value_in row) (foreign_attrs mapped class relation)

abbrev pub tied_by : Mapped → ClassId → Relation → Tables → List Row → Row → Bool → Option TableKey → List Row
tied_by mapped class relation tables all row true None = related_rows mapped relation all (row_key mapped class row)
tied_by mapped class relation tables all row true (Some far) = paired_rows mapped relation far all (rows_in tables relation.foreign.0.0) (row_key mapped class row)
tied_by mapped class relation tables all row false far = filter (λ other. same_values (row_key mapped relation.target other) (referred_key mapped class relation row)) all

-- Of all rows of the target those to which a row of the class leads: those that refer to its key, those to which its pairs in a
-- secondary table lead, or the one to which its foreign key refers.
abbrev pub tied_rows : Mapped → ClassId → Relation → Tables → List Row → Row → List Row
tied_rows mapped class relation tables all row = tied_by mapped class relation tables all row relation.many relation.far

-- ---- what the rows of a main select have of an option

-- the keys of an option's target in rows of a main select, of those rows that have a target
abbrev pub member_keys : Mapped → Part → List Row → List (List Value)
member_keys mapped part rows = map (λ row. row_key mapped part.target (values_from part row)) (filter (has_target mapped part) rows)

-- two lists have the same keys, in whatever order and however often
abbrev pub HaveSameKeys : List (List Value) → List (List Value) → Type 0
HaveSameKeys one other = (key : List Value) → list_any (same_values key) one ≡ list_any (same_values key) other

-- the rows that come of one row have of an option the keys of the rows to which it leads, and no others
pub record HaveTied (mapped : Mapped) (class : ClassId) (tables : Tables) (row : Row) (rows : List Row) (part : Part) : Type 0 where
  pub all : List Row
  pub are : AreRowsOf mapped part.target tables all
  pub same : HaveSameKeys (member_keys mapped part rows) (map (row_key mapped part.target) (tied_rows mapped class (relation_of mapped class part.place) tables all row))

-- The rows that come of one row of the class: at least one, each with the values of that row first, and with the keys of the rows to
-- which each option leads.
pub record IsBlock (mapped : Mapped) (class : ClassId) (tables : Tables) (parts : List Part) (block : Row × List Row) : Type 0 where
  pub some : is_empty block.1 ≡ false
  pub own : AllByRecursion (λ row. own_values mapped class row ≡ block.0) block.1
  pub options : AllByRecursion (HaveTied mapped class tables block.0 block.1) parts

-- the rows of a query's main select are those that come of each row of its own select, one after the other
pub record AreJoined (mapped : Mapped) (query : ObjectQuery) (tables : Tables) (plain joined : List Row) : Type 0 where
  pub blocks : List (Row × List Row)
  pub plain_is : plain ≡ map (λ block. block.0) blocks
  pub joined_is : joined ≡ flat_map (λ block. block.1) blocks
  pub each : AllByRecursion (IsBlock mapped query.class tables (parts_of mapped query.class query.joined)) blocks
