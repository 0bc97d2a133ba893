-- What rows the selects of loads answer, over the tables of a store.
use Rattle.std.specs.Prelude.{◌≡◌, ℕ, ◌≤◌, true, List, length, IfOk}
use Rattle.std.specs.List.{All, AllByRecursion}
use Rattle.base_core.specs.declared.ids.AttrNo.{AttrNo}
use Rattle.base_core.specs.declared.ids.ClassId.{ClassId}
use Rattle.base_core.specs.declared.value.Value.{Value}
use Rattle.schema_core.specs.Tables as held
use Rattle.expr_types.specs.declared.select.ObjectQuery.{ObjectQuery}
use Rattle.sql_semantics.specs.Created.{bare}
use Rattle.sql_semantics.specs.Rows.{answer}
use Rattle.class_types.specs.declared.mapped.Relation.{Relation}
use Rattle.class_mapping.specs.Mapped.{IsAttribute, IsClass, Mapped, attributes_of}
use Rattle.class_mapping.specs.Related.{IsRelated}
use Rattle.object_arena.specs.Fit.{key_fits}
use Rattle.load_selects.specs.Selects.{cells_select, key_select, targets_select}
use Rattle.collection_selects.specs.Collections.{batch_select, members_select}
use Rattle.main_selects.specs.MainSelect.{main_select}
use Rattle.joined_rows.specs.declared.parts.Part.{Part}
use Rattle.joined_rows.specs.Parts.{own_values, parts_of, values_from}
use Rattle.joined_rows.specs.Taking.{has_target}
use Rattle.load_filling.specs.Filled.{AreFoundFor}
use Rattle.load_rows.specs.Reading.{IsRowOf}
use Rattle.load_calls.specs.Refreshing.{found_among}
use Rattle.load_batches.specs.Batches.{target_values}

-- each is an attribute of the class
abbrev pub AreAttributes : Mapped → ClassId → List AttrNo → Type 0
AreAttributes mapped class attrs = All (IsAttribute mapped class) attrs

-- a row of a class, with a value for each of its attributes
pub record IsFullRow (mapped : Mapped) (class : ClassId) (row : List Value) : Type 0 where
  pub of : IsRowOf mapped class row
  pub wide : length (attributes_of mapped class) ≤ length row

-- what a row has for some attributes of a class fits them
abbrev pub AreCellsThatFit : Mapped → ClassId → List AttrNo → List Value → List Value → Type 0
AreCellsThatFit mapped class attrs key row = (count : ℕ) → AreFoundFor class (found_among count attrs row) mapped

-- a row of a main select: what it has of the query's class is a row of it, and so is what it has of the target of each option, where it has one
pub record IsJoinedOf (mapped : Mapped) (IsRow : ClassId → List Value → Type 0) (class : ClassId) (parts : List Part) (row : List Value) : Type 0 where
  pub own : IsRow class (own_values mapped class row)
  pub options : AllByRecursion (λ part. has_target mapped part row ≡ true → IsRow part.target (values_from part row)) parts

-- the rows that each select of a load of links or cells answers are such
pub record AnswerRows (mapped : Mapped) (IsRow : ClassId → List Value → Type 0) (IsCells : ClassId → List AttrNo → List Value → List Value → Type 0) (tables : held.Tables) : Type 0 where
  pub cells : (class : ClassId) (attrs : List AttrNo) (key : List Value) → IsClass mapped class → AreAttributes mapped class attrs → key_fits mapped class key ≡ true
      → IfOk (answer mapped.schema (bare tables) (cells_select mapped class attrs key)) (AllByRecursion (IsCells class attrs key))
  pub keyed : (class : ClassId) (key : List Value) → IsClass mapped class → IfOk (answer mapped.schema (bare tables) (key_select mapped class key)) (AllByRecursion (IsRow class))
  pub targets : (class : ClassId) (keys : List (List Value)) → IsClass mapped class → IfOk (answer mapped.schema (bare tables) (targets_select mapped class keys)) (AllByRecursion (IsRow class))
  pub members : (relation : Relation) (key : List Value) → IsRelated mapped relation → relation.many ≡ true → IfOk (answer mapped.schema (bare tables) (members_select mapped relation key)) (AllByRecursion (IsRow relation.target))
  pub batches : (relation : Relation) (keys : List (List Value)) → IsRelated mapped relation → relation.many ≡ true
      → IfOk (answer mapped.schema (bare tables) (batch_select mapped relation keys)) (AllByRecursion (λ row. IsRow relation.target (target_values mapped relation row)))

-- the rows that a query's own select answers are rows of its class
abbrev pub AnswersOwn : (mapped : Mapped) (IsRow : ClassId → List Value → Type 0) (tables : held.Tables) → ObjectQuery → Type 0
AnswersOwn mapped IsRow tables query = IfOk (answer mapped.schema (bare tables) query.select) (AllByRecursion (IsRow query.class))

-- and those of its main select have such parts
abbrev pub AnswersJoined : (mapped : Mapped) (IsRow : ClassId → List Value → Type 0) (tables : held.Tables) → ObjectQuery → Type 0
AnswersJoined mapped IsRow tables query =
    IfOk (answer mapped.schema (bare tables) (main_select mapped query)) (AllByRecursion (IsJoinedOf mapped IsRow query.class (parts_of mapped query.class query.joined)))
