-- What is kept of resolved lines and of answers: their numbers stand for what is there.
use Rattle.std.specs.Prelude.{◌≡◌, ℕ, ◌<◌, Bool, true, IsTrue, length, None}
use Rattle.std.specs.List.{All}
use Rattle.base_core.specs.declared.ids.AttrNo.{AttrNo}
use Rattle.base_core.specs.declared.ids.ObjId.{ObjId}
use Rattle.base_core.specs.declared.ids.RelNo.{RelNo}
use Rattle.base_core.specs.declared.refusal.Refusal.{Refusal}
use Rattle.base_core.specs.declared.refusal.Refusal.TheVariants.{NotBuilt}
use Rattle.base_core.specs.declared.value.Value.{Value}
use Rattle.schema_core.specs.Catalog.{IsTable}
use Rattle.sql_semantics.specs.Plain.{IsPlainSelect}
use Rattle.sql_semantics.specs.PlainStatement.{IsFittingBulk}
use Rattle.class_mapping.specs.Mapped.{IsAttribute, IsClass, Mapped, relations_of}
use Rattle.object_arena.specs.Fit.{key_fits}
use Rattle.object_arena.specs.Graph.{Graph, IsObject, object_at}
use Rattle.relations.specs.Calls.{end_of, is_of_collection}
use Rattle.relations.specs.Keys.{IsEnd}
use Rattle.script_resolve.specs.Bulks.{gives_once}
use Rattle.known_queries.specs.Known.{ReadsJoined}
use Rattle.load_queries.specs.Selectin.{IsSelectable}
use Rattle.query_names.specs.Queries.{IsOfQueries}
use Rattle.command_names.specs.Attributes.{IsRelation, cells_fault, value_fault}
use Rattle.command_names.specs.Standing.{IsDrawnIfNamed, IsOfDeclared, IsThere}
use Rattle.command_resolve.specs.declared.answer.Answer.{Answer}
use Rattle.command_resolve.specs.declared.answer.Answer.TheVariants as answer
use Rattle.command_resolve.specs.declared.resolved.Resolved.{Resolved}
use Rattle.command_resolve.specs.declared.resolved.Resolved.TheVariants as resolved

-- ---- resolved lines

-- an object whose class has the attribute
abbrev pub HasAttribute : Mapped → Graph → ObjId → AttrNo → Type 0
HasAttribute mapped graph object attr = IsObject graph object × IsAttribute mapped (object_at graph object).class attr

-- an object whose class has the attribute, and a value for it
abbrev pub HasValue : Mapped → Graph → ObjId → AttrNo → Value → Type 0
HasValue mapped graph object attr value = HasAttribute mapped graph object attr × (value_fault mapped (object_at graph object).class attr value ≡ None)

-- an object whose class has the relationship, which is a collection or not
abbrev pub HasLink : Mapped → Graph → ObjId → RelNo → Bool → Type 0
HasLink mapped graph object relation many = IsObject graph object × IsRelation mapped (object_at graph object).class relation many

-- an object whose class has a relationship of this number
abbrev pub HasRelation : Mapped → Graph → ObjId → RelNo → Type 0
HasRelation mapped graph object relation = IsObject graph object × (relation.0 < length (relations_of mapped (object_at graph object).class))

-- All that a resolved line names is there, and its values are of their attributes' kinds. A select is plain, and so is the main select of
-- a query; a bulk statement fits its table and gives each column once.
abbrev pub IsResolved : Mapped → Graph → ℕ → Resolved → Type 0
IsResolved mapped graph drawn (resolved.New name class cells) = IsClass mapped class × All (λ cell. IsAttribute mapped class cell.0) cells × (cells_fault mapped class cells ≡ None)
IsResolved mapped graph drawn (resolved.Get name class key) = IsClass mapped class × (key_fits mapped class key ≡ true)
IsResolved mapped graph drawn (resolved.Objects name query) = IsSelectable mapped query × ReadsJoined mapped query
IsResolved mapped graph drawn (resolved.Related name object relation) = HasRelation mapped graph object relation
IsResolved mapped graph drawn (resolved.SetCell object attr value) = HasValue mapped graph object attr value
IsResolved mapped graph drawn (resolved.ChangeLink owner relation call) = HasLink mapped graph owner relation (is_of_collection call) × IsEnd graph (end_of call)
IsResolved mapped graph drawn (resolved.Add object) = IsObject graph object
IsResolved mapped graph drawn (resolved.Delete object) = IsObject graph object
IsResolved mapped graph drawn (resolved.Expunge object) = IsObject graph object
IsResolved mapped graph drawn (resolved.Expire object) = IsObject graph object
IsResolved mapped graph drawn (resolved.Refresh object) = IsObject graph object
IsResolved mapped graph drawn (resolved.Show thing) = IsThere graph drawn thing × IsOfDeclared mapped thing
IsResolved mapped graph drawn (resolved.ShowCell object attr) = HasAttribute mapped graph object attr
IsResolved mapped graph drawn (resolved.ShowLink object relation) = HasRelation mapped graph object relation
IsResolved mapped graph drawn (resolved.State object) = IsObject graph object
IsResolved mapped graph drawn (resolved.Same object other) = IsObject graph object × IsObject graph other
IsResolved mapped graph drawn (resolved.Commit number) = IsDrawnIfNamed drawn number
IsResolved mapped graph drawn (resolved.Rollback number) = IsDrawnIfNamed drawn number
IsResolved mapped graph drawn (resolved.Rows select) = IsPlainSelect mapped.schema select
IsResolved mapped graph drawn (resolved.Bulk statement) = IsFittingBulk mapped.schema statement × IsTrue (gives_once statement)
IsResolved mapped graph drawn other = Unit {0}

-- what names and values may be refused for, a form that is not built, or memory that ran out
abbrev pub IsOfResolving : Refusal → Type 0
IsOfResolving NotBuilt = Unit {0}
IsOfResolving e = IsOfQueries e

-- ---- answers

-- what is to be bound or shown is there, and the tables are declared ones
abbrev pub IsAnswer : Mapped → Graph → ℕ → Answer → Type 0
IsAnswer mapped graph drawn (answer.Bind name thing) = IsThere graph drawn thing × IsOfDeclared mapped thing
IsAnswer mapped graph drawn (answer.Thing thing) = IsThere graph drawn thing × IsOfDeclared mapped thing
IsAnswer mapped graph drawn (answer.Tables tables) = All (λ table. IsTable mapped.schema table.0) tables
IsAnswer mapped graph drawn other = Unit {0}
