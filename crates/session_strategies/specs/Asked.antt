-- The objects of a query as a session is asked for them, with their links by any strategy.
use Rattle.std.specs.Prelude.{◌≡◌, ◌<◌, ◌^◌, true, false, [], ◌∷◌, ◌++◌, length, map}
use Rattle.std.specs.List.{All, list_all}
use Rattle.base_core.specs.declared.ids.RelNo.{RelNo}
use Rattle.expr_types.specs.declared.select.ObjectQuery.{ObjectQuery}
use Rattle.sql_semantics.specs.Created.{bare}
use Rattle.sql_semantics.specs.Plain.{IsPlainSelect, is_grouped}
use Rattle.class_mapping.specs.Mapped.{IsClass, Mapped}
use Rattle.class_mapping.specs.Plain.{is_over_table}
use Rattle.schema_core.specs.Tables.{Tables}
use Rattle.load_selects.specs.Selects.{item_of}
use Rattle.alias_names.specs.Names.{taken_names}
use Rattle.main_selects.specs.MainSelect.{main_select}
use Rattle.load_queries.specs.Selectin.{IsOption}
use Rattle.known_queries.specs.Known.{BeginsWith}
use Rattle.loading_laws.specs.Loading.Loadable.{AreCreated, CutsObjects}
use Rattle.loading_laws.specs.Wide.Answers.{own_columns}
use Rattle.session_calls.specs.Parts.{World}
use Rattle.session_acts.specs.Steps.{flush_now}

-- the session and the store once all is written
abbrev pub written : World → World
written world = (flush_now world).after

-- ---- a query by each strategy

-- without its options: links are read when they are asked for
abbrev pub lazily : ObjectQuery → ObjectQuery
lazily query = record query { joined = []; selectin = [] }

-- with its joined options alone
abbrev pub by_joins : ObjectQuery → ObjectQuery
by_joins query = record query { selectin = [] }

-- with its select-in options alone
abbrev pub by_selects : ObjectQuery → ObjectQuery
by_selects query = record query { joined = [] }

-- with one select-in option more
abbrev pub with_selectin : RelNo → ObjectQuery → ObjectQuery
with_selectin place query = record query { selectin = query.selectin ++ place ∷ [] }

-- ---- which queries

-- A query for the objects of a class, with joined and select-in options of its relationships, over tables that are all created: its first
-- sources are the class's tables and its items the class's attributes; it may be sent, it has no groups, the names that aliases are kept
-- apart from are fewer than 2 ^ 64, and it leaves out no rows but those of its own sources. (A class that names a table names a declared
-- one.)
pub record IsOfClass (mapped : Mapped) (tables : Tables) (query : ObjectQuery) : Type 0 where
  pub over : list_all (is_over_table mapped.schema.tables) mapped.classes.specs ≡ true
  pub class : IsClass mapped query.class
  pub joined : All (IsOption mapped query.class) query.joined
  pub selectin : All (IsOption mapped query.class) query.selectin
  pub begins : BeginsWith mapped query.class query.select
  pub reads : query.select.items ≡ map item_of (own_columns mapped query)
  pub plain : IsPlainSelect mapped.schema query.select
  pub few : length (taken_names mapped.schema (main_select mapped query)) < 2 ^ 64
  pub single : is_grouped query.select ≡ false
  pub cuts : CutsObjects mapped query
  pub created : AreCreated mapped.schema (bare tables)
