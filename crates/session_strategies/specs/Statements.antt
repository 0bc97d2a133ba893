-- Which statements a select-in option of a query sends.
use Rattle.std.specs.Prelude.{◌≡◌, List, ◌++◌}
use Rattle.base_core.specs.declared.ids.ObjId.{ObjId}
use Rattle.base_core.specs.declared.ids.RelNo.{RelNo}
use Rattle.expr_types.specs.declared.select.ObjectQuery.{ObjectQuery}
use Rattle.keeper_core.specs.Programs.{Event}
use Rattle.object_arena.specs.Fit.{relation_of}
use Rattle.load_queries.specs.Selectin.{owners_among}
use Rattle.loading_laws.specs.Loaders.Statements.{AsksInBatches, keys_asked, select_of_keys}
use Rattle.loading_laws.specs.Strategies.Filled.{Goes}
use Rattle.session_calls.specs.Parts.{World}
use Rattle.session_loads.specs.Queries.{select_objects}
use Rattle.session_load_laws.specs.Readings.{MayRead, Reading}
use Rattle.session_laws.specs.Whole.{IsHale}
use Rattle.session_strategies.specs.Asked.{with_selectin}

-- Behind what the query sends without the option, the selects of batches of keys are sent: of the owners among its objects whose
-- collections are unloaded then, or of the targets of their unloaded links that the identity map lacks.
pub record AsksMore (query : ObjectQuery) (place : RelNo) (objects : List ObjId) (world before : World) : Type 0 where
  pub events : List Event
  pub sent : (select_objects (with_selectin place query) world).events ≡ (select_objects query world).events ++ events
  pub batches : AsksInBatches (keys_asked before.own.mapping (relation_of before.own.mapping query.class place) place before.own.graph (owners_among before.own.mapping query.class before.own.graph objects))
      (select_of_keys before.own.mapping (relation_of before.own.mapping query.class place)) before.store events

-- One select-in option more, behind those that a query has, sends one select for each 500 keys more.
abbrev pub SelectinsAskInBatches : Type 0
SelectinsAskInBatches =
    (query : ObjectQuery) (place : RelNo) (objects : List ObjId) (world after : World) → MayRead (Reading.Objects (with_selectin place query)) world → IsHale world → Goes (select_objects (with_selectin place query)) world objects after
    → AsksMore query place objects world (select_objects query world).after
