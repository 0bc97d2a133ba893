-- The objects of queries, as a program of a session.
use Rattle.std.specs.Prelude.{List}
use Rattle.base_core.specs.declared.ids.ObjId.{ObjId}
use Rattle.expr_types.specs.declared.select.ObjectQuery.{ObjectQuery}
use Rattle.keeper_core.specs.Programs.{Run, ◌>>=◌}
use Rattle.keeper_core.specs.Beside.{by_own}
use Rattle.load_queries.specs.Selectin as load_queries
use Rattle.session_scopes.specs.Loads.{on_load}
use Rattle.session_calls.specs.Parts.{World}
use Rattle.session_acts.specs.Steps.{flush_now}

abbrev pub load_query : ObjectQuery → World → Run World (List ObjId)
load_query query = by_own (λ session. on_load (load_queries.load_query session.mapping query))

-- the objects of a query, once all is written
unfoldable pub select_objects : ObjectQuery → World → Run World (List ObjId)
select_objects query = flush_now >>= λ u. load_query query
