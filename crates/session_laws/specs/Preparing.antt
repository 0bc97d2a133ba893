-- What the reading before a flush leaves of a session.
use Rattle.std.specs.Prelude.{◌≡◌, true, Ok}
use Rattle.object_arena.specs.Fit.{IsFit}
use Rattle.object_arena.specs.Identity.{IsGraph}
use Rattle.table_laws.specs.Legality.{AreSound}
use Rattle.prepared_objects.specs.Known.{IsPrepared}
use Rattle.load_preparing.specs.Preparing.{read_going}
use Rattle.session_scopes.specs.Loads.{on_load}
use Rattle.session_scopes.specs.SessionState.{in_transaction}
use Rattle.session_calls.specs.Parts.{World}
use Rattle.session_acts.specs.Flush.{prepare}
use Rattle.session_laws.specs.Flushes.{prepared_world}
use Rattle.session_laws.specs.Graphs.{IsWellMapped}
use Rattle.session_laws.specs.Loads.{IsLoad}
use Rattle.session_laws.specs.Whole.{IsHale}

-- Rows can be read into the objects: the mapping is as every configured one is, the objects fit it, one stands for each key, and the
-- tables are legal and ascend.
pub record IsReadable (world : World) : Type 0 where
  pub well : IsWellMapped world.own.mapping
  pub fit : IsFit world.own.mapping world.own.graph
  pub one : IsGraph world.own.graph.objects world.own.graph.roots
  pub tables : AreSound world.own.mapping.schema world.store.tables

-- what is to be known before objects are deleted is read as loads read that a session may take in, whatever is answered
abbrev pub PreparationsLeaveReread : Type 0
PreparationsLeaveReread = (world : World) → IsReadable world → IsLoad (read_going world.own.mapping) world

-- where that answers, all is known of the objects that are to be deleted
abbrev pub PreparationsKnowAll : Type 0
PreparationsKnowAll = (world : World) → IsReadable world → (prepare world).answer ≡ Ok tt → IsPrepared (prepared_world world).own.mapping (prepared_world world).own.graph

-- and in a transaction a whole session that takes it in stays whole, whatever is answered
abbrev pub PreparationsKeepWhole : Type 0
PreparationsKeepWhole = (world : World) → in_transaction world.own ≡ true → IsHale world → IsHale (on_load (read_going world.own.mapping) world).after
