-- The cells and links of a session's objects, kept and given back.
use Rattle.std.specs.Prelude.{◌≡◌, List}
use Rattle.std.specs.List.{All}
use Rattle.class_mapping.specs.Mapped.{Mapped}
use Rattle.object_arena.specs.Fit.{IsFit}
use Rattle.object_arena.specs.Graph.{Graph}
use Rattle.object_records.specs.declared.kept.Held.{Held}
use Rattle.object_records.specs.Kept.{IsNarrow, given_back, held_in}
use Rattle.session_scopes.specs.SessionState.{AreThereStill, SessionState}

-- These are the cells and links of objects that fitted the mapping; each of them is there still, of its class, and others may stand
-- behind them.
pub record IsKeptOf (mapped : Mapped) (kept : List Held) (graph : Graph) : Type 0 where
  pub before : Graph
  pub held : kept ≡ held_in before
  pub fit : IsFit mapped before
  pub there : AreThereStill before graph
  pub narrow : All IsNarrow kept

-- the objects have the cells and links that were kept; those that were made since, and the scopes, stay as they are
abbrev pub session_given_back : List Held → SessionState → SessionState
session_given_back kept session = record session { graph = given_back kept session.graph }
