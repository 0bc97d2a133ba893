-- The tables are those at the start of the log.
use Rattle.std.proofs.Common.{ℕ, List, [], ap, ◌∙◌}
use Rattle.keeper_core.specs.Store.{committed_of}
use Rattle.table_rows.specs.Rows.{tables_present}
use Rattle.table_log.specs.Marks.{Marked}
use Rattle.table_log.specs.Undone.{scopes_at}
use Rattle.table_log.proofs.WayBack.{all_undone}
use Rattle.table_log.proofs.tables.TableLog.go_back.Goals as goal

pub returns-clause-scopes : goal.returns-clause-scopes
returns-clause-scopes c =
    ap (λ (places : List ℕ). record { tables = tables_present c.forget.new.tables; scopes = scopes_at (tables_present c.forget.new.tables) c.forget.new.log.items places }) c.clear.ensures.items
    ∙ all_undone (tables_present c.forget.new.tables) (tables_present c.undo_from.new.tables) (tables_present c.self.inside.tables) c.undo_from.new.log.items c.self.inside.log.items c.self.inside.places.items c.self.invariant.1 c.undo_from.ensures.back
    c.undo_from.ensures.place c.forget.ensures.tables
    ∙ ap (λ (marked : Marked). record { tables = committed_of marked.seen; scopes = [] }) c.self.view_is
