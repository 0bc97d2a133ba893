-- The place of a scope lies in the log.
use Rattle.std.proofs.Common.{◌<◌, length, subst, sym}
use Rattle.table_rows.specs.Rows.{tables_present}
use Rattle.table_log.specs.Marks.{Marked}
use Rattle.table_log.specs.Undone.{scopes_at}
use Rattle.table_log.proofs.WayBack.{place_within}
use Rattle.table_log.proofs.tables.TableLog.go_back_to.Goals as goal

pub undo_from-requires-clause-within : goal.undo_from-requires-clause-within
undo_from-requires-clause-within c =
    let inside : c.args.number < length (scopes_at (tables_present c.self.inside.tables) c.self.inside.log.items c.self.inside.places.items) = subst (λ (marked : Marked). c.args.number < length marked.seen.scopes) (sym c.self.view_is) c.requires in
    place_within c.self.inside.places.items c.self.inside.log.items (tables_present c.self.inside.tables) c.args.number c.index-place.result.now inside c.index-place.ensures c.self.invariant.1
