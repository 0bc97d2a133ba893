-- The deleted rows by table and key, made ready.
use Rattle.std.proofs.Common.{◌≡◌, ℕ, ◌<◌, List, length, get_or, ap, ◌∙◌, subst}
use Rattle.std.proofs.lemmas.List.{get_or-map, length-map}
use Rattle.std.proofs.lemmas.List.Elements.{All-get_or}
use Rattle.schema_core.specs.declared.changes.RowChanges.{RowChanges}
use Rattle.schema_core.specs.Catalog.{Catalog, IsTable}
use Rattle.flush_order.specs.declared.refers.ReadyGone.{ReadyGone}
use Rattle.flush_order.specs.Orders.{gone_at, gone_rows, no_gone}
use Rattle.flush_order.specs.Ready.{AreReadyGone, ready_gone}

pub gone_size : (schema : Catalog) (changes : RowChanges) (rows : List ReadyGone) → AreReadyGone schema changes rows → length rows ≡ length (gone_rows schema changes)
gone_size schema changes rows ready = ap length ready.sorted ∙ length-map (gone_rows schema changes) (ready_gone schema changes)

pub gone_ready : (schema : Catalog) (changes : RowChanges) (rows : List ReadyGone) (place : ℕ) (d : ReadyGone) → AreReadyGone schema changes rows → place < length rows → get_or rows place d ≡ ready_gone schema changes (gone_at (gone_rows schema changes) place)
gone_ready schema changes rows place d ready h =
    let less : place < length (gone_rows schema changes) = subst (λ n. place < n) (gone_size schema changes rows ready) h in
    ap (λ list. get_or list place d) ready.sorted ∙ get_or-map (ready_gone schema changes) (gone_rows schema changes) place no_gone d less

pub gone_declared : (schema : Catalog) (changes : RowChanges) (rows : List ReadyGone) (place : ℕ) (d : ReadyGone) → AreReadyGone schema changes rows → place < length rows → IsTable schema (get_or rows place d).name.table
gone_declared schema changes rows place d ready h = All-get_or (λ (row : ReadyGone). IsTable schema row.name.table) rows place d h ready.declared

pub ruleset ready_steps = (gone_ready, gone_declared)
