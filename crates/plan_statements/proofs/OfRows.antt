-- The places of an INSERT of new rows are below the number of new rows.
use Rattle.std.proofs.Common.{◌≡◌, ℕ, ◌<◌, length}
use Rattle.std.proofs.lemmas.List.Elements.{All-weaker}
use Rattle.schema_core.specs.declared.changes.Planned.{Planned}
use Rattle.schema_core.specs.declared.changes.Planned.TheVariants.{Insert, Update, Remove}
use Rattle.schema_core.specs.declared.changes.RowChanges.{RowChanges}
use Rattle.schema_core.specs.Catalog.{Catalog}
use Rattle.plan_statements.specs.Known.{IsOfRows, IsPlaceOf, IsWithin}

pub within_rows : (schema : Catalog) (changes : RowChanges) (count : ℕ) (planned : Planned) → count ≡ length changes.fresh → IsOfRows schema changes planned → IsWithin count planned
within_rows schema changes count (Insert table places) long of = All-weaker (IsPlaceOf changes table) (λ place. place < count) (λ place h. rw long h.0) places of.1
within_rows schema changes count (Update table key cells) long of = tt
within_rows schema changes count (Remove table key) long of = tt
