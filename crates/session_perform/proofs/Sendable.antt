-- Bulk statements that a session may be asked to send.
use Rattle.std.proofs.Common.{◌≡◌, Bool, true, false, refl}
use Rattle.std.specs.Prelude.{IsTrue, not}
use Rattle.std.specs.List.{list_all}
use Rattle.schema_core.specs.Catalog.{Catalog}
use Rattle.expr_types.specs.declared.select.Bulk.{Bulk}
use Rattle.expr_types.specs.declared.select.Bulk.TheVariants.{Insert, Update, Delete}
use Rattle.sql_semantics.specs.Plain.{is_free_column}
use Rattle.sql_semantics.specs.PlainStatement.{IsFittingBulk}
use Rattle.script_resolve.specs.Bulks.{gives_once}
use Rattle.session_acts.specs.Steps.{IsPlainButForKeys}

is_so : (b : Bool) → not b ≡ false → b ≡ true
is_so true spares = refl
is_so false spares = absurd cc

-- a statement that fits its table and gives each column once is plain, unless it writes a key
pub plain_but_for_keys : (schema : Catalog) (statement : Bulk) → IsFittingBulk schema statement → IsTrue (gives_once statement) → IsPlainButForKeys schema statement
plain_but_for_keys schema (Insert table columns values) fits once spares = (fits.0, once, fits.1)
plain_but_for_keys schema (Update table cells filter) fits once spares = (fits.0, once, is_so (list_all (λ cell. is_free_column schema table cell.0) cells) spares, fits.2, fits.3)
plain_but_for_keys schema (Delete table filter) fits once spares = fits
