-- The root of a class is declared, extends none, and has a declared table.
use Rattle.std.proofs.Common.{◌≡◌, ◌<◌, true, List, [], ◌∙◌, length, ap, sym, refl, subst, Option, None, Some, is_some, is_none}
use Rattle.std.specs.Prelude.{slice_get}
use Rattle.std.proofs.lemmas.Option.{get_or_from_slice_get, slice_get-get_or, slice_get_within}
use Rattle.base_core.specs.declared.ids.ClassId.{ClassId}
use Rattle.base_core.specs.declared.ids.TableId.{TableId}
use Rattle.schema_core.specs.declared.table.TableSpec.{TableSpec}
use Rattle.schema_core.specs.Catalog.{Catalog, IsTable}
use Rattle.class_types.specs.declared.declared.ClassSpec.{ClassSpec}
use Rattle.class_layouts.specs.declared.classes.Classes.{Classes}
use Rattle.class_layouts.specs.Columns.{named_table, own_table, table_in}
use Rattle.class_layouts.specs.Hierarchy.{line_of, line_or_none, no_class, root_in}
use Rattle.class_mapping.specs.Lines.{AreLines, is_root_over, is_rooted, spec_at}
use Rattle.class_mapping.specs.Mapped.{IsClass, Mapped, class_or, class_spec, root_of, table_or_none}
use Rattle.class_mapping.proofs.LineLemmas.{all_at}
use Rattle.class_mapping.proofs.Lists.{and_left, and_right, none_is, some_is}
use Rattle.class_mapping.proofs.PlainClassLemmas.{found_table}

-- a root class over a table
pub record IsRootOver (mapped : Mapped) (class : ClassId) : Type 0 where
  pub declared : IsClass mapped class
  pub alone : (class_spec mapped class).base ≡ None
  pub table : IsTable mapped.schema (table_or_none (own_table mapped.schema.tables mapped.classes class.0))

root_by : (mapped : Mapped) (class : ClassId) (found : Option ClassSpec) → slice_get mapped.classes.specs class.0 ≡ found → is_root_over mapped.schema.tables found ≡ true → IsRootOver mapped class
root_by mapped class None e h = absurd cc
root_by mapped class (Some spec) e h =
    let tables : List TableSpec = mapped.schema.tables in
    let table = some_is (named_table tables spec.table) (and_right (is_none spec.base) (is_some (named_table tables spec.table)) h) in
    record {
      declared = slice_get_within mapped.classes.specs class.0 spec e;
      alone = ap (λ (s : ClassSpec). s.base) (get_or_from_slice_get mapped.classes.specs class.0 spec no_class e) ∙ none_is spec.base (and_left (is_none spec.base) (is_some (named_table tables spec.table)) h);
      table = subst (λ (t : TableId). t.0 < length tables) (sym (ap (λ (o : Option ClassSpec). table_or_none (table_in tables o)) e ∙ ap table_or_none table.1)) (found_table tables spec.table table.0 table.1);
    }

root_in_line : (mapped : Mapped) (class : ClassId) (root : Option ClassId) → is_root_over mapped.schema.tables (spec_at mapped.classes.specs root) ≡ true → IsRootOver mapped (class_or root class)
root_in_line mapped class None h = absurd cc
root_in_line mapped class (Some root) h = root_by mapped root (slice_get mapped.classes.specs root.0) refl h

line_rooted : (mapped : Mapped) (class : ClassId) (line : Option (List ClassId)) → slice_get mapped.classes.lines class.0 ≡ line → AreLines mapped.schema.tables mapped.classes → is_some line ≡ true
    → is_rooted mapped.schema.tables mapped.classes.specs (line_or_none line) ≡ true
line_rooted mapped class None e lines h = absurd cc
line_rooted mapped class (Some line) e lines h = all_at (is_rooted mapped.schema.tables mapped.classes.specs) mapped.classes.lines class.0 line lines.rooted e

root_is : (mapped : Mapped) (class : ClassId) → length mapped.classes.lines ≡ length mapped.classes.specs → AreLines mapped.schema.tables mapped.classes → IsClass mapped class → IsRootOver mapped (root_of mapped class)
root_is mapped class lined lines less =
    let within : class.0 < length mapped.classes.lines = rw lined less in
    root_in_line mapped class (root_in (line_of mapped.classes class.0))
    (line_rooted mapped class (slice_get mapped.classes.lines class.0) refl lines (ap is_some (slice_get-get_or mapped.classes.lines class.0 [] within)))

-- the same of a mapping that is seen
pub root_seen : (schema : Catalog) (classes : Classes) (mapped : Mapped) (class : ClassId) → record { schema = schema; classes = classes } ≡ mapped
    → length classes.lines ≡ length classes.specs → AreLines schema.tables classes → IsClass mapped class → IsRootOver mapped (root_of mapped class)
root_seen schema classes mapped class e lined lines =
    subst (λ (m : Mapped). IsClass m class → IsRootOver m (root_of m class)) e (root_is (record { schema = schema; classes = classes }) class lined lines)
