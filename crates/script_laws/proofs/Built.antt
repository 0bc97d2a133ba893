-- What mappings keep as tables and classes are declared, and that a configured one is as the laws of sessions ask.
use Rattle.std.proofs.Common.{◌≡◌, ◌<◌, ◌≤◌, ℕ, ◌+◌, true, List, [], ◌∷◌, ◌++◌, length, take, get_or, Option, None, Some, Result, Ok, Err, ⊎_elim, refl, sym, ap, ◌∙◌, subst, arith}
use Rattle.std.proofs.Math.Seq.{take-length}
use Rattle.std.specs.List.{list_all}
use Rattle.std.proofs.lemmas.Bool.{and_from, cases_lt}
use Rattle.std.proofs.lemmas.List.Folds.{list_all-append}
use Rattle.std.proofs.lemmas.List.{get_or_append_left, get_or_at, length-append, take-append-le}
use Rattle.base_core.specs.declared.ids.ClassId.{ClassId}
use Rattle.base_core.specs.declared.ids.TableId.{TableId}
use Rattle.base_core.specs.declared.refusal.ArgumentKind.{ArgumentKind}
use Rattle.base_core.specs.declared.refusal.Refusal.{Refusal}
use Rattle.schema_core.specs.declared.table.TableSpec.{TableSpec}
use Rattle.schema_core.specs.Catalog.{Catalog, no_table}
use Rattle.schema_core.specs.Declaration.{declaration_fault, declare, declared_unless as table_unless}
use Rattle.class_types.specs.Rules.{Rules}
use Rattle.class_types.specs.declared.declared.ClassSpec.{ClassSpec}
use Rattle.class_layouts.specs.declared.classes.Classes.{Classes}
use Rattle.class_layouts.specs.Columns.{layouts_of}
use Rattle.class_layouts.specs.Declaring.{declared_unless}
use Rattle.class_layouts.specs.Faults.{class_fault}
use Rattle.class_layouts.specs.Hierarchy as hierarchy
use Rattle.class_mapping.specs.Declaring.{class_unless, configure, configured_mapping, configured_unless, declare_class, declare_table, over_tables, with_class}
use Rattle.class_mapping.specs.Lines.{AreLines}
use Rattle.class_mapping.specs.Mapped.{IsValidMapping, Mapped, fault_of}
use Rattle.class_mapping.proofs.LineLemmas.{lines_class, lines_table}
use Rattle.class_mapping.proofs.MappingLemmas.{lined_more, orphans_more}
use Rattle.class_mapping.proofs.PlainClassLemmas.{table_taken}
use Rattle.class_mapping.proofs.RelatedPairs.{are_related}
use Rattle.class_mapping.proofs.ValidLemmas.{valid_from}
use Rattle.session_laws.specs.Configured.{has_late_links}
use Rattle.session_laws.proofs.Configured.{well_mapped}
use Rattle.session_laws.specs.Graphs.{IsWellMapped}
use Rattle.shell_steps.specs.ShellState.{new_mapping}
use Rattle.script_laws.specs.Scripts.{IsBuilt}

-- ---- nothing is declared

no_lines : AreLines [] (record { specs = []; lines = [] })
no_lines = record {
  rooted = refl;
  declared = refl;
  own = λ class less. absurd (omega (arith, less));
  once = refl;
  nested = λ class above inside. absurd cc;
  named = refl;
  apart = refl;
  told = λ class spec at. absurd cc;
}

pub new_built : IsBuilt 0 new_mapping
new_built = record { lined = refl; lines = no_lines; late = refl; orphans = refl; faultless = λ place less. absurd (omega (arith, less)); few = omega arith }

-- it is so in more lines
pub built_wider : (count more : ℕ) (mapped : Mapped) → count ≤ more → IsBuilt count mapped → IsBuilt more mapped
built_wider count more mapped least built = record { lined = built.lined; lines = built.lines; late = built.late; orphans = built.orphans; faultless = built.faultless; few = omega (arith, built.few, least) }

-- ---- one table more

no_fault : (fault : Option ArgumentKind) (schema : Catalog) (spec : TableSpec) (p : TableId × Catalog) → table_unless fault schema spec ≡ Ok p → fault ≡ None
no_fault None schema spec p is = refl
no_fault (Some kind) schema spec p is = absurd cc

faultless_more : (tables : List TableSpec) (spec : TableSpec) → declaration_fault tables spec ≡ None
    → ((place : ℕ) → place < length tables → declaration_fault (take place tables) (get_or tables place no_table) ≡ None)
    → (place : ℕ) → place < length (tables ++ spec ∷ []) → declaration_fault (take place (tables ++ spec ∷ [])) (get_or (tables ++ spec ∷ []) place no_table) ≡ None
faultless_more tables spec none before place less =
    ⊎_elim
    (λ (inside : place < length tables).
    ap (λ (front : List TableSpec). declaration_fault front (get_or (tables ++ spec ∷ []) place no_table)) (take-append-le place tables (spec ∷ []) (omega (arith, inside)))
    ∙ ap (declaration_fault (take place tables)) (get_or_append_left tables (spec ∷ []) no_table place inside)
    ∙ before place inside)
    (λ (behind : length tables ≤ place).
    let long : length (tables ++ spec ∷ []) ≡ length tables + 1 = length-append tables (spec ∷ []) in
    let last : place ≡ length tables = omega (arith, behind, less, long) in
    let least : length tables ≤ length tables = omega arith in
    ap (λ (n : ℕ). declaration_fault (take n (tables ++ spec ∷ [])) (get_or (tables ++ spec ∷ []) n no_table)) last
    ∙ ap (λ (front : List TableSpec). declaration_fault front (get_or (tables ++ spec ∷ []) (length tables) no_table)) (take-append-le (length tables) tables (spec ∷ []) least ∙ take-length tables)
    ∙ ap (declaration_fault tables) (get_or_at tables spec [] no_table (length tables) refl)
    ∙ none)
    (cases_lt place (length tables))

with_one_table : (count : ℕ) (mapped : Mapped) (spec : TableSpec) (table : TableId) (new : Catalog) → declare mapped.schema spec ≡ Ok (table, new) → IsBuilt count mapped → IsBuilt (count + 1) (record { schema = new; classes = mapped.classes })
unfolding declare
with_one_table count mapped spec table new is built =
    let taken : new.tables ≡ mapped.schema.tables ++ spec ∷ [] = ap (λ (schema : Catalog). schema.tables) (table_taken mapped.schema spec table new is) in
    let long : length (mapped.schema.tables ++ spec ∷ []) ≡ length mapped.schema.tables + 1 = length-append mapped.schema.tables (spec ∷ []) in
    let none : declaration_fault mapped.schema.tables spec ≡ None = no_fault (declaration_fault mapped.schema.tables spec) mapped.schema spec (table, new) is in
    record {
      lined = built.lined;
      lines = lines_table mapped.schema spec table new mapped.classes is built.lines;
      late = built.late;
      orphans = built.orphans;
      few = subst (λ (tables : List TableSpec). length tables ≤ count + 1) (sym taken) (omega (arith, long, built.few));
      faultless = subst (λ (schema : Catalog). (place : ℕ) → place < length schema.tables → declaration_fault (take place schema.tables) (get_or schema.tables place no_table) ≡ None) (sym (table_taken mapped.schema spec table new is))
          (faultless_more mapped.schema.tables spec none built.faultless);
    }

over_built : (count : ℕ) (mapped : Mapped) (spec : TableSpec) (r : Result (TableId × Catalog) Refusal) (p : TableId × Mapped) → declare mapped.schema spec ≡ r → over_tables mapped r ≡ Ok p → IsBuilt count mapped → IsBuilt (count + 1) p.1
over_built count mapped spec (Ok (table, new)) p at is built =
    let now : Mapped = record { schema = new; classes = mapped.classes } in
    subst (λ (q : TableId × Mapped). IsBuilt (count + 1) q.1) (let same : (let q : TableId × Mapped = (table, now) in q ≡ p) = cc in same) (with_one_table count mapped spec table new at built)
over_built count mapped spec (Err e) p at is built = absurd cc

pub table_built : (count : ℕ) (mapped : Mapped) (spec : TableSpec) (p : TableId × Mapped) → declare_table mapped spec ≡ Ok p → IsBuilt count mapped → IsBuilt (count + 1) p.1
unfolding declare_table
table_built count mapped spec p is built = over_built count mapped spec (declare mapped.schema spec) p refl is built

-- ---- one class more

with_one_class : (count : ℕ) (rules : Rules) (mapped : Mapped) (spec : ClassSpec) → class_fault rules mapped.schema.tables mapped.classes spec ≡ None → has_late_links spec ≡ true → IsBuilt count mapped → IsBuilt count (with_class mapped spec)
with_one_class count rules mapped spec none late built =
    let tables : List TableSpec = mapped.schema.tables in
    let new : Classes = hierarchy.with_class mapped.classes spec in
    let taken : declared_unless (class_fault rules tables mapped.classes spec) mapped.classes spec ≡ Ok (tt, new) = ap (λ (fault : Option ArgumentKind). declared_unless fault mapped.classes spec) none in
    record {
      lined = lined_more mapped.classes spec new refl built.lined;
      lines = lines_class rules tables mapped.classes spec new taken built.lined built.lines;
      late = list_all-append has_late_links mapped.classes.specs (spec ∷ []) ∙ and_from (list_all has_late_links mapped.classes.specs) (list_all has_late_links (spec ∷ [])) built.late (and_from (has_late_links spec) true late refl);
      orphans = orphans_more rules tables mapped.classes spec new taken built.orphans;
      faultless = built.faultless;
      few = built.few;
    }

unless_built : (count : ℕ) (rules : Rules) (mapped : Mapped) (spec : ClassSpec) (fault : Option ArgumentKind) (p : ClassId × Mapped) → class_fault rules mapped.schema.tables mapped.classes spec ≡ fault → class_unless fault mapped spec ≡ Ok p → has_late_links spec ≡ true → IsBuilt count mapped → IsBuilt count p.1
unless_built count rules mapped spec None p at is late built =
    let first : ClassId = record { 0 = length mapped.classes.specs } in
    subst (λ (q : ClassId × Mapped). IsBuilt count q.1) (let same : (let q : ClassId × Mapped = (first, with_class mapped spec) in q ≡ p) = cc in same) (with_one_class count rules mapped spec at late built)
unless_built count rules mapped spec (Some kind) p at is late built = absurd cc

pub class_built : (count : ℕ) (rules : Rules) (mapped : Mapped) (spec : ClassSpec) (p : ClassId × Mapped) → declare_class rules mapped spec ≡ Ok p → has_late_links spec ≡ true → IsBuilt count mapped → IsBuilt count p.1
unfolding declare_class
class_built count rules mapped spec p is late built = unless_built count rules mapped spec (class_fault rules mapped.schema.tables mapped.classes spec) p refl is late built

-- ---- all is checked

found_well : (count : ℕ) (mapped : Mapped) → fault_of mapped ≡ None → IsBuilt count mapped → count ≤ 4294967295 → IsWellMapped (configured_mapping mapped)
found_well count mapped none built few =
    let now : Mapped = configured_mapping mapped in
    let valid : IsValidMapping now = valid_from mapped.schema.tables mapped.classes (layouts_of mapped.schema.tables mapped.classes) built.orphans none in
    well_mapped now built.lined built.lines valid (are_related now built.lined built.lines valid) (record { count = omega (arith, built.few, few); faultless = built.faultless; targets = λ done. valid.targets }) built.late

configured_by : (count : ℕ) (mapped : Mapped) (fault : Option ArgumentKind) (mapping : Mapped) → fault_of mapped ≡ fault → configured_unless fault mapped ≡ Ok mapping → IsBuilt count mapped → count ≤ 4294967295 → IsWellMapped mapping
configured_by count mapped None mapping at is built few =
    subst IsWellMapped (let same : configured_mapping mapped ≡ mapping = cc in same) (found_well count mapped at built few)
configured_by count mapped (Some kind) mapping at is built few = absurd cc

pub configured_well : (count : ℕ) (mapped mapping : Mapped) → configure mapped ≡ Ok mapping → IsBuilt count mapped → count ≤ 4294967295 → IsWellMapped mapping
unfolding configure
configured_well count mapped mapping is built few = configured_by count mapped (fault_of mapped) mapping refl is built few
