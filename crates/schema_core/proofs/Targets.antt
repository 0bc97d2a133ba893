-- In resolved tables the target of each foreign key is declared.
use Rattle.std.proofs.Common.{◌≡◌, ℕ, ◌<◌, true, false, List, length, get_or, Option, None, sym, ap, ◌∙◌}
use Rattle.std.proofs.lemmas.List.Sums.{AllPass-from_list_all}
use Rattle.std.specs.List.{list_all}
use Rattle.schema_core.specs.declared.table.ForeignSpec.{ForeignSpec}
use Rattle.schema_core.specs.declared.table.TableSpec.{TableSpec}
use Rattle.schema_core.specs.Catalog.{find_table, no_foreign, no_table}
use Rattle.schema_core.specs.Declaration.{has_target, has_targets, refers_to}

has_one : (tables : List TableSpec) (spec : TableSpec) (foreign : ForeignSpec) → has_target tables spec foreign ≡ true → find_table tables foreign.target ≡ None → ⊥
has_one tables spec foreign has none = let clash : false ≡ true = sym (ap (refers_to tables spec foreign) none) ∙ has in cc

pub target_declared : (tables : List TableSpec) (t f : ℕ) → has_targets tables ≡ true → t < length tables → f < length (get_or tables t no_table).foreigns → find_table tables (get_or (get_or tables t no_table).foreigns f no_foreign).target ≡ None → ⊥
target_declared tables t f all h k none =
    let inner = AllPass-from_list_all (λ spec. list_all (has_target tables spec) spec.foreigns) tables all t no_table h in
    has_one tables (get_or tables t no_table) (get_or (get_or tables t no_table).foreigns f no_foreign) (AllPass-from_list_all (has_target tables (get_or tables t no_table)) (get_or tables t no_table).foreigns inner f no_foreign k) none
