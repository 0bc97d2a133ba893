-- A statement on rows passes the test exactly where it is well formed.
use Rattle.std.proofs.Common.{◌≡◌, ℕ, ◌<◌, ◌≤◌, Bool, true, not, ◌&&◌, ◌||◌, ◌==◌, ◌↔◌, IsTrue, List, length, sym, ◌∙◌, arith}
use Rattle.std.proofs.lemmas.Bool.{and_from, and_parts}
use Rattle.std.proofs.lemmas.Bool.Decides.{nat_tests}
use Rattle.std.specs.Prelude.{nat_lt}
use Rattle.std.specs.List.{list_all, list_any}
use Rattle.base_core.specs.declared.value.Value.{Value}
use Rattle.schema_core.specs.declared.statement.RowStmt.{RowStmt}
use Rattle.schema_core.specs.declared.statement.RowStmt.TheVariants.{Insert, Update, Delete}
use Rattle.schema_core.specs.declared.table.TableSpec.{TableSpec}
use Rattle.schema_core.specs.Apply.{wants_key}
use Rattle.schema_core.specs.Catalog.{Catalog, spec_of}
use Rattle.schema_core.specs.WellFormed.{AreNewRows, IsWellFormed, are_cells, is_key, is_row}
use Rattle.schema_core.specs.WellFormedTest.{are_alike, are_new_rows, are_some, are_wide_enough, is_well_formed}

below : (a b : ℕ) → nat_lt a b ≡ true → a < b
below a b h = grind (arith, nat_tests)

less : (a b : ℕ) → a < b → nat_lt a b ≡ true
less a b h = grind (arith, nat_tests)

few : (count : ℕ) → not (nat_lt 1000 count) ≡ true → count ≤ 1000
few count h = grind (arith, nat_tests)

not_many : (count : ℕ) → count ≤ 1000 → not (nat_lt 1000 count) ≡ true
not_many count h = grind (arith, nat_tests)

is_one : (columns count : ℕ) (wants : Bool) → (not (columns == 1) || (not wants || (count == 1))) ≡ true → columns ≡ 1 → wants ≡ true → count ≡ 1
is_one columns count wants h narrow wanted = grind (arith, nat_tests)

if_one : (columns count : ℕ) (wants : Bool) → (columns ≡ 1 → wants ≡ true → count ≡ 1) → (not (columns == 1) || (not wants || (count == 1))) ≡ true
if_one columns count wants h = grind (arith, nat_tests)

module _ (spec : TableSpec) (rows : List (List Value)) where
  new_rows : are_new_rows spec rows ≡ true → AreNewRows spec rows
  new_rows h =
      let count = and_parts (are_some (length rows)) (list_all (is_row spec) rows && (are_alike spec rows && are_wide_enough spec rows)) h in
      let some = and_parts (nat_lt 0 (length rows)) (not (nat_lt 1000 (length rows))) count.0 in
      let wide = and_parts (list_all (is_row spec) rows) (are_alike spec rows && are_wide_enough spec rows) count.1 in
      let alike = and_parts (are_alike spec rows) (are_wide_enough spec rows) wide.1 in
      record {
        some = below 0 (length rows) some.0;
        few = few (length rows) some.1;
        wide = wide.0;
        alike = alike.0;
        alone = is_one (length spec.columns) (length rows) (list_any (wants_key spec) rows) alike.1;
      }

  if_new_rows : AreNewRows spec rows → are_new_rows spec rows ≡ true
  if_new_rows are =
      and_from (are_some (length rows)) (list_all (is_row spec) rows && (are_alike spec rows && are_wide_enough spec rows))
      (and_from (nat_lt 0 (length rows)) (not (nat_lt 1000 (length rows))) (less 0 (length rows) are.some) (not_many (length rows) are.few))
      (and_from (list_all (is_row spec) rows) (are_alike spec rows && are_wide_enough spec rows) are.wide
      (and_from (are_alike spec rows) (are_wide_enough spec rows) are.alike (if_one (length spec.columns) (length rows) (list_any (wants_key spec) rows) are.alone)))

module _ (schema : Catalog) where
  pub formed : (statement : RowStmt) → is_well_formed schema statement ≡ true → IsWellFormed schema statement
  formed (Insert table rows) h =
      let parts = and_parts (nat_lt table.0 (length schema.tables)) (are_new_rows (spec_of schema table) rows) h in
      (below table.0 (length schema.tables) parts.0, new_rows (spec_of schema table) rows parts.1)
  formed (Update table key cells) h =
      let keyed : Bool = is_key (spec_of schema table) key in
      let some : Bool = nat_lt 0 (length cells) in
      let fit : Bool = are_cells 0 (spec_of schema table).columns cells in
      let first = and_parts (nat_lt table.0 (length schema.tables)) (keyed && (some && fit)) h in
      let second = and_parts keyed (some && fit) first.1 in
      let third = and_parts some fit second.1 in
      (below table.0 (length schema.tables) first.0, second.0, below 0 (length cells) third.0, third.1)
  formed (Delete table key) h =
      let parts = and_parts (nat_lt table.0 (length schema.tables)) (is_key (spec_of schema table) key) h in
      (below table.0 (length schema.tables) parts.0, parts.1)

  passes : (statement : RowStmt) → IsWellFormed schema statement → is_well_formed schema statement ≡ true
  passes (Insert table rows) is =
      and_from (nat_lt table.0 (length schema.tables)) (are_new_rows (spec_of schema table) rows) (less table.0 (length schema.tables) is.0) (if_new_rows (spec_of schema table) rows is.1)
  passes (Update table key cells) is =
      let keyed : Bool = is_key (spec_of schema table) key in
      let some : Bool = nat_lt 0 (length cells) in
      let fit : Bool = are_cells 0 (spec_of schema table).columns cells in
      and_from (nat_lt table.0 (length schema.tables)) (keyed && (some && fit)) (less table.0 (length schema.tables) is.0)
      (and_from keyed (some && fit) is.1 (and_from some fit (less 0 (length cells) is.2) is.3))
  passes (Delete table key) is =
      and_from (nat_lt table.0 (length schema.tables)) (is_key (spec_of schema table) key) (less table.0 (length schema.tables) is.0) is.1

  pub decided : (statement : RowStmt) (b : Bool) → b ≡ is_well_formed schema statement → IsTrue b ↔ IsWellFormed schema statement
  decided statement b is = ((λ h. formed statement (sym is ∙ h)), (λ w. is ∙ passes statement w))
