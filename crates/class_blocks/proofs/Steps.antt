-- Steps of loops over what is left of a list.
use Rattle.std.proofs.Common.{◌≡◌, ℕ, ◌+◌, ◌<◌, List, [], ◌∷◌, ◌∙◌, length, get_or, drop, ap, sym, None}
use Rattle.std.specs.Prelude.{slice_get, unwrap_or}
use Rattle.std.specs.List.{enumerate_from}
use Rattle.std.proofs.lemmas.Option.{unwrap_or-slice_get}
use Rattle.base_core.specs.declared.ids.TableId.{TableId}
use Rattle.schema_core.specs.declared.table.TableSpec.{TableSpec}
use Rattle.schema_core.specs.Catalog.{no_table}
use Rattle.class_blocks.specs.Tables.{columns_in}
use Rattle.std.proofs.lemmas.List.{drop_more}

-- what is left begins with the item there
pub left_at : {A : Type 0} (xs : List A) (i : ℕ) (d : A) → i < length xs → drop i xs ≡ get_or xs i d ∷ drop (i + 1) xs
left_at xs i d h = drop_more xs i d h

-- numbered from a place on, what is left begins with the item there
pub numbered_at : {A : Type 0} (xs : List A) (i : ℕ) (d : A) → i < length xs → enumerate_from i (drop i xs) ≡ (i, get_or xs i d) ∷ enumerate_from (i + 1) (drop (i + 1) xs)
numbered_at xs i d h = ap (enumerate_from i) (drop_more xs i d h)

pub ruleset steps = (left_at, numbered_at)

-- a table that is not declared has no columns
pub none_there : (tables : List TableSpec) (table : TableId) → slice_get tables table.0 ≡ None → [] ≡ columns_in tables table
none_there tables table h =
    sym (ap (λ o. (unwrap_or o no_table).columns) h) ∙ ap (λ (spec : TableSpec). spec.columns) (unwrap_or-slice_get tables table.0 no_table)
