-- The foreign keys that are added once all tables are made.
use Rattle.std.specs.Prelude.{ℕ, ◌+◌, Bool, true, false, ◌==◌, nat_lt, List, [], ◌∷◌, ◌++◌, Option, None, Some}
use Rattle.std.specs.List.{position}
use Rattle.base_core.specs.declared.ids.TableId.{TableId}
use Rattle.schema_core.specs.declared.table.ForeignSpec.{ForeignSpec}
use Rattle.schema_core.specs.Catalog.{Catalog, spec_of, target_of}
use Rattle.schema_core.specs.DependencyOrder.{dependency_order}
use Rattle.base_core.specs.declared.dialect.Dialect.{Dialect}
use Rattle.base_core.specs.declared.dialect.Dialect.TheVariants.{Sqlite, Postgresql, Mysql}

-- the place of a table in an order
abbrev pub place_in : List TableId → TableId → Option ℕ
place_in order table = position (λ other. other.0 == table.0) order

-- one place stands before another
abbrev pub is_before : Option ℕ → Option ℕ → Bool
is_before (Some one) (Some other) = nat_lt one other
is_before one other = false

-- the target of a table's foreign key comes behind the table
abbrev pub is_behind : List TableId → TableId → Option TableId → Bool
is_behind order table None = false
is_behind order table (Some target) = is_before (place_in order table) (place_in order target)

abbrev pub number_if : Bool → ℕ → List ℕ
number_if false number = []
number_if true number = number ∷ []

-- the numbers of those of the foreign keys from a number on whose targets come behind the table
abbrev pub numbers_from : Catalog → List TableId → TableId → ℕ → List ForeignSpec → List ℕ
numbers_from schema order table number [] = []
numbers_from schema order table number (foreign ∷ foreigns) =
    number_if (is_behind order table (target_of schema foreign)) number ++ numbers_from schema order table (number + 1) foreigns

abbrev pub numbers_behind : Catalog → List TableId → TableId → List ℕ
numbers_behind schema order table = numbers_from schema order table 0 (spec_of schema table).foreigns

-- The numbers of a table's foreign keys that are added once all tables are made: those whose targets are made behind the table. In SQLite a
-- table is made with all of them.
abbrev pub later_foreigns : Dialect → Catalog → TableId → List ℕ
later_foreigns Sqlite schema table = []
later_foreigns Postgresql schema table = numbers_behind schema (dependency_order schema) table
later_foreigns Mysql schema table = numbers_behind schema (dependency_order schema) table
