-- Tables are in the total order of their numbers.
use Rattle.std.specs.Cmp.{IsTotalOrder, on_total, nat_cmp_total}
use Rattle.schema_core.specs.Tables.{table_cmp}

pub tables_total : IsTotalOrder table_cmp
tables_total = on_total (λ table. table.0) nat_cmp_total
