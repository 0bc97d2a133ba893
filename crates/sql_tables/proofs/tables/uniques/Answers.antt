use Rattle.std.proofs.Common.{ℕ, ◌+◌, ◌<◌, List, length, drop, ap, arith, subst}
use Rattle.sql_text.specs.Pages.{WroteOn}
use Rattle.sql_text.proofs.Pages.{dropped}
use Rattle.sql_text.proofs.Pages.{more_on}
use Rattle.sql_tables.specs.Ddl.{unique_pieces, uniques_pieces}
use Rattle.sql_tables.proofs.tables.uniques.Goals as goal

pub loop-columns-preserved : goal.loop-columns-preserved
loop-columns-preserved c =
    let less : c.loop-columns.columns-index < length c.args.uniques.now = omega arith in
    let told = subst (λ (names : List (List ℕ)). WroteOn (unique_pieces names) c.loop-columns.page c.unique.new.page) c.as_slice.ensures c.unique.ensures in
    more_on (unique_pieces c.columns-item.result) (uniques_pieces (drop (c.loop-columns.columns-index + 1) c.args.uniques.now)) _ c.loop-columns.page c.unique.new.page _ (ap uniques_pieces (dropped c.args.uniques.now c.loop-columns.columns-index c.columns-item.result less c.columns-item.is)) c.loop-columns.invariant told
