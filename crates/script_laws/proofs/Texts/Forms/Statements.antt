-- The text of a plain statement is read as it.
use Rattle.expr_types.specs.declared.select.Statement.TheVariants.{Select as of_select, Bulk as of_bulk, Row as of_row}
use Rattle.script_laws.specs.Texts.Forms.Read.{StatementsAreRead}
use Rattle.script_laws.proofs.Texts.Forms.Bulks.{bulks_are_read}
use Rattle.script_laws.proofs.Texts.Forms.Rows.{rows_are_read}
use Rattle.script_laws.proofs.Texts.Forms.Selects.{selects_are_read}

pub statements_are_read : StatementsAreRead
statements_are_read dialect schema (of_select it) plain = selects_are_read dialect schema it plain
statements_are_read dialect schema (of_bulk it) plain = bulks_are_read dialect schema it plain
statements_are_read dialect schema (of_row it) plain = rows_are_read dialect schema it plain
