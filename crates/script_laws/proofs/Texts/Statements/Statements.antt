-- A text with its values is one plain statement of a kind.
use Rattle.std.proofs.Common.{◌≡◌, ℕ, ◌^◌, true, not, List, [], ◌∷◌, Option, Some, None, refl, sym, ap, subst}
use Rattle.std.specs.Prelude.{is_some}
use Rattle.std.specs.List.{list_all}
use Rattle.std.proofs.lemmas.Bool.{and_parts, and_from, ltb-true}
use Rattle.base_core.specs.declared.ids.ColumnNo.{ColumnNo}
use Rattle.base_core.specs.declared.value.Value.{Value}
use Rattle.base_core.specs.declared.ids.TableId.{TableId}
use Rattle.schema_core.specs.declared.table.ColumnSpec.{ColumnSpec}
use Rattle.schema_core.specs.Catalog.{Catalog}
use Rattle.schema_core.specs.Declaration.{IsDeclared}
use Rattle.expr_types.specs.declared.expr.Expr.{Expr}
use Rattle.expr_types.specs.declared.select.Bulk.TheVariants as bulk
use Rattle.expr_types.specs.declared.select.Statement.{Statement}
use Rattle.expr_types.specs.declared.select.Statement.TheVariants.{Select as of_select, Bulk as of_bulk, Row as of_row}
use Rattle.sql_semantics.specs.Kinds.{column_in}
use Rattle.sql_semantics.specs.Plain.{is_free_column, is_key_column, is_limit}
use Rattle.sql_semantics.specs.PlainStatement.{IsPlain}
use Rattle.sql_rows.specs.Cuts.{IsCut}
use Rattle.sql_statements.specs.Texts.{HasCuts, text_of}
use Rattle.script_laws.specs.Texts.Forms.Read.{ReadsStatement}
use Rattle.script_laws.proofs.Texts.Forms.Statements.{statements_are_read}
use Rattle.script_laws.specs.Texts.Statements.{IsOneStatement, SentIsPlain, TextsTellStatements}
use Rattle.script_laws.proofs.Texts.Statements.Selects.{one_select}
use Rattle.script_laws.proofs.Texts.Statements.Bulks.{one_bulk}
use Rattle.script_laws.proofs.Texts.Statements.Rows.{one_row}
use Rattle.script_laws.proofs.Texts.Statements.Declared.{declared_names_are_distinct}

pub one_statement : (schema : Catalog) → IsDeclared schema.tables schema.resolved → IsOneStatement schema
one_statement schema declared dialect text values (of_select it) (of_select other) plain other_plain one reads other_reads =
    ap of_select (one_select dialect schema text values it other (declared_names_are_distinct schema declared).0 plain other_plain reads other_reads)
one_statement schema declared dialect text values (of_select it) (of_bulk other) plain other_plain one reads other_reads = absurd one
one_statement schema declared dialect text values (of_select it) (of_row other) plain other_plain one reads other_reads = absurd one
one_statement schema declared dialect text values (of_bulk it) (of_select other) plain other_plain one reads other_reads = absurd one
one_statement schema declared dialect text values (of_bulk it) (of_bulk other) plain other_plain one reads other_reads =
    ap of_bulk (one_bulk dialect schema text values it other (declared_names_are_distinct schema declared).0 plain other_plain reads other_reads)
one_statement schema declared dialect text values (of_bulk it) (of_row other) plain other_plain one reads other_reads = absurd one
one_statement schema declared dialect text values (of_row it) (of_select other) plain other_plain one reads other_reads = absurd one
one_statement schema declared dialect text values (of_row it) (of_bulk other) plain other_plain one reads other_reads = absurd one
one_statement schema declared dialect text values (of_row it) (of_row other) plain other_plain one reads other_reads =
    let names = declared_names_are_distinct schema declared in
    ap of_row (one_row dialect schema text values it other names.0 names.1 plain other_plain reads other_reads)

pub texts_tell_statements : (schema : Catalog) → IsDeclared schema.tables schema.resolved → TextsTellStatements schema
texts_tell_statements schema declared dialect it other plain other_plain one texts values =
    one_statement schema declared dialect (text_of dialect schema it).text (text_of dialect schema it).values it other plain other_plain one (statements_are_read dialect schema it plain)
    (subst (λ (text : List ℕ). ReadsStatement dialect schema text (text_of dialect schema it).values other) (sym texts)
    (subst (λ (vs : List Value). ReadsStatement dialect schema (text_of dialect schema other).text vs other) (sym values) (statements_are_read dialect schema other other_plain)))

-- ---- what a keeper may be sent

there : (o : Option ColumnSpec) → not (is_key_column o) ≡ true → is_some o ≡ true
there None h = absurd (cc)
there (Some column) h = refl

all_there : (schema : Catalog) (table : TableId) (cells : List (ColumnNo × Option Expr)) → list_all (λ c. is_free_column schema table c.0) cells ≡ true → list_all (λ c. is_some (column_in schema (table ∷ []) 0 c.0)) cells ≡ true
all_there schema table [] h = refl
all_there schema table (c ∷ cs) h =
    let both = and_parts (is_free_column schema table c.0) (list_all (λ (d : ColumnNo × Option Expr). is_free_column schema table d.0) cs) h in
    and_from (is_some (column_in schema (table ∷ []) 0 c.0)) (list_all (λ (d : ColumnNo × Option Expr). is_some (column_in schema (table ∷ []) 0 d.0)) cs) (there (column_in schema (table ∷ []) 0 c.0) both.0)
    (all_there schema table cs both.1)

pub sent_is_plain : SentIsPlain
sent_is_plain schema (bulk.Insert table columns values) sent = (sent.0, sent.2)
sent_is_plain schema (bulk.Update table cells filter) sent = (sent.0, all_there schema table cells sent.2, sent.3, sent.4)
sent_is_plain schema (bulk.Delete table filter) sent = sent

-- ---- what may be compiled

cut_fits : (n : Option ℕ) → is_limit n ≡ true → IsCut n
cut_fits None h = tt
cut_fits (Some n) h = ltb-true n (2 ^ 63) h

pub plain_has_cuts : (schema : Catalog) (it : Statement) → IsPlain schema it → HasCuts it
plain_has_cuts schema (of_select it) plain = (cut_fits it.limit plain.fits_limit, cut_fits it.offset plain.fits_offset)
plain_has_cuts schema (of_bulk it) plain = tt
plain_has_cuts schema (of_row it) plain = tt
