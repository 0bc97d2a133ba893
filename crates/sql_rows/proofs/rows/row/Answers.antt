use Rattle.std.proofs.Common.{ℕ, List, [], ◌∷◌, codes, sym, subst}
use Rattle.base_core.specs.declared.value.Value.{Value}
use Rattle.schema_core.specs.declared.statement.RowStmt.{RowStmt}
use Rattle.schema_core.specs.Catalog.{spec_of}
use Rattle.sql_text.specs.Pages.{WroteOn}
use Rattle.sql_text.specs.Written.{words, name}
use Rattle.sql_text.proofs.Pages.{wrote_then}
use Rattle.sql_rows.specs.Rows.{by_key, row_pieces}
use Rattle.sql_rows.proofs.rows.row.Goals as goal

pub returns-in-Delete : goal.returns-in-Delete
unfolding row_pieces
returns-in-Delete c =
    let spec = spec_of c.args.schema.now c.in-Delete.table in
    let named = subst (λ (shown : List ℕ). WroteOn (name shown ∷ []) c.put_words-in-Delete.new.self c.put_shown-in-Delete.new.self) c.table_name-in-Delete.ensures c.put_shown-in-Delete.ensures in
    let keyed = subst (λ (key : List Value). WroteOn (by_key spec key) c.put_shown-in-Delete.new.self c.by_key-in-Delete.new.page) c.as_slice-in-Delete.ensures c.by_key-in-Delete.ensures in
    let behind = wrote_then (name spec.name ∷ []) (by_key spec c.in-Delete.key) c.put_words-in-Delete.new.self c.put_shown-in-Delete.new.self c.by_key-in-Delete.new.page named keyed in
    let all = wrote_then (words (codes "DELETE FROM ") ∷ []) (name spec.name ∷ by_key spec c.in-Delete.key) c.args.page.now c.put_words-in-Delete.new.self c.by_key-in-Delete.new.page c.put_words-in-Delete.ensures behind in
    subst (λ (statement : RowStmt). WroteOn (row_pieces c.args.page.now.written.dialect c.args.schema.now statement) c.args.page.now c.by_key-in-Delete.new.page) (sym c.in-Delete.is) all
