use Rattle.std.proofs.Common.{ℕ, List, [], ◌∷◌, codes, subst}
use Rattle.base_core.specs.declared.dialect.Dialect.{Dialect}
use Rattle.sql_text.specs.Pages.{WroteOn}
use Rattle.sql_text.specs.Written.{words, name}
use Rattle.sql_rows.specs.Rows.{table_piece}
use Rattle.sql_statements.specs.Bulks.{filter_pieces}
use Rattle.sql_text.proofs.Pages.{wrote_in}
use Rattle.sql_statements.proofs.bulks.delete.Goals as goal

pub returns : goal.returns
returns c =
    let table = subst (λ (shown : List ℕ). WroteOn (name shown ∷ []) c.put_words.new.self c.put_shown.new.self) c.table_name.ensures c.put_shown.ensures in
    let behind = wrote_in (table_piece c.args.schema.now c.args.table ∷ []) (λ (q : Dialect). filter_pieces q c.args.schema.now c.args.table c.args.condition.now) c.put_words.new.self c.put_shown.new.self c.filter.new.page table c.filter.ensures in
    wrote_in (words (codes "DELETE FROM ") ∷ []) (λ (q : Dialect). table_piece c.args.schema.now c.args.table ∷ filter_pieces q c.args.schema.now c.args.table c.args.condition.now) c.args.page.now c.put_words.new.self c.filter.new.page c.put_words.ensures behind
