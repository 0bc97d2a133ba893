use Rattle.std.proofs.Common.{ℕ, List, [], ◌∷◌, Option, codes, subst}
use Rattle.expr_types.specs.declared.expr.Expr.{Expr}
use Rattle.expr_types.specs.declared.expr.Origin.{Origin}
use Rattle.sql_semantics.specs.Plain.{sources_of}
use Rattle.base_core.specs.declared.dialect.Dialect.{Dialect}
use Rattle.sql_text.specs.Words.{select_word}
use Rattle.sql_text.specs.Pages.{WroteOn}
use Rattle.sql_text.specs.Written.{words, with_separators}
use Rattle.sql_statements.specs.Selects.{item_pieces}
use Rattle.sql_text.proofs.Pages.{wrote_in}
use Rattle.sql_statements.proofs.selects.head.Goals as goal

pub returns : goal.returns
returns c =
    let word = subst (λ (shown : List ℕ). WroteOn (words shown ∷ []) c.args.page.now c.put_words.new.self) c.select_word.ensures c.put_words.ensures in
    let scoped = subst (λ (scope : List Origin). WroteOn (with_separators (codes ", ") (item_pieces c.put_words.new.self.written.dialect c.args.schema.now scope) c.as_slice.result.now) c.put_words.new.self c.items_of.new.page) c.requires c.items_of.ensures in
    let told = subst (λ (items : List (Expr × Option (List ℕ))). WroteOn (with_separators (codes ", ") (item_pieces c.put_words.new.self.written.dialect c.args.schema.now (sources_of c.args.select.now)) items) c.put_words.new.self c.items_of.new.page) c.as_slice.ensures scoped in
    wrote_in (words (select_word c.args.select.now.distinct) ∷ []) (λ (q : Dialect). with_separators (codes ", ") (item_pieces q c.args.schema.now (sources_of c.args.select.now)) c.args.select.now.items) c.args.page.now c.put_words.new.self c.items_of.new.page word told
