use Rattle.std.proofs.Common.{ℕ, List, [], ◌∷◌, codes, subst}
use Rattle.base_core.specs.declared.dialect.Dialect.{Dialect}
use Rattle.sql_text.specs.Words.{join_word}
use Rattle.sql_text.specs.Pages.{WroteOn}
use Rattle.sql_text.specs.Written.{words}
use Rattle.sql_text.proofs.Pages.{wrote_in, wrote_then}
use Rattle.sql_expressions.specs.Laid.{laid, source_pieces}
use Rattle.sql_statements.specs.Selects.{whole}
use Rattle.sql_statements.proofs.selects.join.Goals as goal

pub returns : goal.returns
returns c =
    let join = c.args.join.now in
    let word = subst (λ (shown : List ℕ). WroteOn (words shown ∷ []) c.args.page.now c.put_words.new.self) c.join_word.ensures c.put_words.ensures in
    let before = wrote_then (words (join_word join.left) ∷ []) (source_pieces c.args.schema.now join.origin) c.args.page.now c.put_words.new.self c.source.new.page word c.source.ensures in
    let told = subst (λ (base : List ℕ). WroteOn ((laid c.put_words-2.new.self.written.dialect c.args.schema.now join.on).pieces c.args.scope.now base) c.put_words-2.new.self c.expression.new.page) c.param.ensures c.expression.ensures in
    let last = wrote_in (words (codes " ON ") ∷ []) (λ (q : Dialect). whole q c.args.schema.now c.args.scope.now join.on) c.source.new.page c.put_words-2.new.self c.expression.new.page c.put_words-2.ensures told in
    wrote_in (words (join_word join.left) ∷ source_pieces c.args.schema.now join.origin) (λ (q : Dialect). words (codes " ON ") ∷ whole q c.args.schema.now c.args.scope.now join.on) c.args.page.now c.source.new.page c.expression.new.page before last
