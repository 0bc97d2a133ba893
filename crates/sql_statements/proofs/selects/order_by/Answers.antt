use Rattle.std.proofs.Common.{[], ◌∷◌, codes}
use Rattle.base_core.specs.declared.dialect.Dialect.{Dialect}
use Rattle.sql_text.specs.Written.{words, with_separators}
use Rattle.sql_statements.specs.Selects.{key_pieces}
use Rattle.sql_text.proofs.Pages.{wrote_in}
use Rattle.sql_statements.proofs.selects.order_by.Goals as goal

pub returns : goal.returns
returns c = wrote_in (words (codes " ORDER BY ") ∷ []) (λ (q : Dialect). with_separators (codes ", ") (key_pieces q c.args.schema.now c.args.scope.now) c.args.keys.now) c.args.page.now c.put_words.new.self c.keys_of.new.page c.put_words.ensures c.keys_of.ensures
