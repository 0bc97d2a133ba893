use Rattle.std.proofs.Common.{[], ◌∷◌, codes, map}
use Rattle.base_core.specs.declared.dialect.Dialect.{Dialect}
use Rattle.sql_text.specs.Written.{words}
use Rattle.sql_expressions.specs.Laid.{laid, parts}
use Rattle.sql_text.proofs.Pages.{wrote_in}
use Rattle.sql_statements.proofs.selects.group_by.Goals as goal

pub returns : goal.returns
returns c = wrote_in (words (codes " GROUP BY ") ∷ []) (λ (q : Dialect). parts 1 (codes ", ") (map (laid q c.args.schema.now) c.args.groups.now) c.args.scope.now) c.args.page.now c.put_words.new.self c.parts.new.page c.put_words.ensures c.parts.ensures
