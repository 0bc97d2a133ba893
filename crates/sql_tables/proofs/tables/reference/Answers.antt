use Rattle.std.proofs.Common.{[], ◌∷◌, ◌++◌, codes}
use Rattle.sql_text.specs.Written.{words}
use Rattle.sql_text.proofs.Pages.{wrote_then}
use Rattle.sql_tables.specs.Ddl.{target_pieces}
use Rattle.sql_tables.proofs.tables.reference.Goals as goal

pub returns : goal.returns
returns c =
    let behind = wrote_then (target_pieces c.args.schema.now c.args.it) (words (codes ")") ∷ []) c.put_words.new.self c.target.new.page c.put_words-2.new.self c.target.ensures c.put_words-2.ensures in
    wrote_then (words (codes ") REFERENCES ") ∷ []) (target_pieces c.args.schema.now c.args.it ++ words (codes ")") ∷ []) c.args.page.now c.put_words.new.self c.put_words-2.new.self c.put_words.ensures behind
