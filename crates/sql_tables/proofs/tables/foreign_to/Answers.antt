use Rattle.std.proofs.Common.{[], ◌∷◌, ◌++◌, codes}
use Rattle.sql_text.specs.Written.{words}
use Rattle.sql_text.proofs.Pages.{wrote_then}
use Rattle.sql_tables.specs.Ddl.{names_pieces, reference_pieces}
use Rattle.sql_tables.proofs.tables.foreign_to.Goals as goal

pub returns : goal.returns
returns c =
    let behind = wrote_then (names_pieces c.args.columns.now) (reference_pieces c.args.schema.now c.args.target) c.put_words.new.self c.names.new.page c.reference.new.page c.names.ensures c.reference.ensures in
    wrote_then (words (codes "FOREIGN KEY(") ∷ []) (names_pieces c.args.columns.now ++ reference_pieces c.args.schema.now c.args.target) c.args.page.now c.put_words.new.self c.reference.new.page c.put_words.ensures behind
