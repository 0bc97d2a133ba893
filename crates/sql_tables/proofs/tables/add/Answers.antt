use Rattle.std.proofs.Common.{[], ◌∷◌, codes}
use Rattle.sql_text.specs.Written.{words, name}
use Rattle.sql_text.proofs.Pages.{wrote_then}
use Rattle.sql_tables.specs.Ddl.{foreign_pieces}
use Rattle.sql_tables.proofs.tables.add.Goals as goal

pub returns : goal.returns
returns c =
    let last = wrote_then (words (codes " ADD ") ∷ []) (foreign_pieces c.args.schema.now c.args.added.now) c.put_name.new.self c.put_words-2.new.self c.foreign.new.page c.put_words-2.ensures c.foreign.ensures in
    let behind = wrote_then (name c.args.declared.now.name ∷ []) (words (codes " ADD ") ∷ foreign_pieces c.args.schema.now c.args.added.now) c.put_words.new.self c.put_name.new.self c.foreign.new.page c.put_name.ensures last in
    wrote_then (words (codes "ALTER TABLE ") ∷ []) (name c.args.declared.now.name ∷ words (codes " ADD ") ∷ foreign_pieces c.args.schema.now c.args.added.now) c.args.page.now c.put_words.new.self c.foreign.new.page c.put_words.ensures behind
