-- What an echo writes of statements that were sent.
use Rattle.std.specs.Prelude.{ℕ, List, [], ◌++◌, ◌&&◌, Result, Ok, Err, nat_lt, length, codes, if◌then◌else◌}
use Rattle.std.specs.Fmt.{decimal}
use Rattle.std.specs.List.{flat_map}
use Rattle.base_core.specs.declared.ids.TableId.{TableId}
use Rattle.base_core.specs.declared.refusal.Refusal.{Refusal}
use Rattle.schema_core.specs.Catalog.{Catalog}
use Rattle.expr_types.specs.declared.select.Select.{Select}
use Rattle.expr_types.specs.declared.select.Statement.{Statement}
use Rattle.expr_types.specs.declared.select.Statement.TheVariants as statements
use Rattle.sql_semantics.specs.Plain.{is_limit}
use Rattle.keeper_core.specs.declared.sent.Sent.{Sent}
use Rattle.keeper_core.specs.declared.sent.Sent.TheVariants as sent
use Rattle.keeper_core.specs.declared.notes.Note.{Note}
use Rattle.keeper_core.specs.declared.notes.Note.TheVariants as note
use Rattle.base_core.specs.declared.dialect.Dialect.{Dialect}
use Rattle.sql_text.specs.declared.writer.Compiled.{Compiled}
use Rattle.sql_statements.specs.Texts.{text_of}
use Rattle.sql_tables.specs.Ddl.{alter, ddl, drop_text}
use Rattle.statement_lines.specs.StatementLines.{statement_text}
use Rattle.statement_lines.specs.Later.{later_foreigns}

-- ---- single statements

-- the line of a text
abbrev pub sql_line : List ℕ → List ℕ
sql_line text = codes "sql> " ++ text ++ codes "\n"

-- the line of a statement on the savepoint of a number
abbrev pub savepoint_line : List ℕ → ℕ → List ℕ
savepoint_line words number = codes "sql> " ++ (words ++ (codes " sa_savepoint_" ++ (decimal number ++ codes "\n")))

-- the line of a text with marks, and that of its values
abbrev pub compiled_lines : Dialect → Compiled → List ℕ
compiled_lines dialect compiled = sql_line (statement_text dialect compiled)

abbrev pub statement_lines : Dialect → Catalog → Statement → List ℕ
statement_lines dialect schema statement = compiled_lines dialect (text_of dialect schema statement)

-- a number of rows from 2 ^ 63 on has no text
abbrev pub select_lines : Dialect → Catalog → Select → List ℕ
select_lines dialect schema select = if is_limit select.limit && is_limit select.offset then statement_lines dialect schema (statements.Select select) else []

-- ---- tables

abbrev pub made_line : Result (List ℕ) Refusal → List ℕ
made_line (Ok text) = sql_line text
made_line (Err e) = []

-- the line that makes a table, without the foreign keys that are added later
abbrev pub create_line : Dialect → Catalog → TableId → List ℕ
create_line dialect schema table =
    if nat_lt table.0 (length schema.tables) then made_line (ddl dialect schema table (later_foreigns dialect schema table)) else []

abbrev pub drop_line : Dialect → Catalog → TableId → List ℕ
drop_line dialect schema table = sql_line (drop_text dialect schema table)

abbrev pub alter_line : Dialect → Catalog → TableId → ℕ → List ℕ
alter_line dialect schema table number = sql_line (alter dialect schema table number)

-- the lines that add the foreign keys of a table
abbrev pub alter_lines : Dialect → Catalog → TableId → List ℕ
alter_lines dialect schema table =
    if nat_lt table.0 (length schema.tables) then flat_map (alter_line dialect schema table) (later_foreigns dialect schema table) else []

-- ---- all that was sent

-- the lines of a statement that a keeper was sent
abbrev pub sent_lines : Dialect → Catalog → Sent → List ℕ
sent_lines dialect schema (sent.Create table) = create_line dialect schema table
sent_lines dialect schema (sent.Drop table) = drop_line dialect schema table
sent_lines dialect schema sent.Begin = sql_line (codes "BEGIN")
sent_lines dialect schema (sent.Savepoint number) = savepoint_line (codes "SAVEPOINT") number
sent_lines dialect schema (sent.Release number) = savepoint_line (codes "RELEASE SAVEPOINT") number
sent_lines dialect schema (sent.RollbackTo number) = savepoint_line (codes "ROLLBACK TO SAVEPOINT") number
sent_lines dialect schema sent.Rollback = sql_line (codes "ROLLBACK")
sent_lines dialect schema sent.Commit = sql_line (codes "COMMIT")
sent_lines dialect schema (sent.Write statement) = statement_lines dialect schema (statements.Row statement)
sent_lines dialect schema (sent.Bulk statement) = statement_lines dialect schema (statements.Bulk statement)
sent_lines dialect schema (sent.Query select) = select_lines dialect schema select

abbrev pub sent_alters : Dialect → Catalog → Sent → List ℕ
sent_alters dialect schema (sent.Create table) = alter_lines dialect schema table
sent_alters dialect schema other = []

-- the lines that add foreign keys, where a note is one of a table that was made
abbrev pub note_alters : Dialect → Catalog → Note → List ℕ
note_alters dialect schema (note.Sent it) = sent_alters dialect schema it
note_alters dialect schema other = []
