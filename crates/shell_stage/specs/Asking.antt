-- What a line asks for, and what is answered to one that compiles.
use Rattle.std.specs.Prelude.{ℕ, List, Result, Ok, Err}
use Rattle.base_core.specs.declared.refusal.Refusal.{Refusal}
use Rattle.base_core.specs.declared.refusal.Refusal.TheVariants.{CompileError, InvalidRequestError}
use Rattle.base_core.specs.declared.refusal.RequestKind.TheVariants.{NotConfigured}
use Rattle.class_mapping.specs.Mapped.{Mapped}
use Rattle.schema_core.specs.Catalog.{Catalog}
use Rattle.expr_types.specs.declared.select.Statement.TheVariants as statements
use Rattle.sql_semantics.specs.Checked.{Checked, ◌>>=◌}
use Rattle.script_types.specs.declared.command.Command.{Command}
use Rattle.script_types.specs.declared.command.Command.TheVariants as line
use Rattle.script_types.specs.declared.select.SynQuery.{SynQuery}
use Rattle.base_core.specs.declared.dialect.Dialect.{Dialect}
use Rattle.main_selects.specs.MainSelect.{main_select}
use Rattle.query_names.specs.Queries.{resolved_query}
use Rattle.command_resolve.specs.declared.resolved.Resolved.{Resolved}
use Rattle.command_resolve.specs.Resolving.{resolve}
use Rattle.command_resolve.specs.Standing.{IsOfResolving}
use Rattle.command_names.specs.Terms.{Bindings}
use Rattle.statement_lines.specs.CompiledLines.{compiled_line, lines_of, tables_compiled}
use Rattle.shell_stage.specs.declared.stage.Stage.{Stage}
use Rattle.shell_stage.specs.declared.stage.Stage.TheVariants.{Declaring, Configured}

-- where all tables are to be made, they have texts in the dialect
abbrev pub has_texts : Dialect → Catalog → Command → Checked (Unit {0})
has_texts dialect schema line.CreateAll = tables_compiled dialect schema
has_texts dialect schema other = Ok tt

-- what a line asks for, or its first refusal that needs no session
abbrev pub asked : Dialect → Mapped → Bindings → Command → Checked Resolved
asked dialect mapped names command = has_texts dialect mapped.schema command >>= λ u. resolve mapped names command

-- what that may be: what names and values may be refused for, or a table that has no text
abbrev pub IsOfAsking : Refusal → Type 0
IsOfAsking (CompileError table column) = Unit {0}
IsOfAsking e = IsOfResolving e

-- ---- lines that compile

-- what is answered to `compile DIALECT objects OSELECT`: the lines of the query's main select
abbrev pub compiled_objects : Mapped → Dialect → SynQuery → Checked (List ℕ)
compiled_objects mapped dialect written = resolved_query mapped written >>= λ query. Ok (lines_of dialect mapped.schema (statements.Select (main_select mapped query)))

-- what is answered to a line that compiles over a mapping; the tables alone are asked, but for objects
abbrev pub compiled_over : Mapped → Command → Checked (List ℕ)
compiled_over mapped (line.CompileObjects dialect written) = compiled_objects mapped dialect written
compiled_over mapped other = compiled_line mapped.schema other

-- once there is a session
abbrev pub compiled_at : Stage → Command → Result (List ℕ) Refusal
compiled_at (Declaring mapping) command = Err (InvalidRequestError NotConfigured)
compiled_at (Configured session) command = compiled_over session.mapping command
