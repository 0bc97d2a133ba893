use Rattle.std.proofs.Common.{◌≡◌, ◌∷◌, [], drop}
use Rattle.sql_semantics.specs.Plain.{name_of}
use Rattle.plain_statements.specs.Tested.{are_joined}
use Rattle.plain_statements.proofs.select.are_joined.Given as goal

abbrev pub invariant-loop-join : goal.invariant-loop-join
invariant-loop-join l =
    are_joined l.schema l.around.tables.items l.around.names.items (drop l.join-index l.join-items)
    ≡ are_joined l.schema (l.select.first.table ∷ []) (name_of l.schema l.select.first ∷ []) l.select.joins
