use Rattle.std.proofs.Common.{◌≡◌, ◌∷◌, [], drop}
use Rattle.sql_semantics.specs.Plain.{name_of}
use Rattle.script_resolve.specs.Judging.{joins_apart}
use Rattle.script_resolve.proofs.apart.joins_apart.Given as goal

abbrev pub invariant-loop-join : goal.invariant-loop-join
invariant-loop-join l = joins_apart l.schema l.names.items (drop l.join-index l.joins) ≡ joins_apart l.schema (name_of l.schema l.first ∷ []) l.joins
