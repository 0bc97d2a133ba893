-- What a program answers beside what its definition tells: the same, unless memory ran out.
use Rattle.std.specs.Prelude.{◌≡◌, Result, Ok, Err}
use Rattle.schema_core.specs.declared.statement.Unwritten.{Unwritten}
use Rattle.schema_core.specs.declared.statement.Unwritten.TheVariants.{Violates, Memory}
use Rattle.schema_core.specs.Judged.{Judged}

abbrev pub Told : {A : Type 0} → Judged A → Result A Unwritten → Type 0
Told told (Ok a) = told ≡ Ok a
Told told (Err (Violates violation)) = told ≡ Err violation
Told told (Err Memory) = Unit {0}
