use Rattle.std.proofs.Common.{◌≡◌, [], ◌++◌, take, drop, Ok}
use Rattle.std.specs.List.{All}
use Rattle.class_mapping.specs.Mapped.{IsAttribute}
use Rattle.sql_semantics.specs.Checked.{◌>>=◌}
use Rattle.command_names.specs.Attributes.{cells_behind}
use Rattle.command_names.proofs.cells.cells_named.Given as goal

-- the cells so far and those of the rest are those of all
abbrev pub invariant-loop-place : goal.invariant-loop-place
invariant-loop-place l = record {
  told : (cells_behind l.mapping l.class (take l.place l.given) (drop l.place l.given) >>= λ more. Ok (l.cells ++ more)) ≡ cells_behind l.mapping l.class [] l.given;
  exist : All (λ cell. IsAttribute l.mapping l.class cell.0) l.cells;
}
