-- What is seen of a keeper in memory whose place one over a file takes.
use Rattle.std.specs.Prelude.{◌≡◌, [], Option, None, Some, Ok}
use Rattle.keeper_core.specs.Moment.{Moment}
use Rattle.keeper_core.specs.Store.{Store}
use Rattle.schema_core.specs.Tables.{Tables}
use Rattle.keeper_core.specs.declared.target.Target.{Target}
use Rattle.keeper_core.specs.declared.target.Target.TheVariants as targets
use Rattle.keeper_core.specs.Keeping.{IsAttached, IsCoherent}
use Rattle.keeper_mem.specs.Kept as mem
use Rattle.keeper_sqlite.specs.Counted as sqlite

-- the keeper in memory, and the one over the file that was taken
pub record Shelved : Type 0 where
  pub memory : mem.Kept
  pub file : Option sqlite.Counted

-- a keeper in memory that was given no target is new
abbrev pub IsMade : mem.Kept → Type 0
IsMade kept = (mem.moment_of kept).target ≡ None → kept ≡ mem.new_keeper []

abbrev pub new_shelf : Shelved
new_shelf = record { memory = mem.new_keeper []; file = None }

-- what is seen of the keeper over the file, where there is one, else of that in memory
abbrev pub moment_by : Option sqlite.Counted → mem.Kept → Moment Store
moment_by None kept = mem.moment_of kept
moment_by (Some counted) kept = sqlite.moment_of counted

abbrev pub moment_of : Shelved → Moment Store
moment_of shelf = moment_by shelf.file shelf.memory

-- it begins with no tables in memory, and will not tell what is in a file
abbrev pub opening : Shelved → Target → Option Tables
opening shelf target = mem.opening shelf.memory target

coherent_by : (file : Option sqlite.Counted) (kept : mem.Kept) → IsCoherent (moment_by file kept)
coherent_by None kept = mem.coherent kept
coherent_by (Some counted) kept = sqlite.coherent counted

pub coherent : (shelf : Shelved) → IsCoherent (moment_of shelf)
coherent shelf = coherent_by shelf.file shelf.memory

-- a keeper over SQLite took the target, which is a file
abbrev pub IsOverFile : Target → sqlite.Counted → Type 0
IsOverFile targets.Memory counted = ⊥
IsOverFile target counted = IsAttached (sqlite.moment_of sqlite.new_keeper) target (Ok tt) (sqlite.moment_of counted)
