-- A function value that reads as a reader does.
use Rattle.std.specs.Prelude.{Result}
use Rattle.std.specs.declared.alloc.Global.{Global}
use denote.Ref.{MutBor}
use Rattle.script_tokens.specs.declared.fault.Fault.{Fault}
use Rattle.script_tokens.specs.Input.{Input, Reader, Reads}

pub record IsReadBy {A : Type 0} (reader : Reader A) (pre : Global → MutBor Input → Type 0)
    (post : Global → MutBor Input → Result A Fault → MutBor Input → Type 0) : Type 0 where
  pub callable : (alloc : Global) (old : MutBor Input) → pre alloc old
  pub reads : (alloc : Global) (old new : MutBor Input) (r : Result A Fault) → post alloc old r new → Reads (reader old.now) r new.now
