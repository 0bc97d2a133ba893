-- A function value that reads expressions to a depth.
use Rattle.std.specs.Prelude.{ℕ, Result}
use Rattle.std.specs.declared.alloc.Global.{Global}
use denote.Ref.{MutBor}
use Rattle.script_types.specs.declared.expression.Syn.{Syn}
use Rattle.script_expr.specs.declared.grammar.Level.{Level}
use Rattle.script_tokens.specs.declared.fault.Fault.{Fault}
use Rattle.script_tokens.specs.Input.{Input, Reads}
use Rattle.script_expr.specs.Expr.{expr}

pub record Nests (depth : ℕ) (pre : Global → MutBor Input → ℕ → Level → Type 0)
    (post : Global → MutBor Input → ℕ → Level → Result Syn Fault → MutBor Input → Type 0) : Type 0 where
  pub callable : (alloc : Global) (old : MutBor Input) (level : Level) → pre alloc old depth level
  pub reads : (alloc : Global) (old new : MutBor Input) (level : Level) (r : Result Syn Fault) → post alloc old depth level r new
      → Reads (expr depth level old.now) r new.now
