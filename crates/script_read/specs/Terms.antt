-- Names that the script binds, and their members.
use Rattle.std.specs.Prelude.{ℕ, Bool, true, false, if◌then◌else◌, List, [], ◌∷◌, Option, Some, None, Ok}
use Rattle.script_types.specs.declared.command.Term.{Term}
use Rattle.script_lex.specs.declared.kind.Kind.TheVariants as k
use Rattle.script_tokens.specs.Input.{Reader, ◌>>=◌, ◌>>◌, ◌<$>◌, pure, eat, expect}
use Rattle.script_tokens.specs.Names.{name}
use Rattle.script_tokens.specs.Literals.{int}

-- `[n]`, where it comes next
unfoldable pub index : Reader (Option ℕ)
index = do
  found ← eat k.LBracket
  if found then (do n ← int; expect k.RBracket; pure (Some n)) else pure None

-- `name` or `name[n]`
unfoldable pub term : Reader Term
term = do
  called ← name
  place ← index
  pure (record { name = called; index = place })

-- `term.name`
unfoldable pub member : Reader (Term × List ℕ)
member = do
  owner ← term
  expect k.Dot
  called ← name
  pure (owner, called)

-- two terms
unfoldable pub two : Reader (Term × Term)
two = do
  first ← term
  second ← term
  pure (first, second)

-- `term.name term`
unfoldable pub member_and_term : Reader ((Term × List ℕ) × Term)
member_and_term = do
  owner ← member
  other ← term
  pure (owner, other)
