-- Words behind which an expression nests.
use Rattle.std.specs.Prelude.{Bool, true, false}
use Rattle.script_lex.specs.declared.kind.Kind.{Kind}
use Rattle.script_lex.specs.declared.kind.Kind.TheVariants as k

-- a word behind which a parenthesis must come, and nests
abbrev pub nests : Kind → Bool
nests k.In = true
nests k.Exists = true
nests _ = false
