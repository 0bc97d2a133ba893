-- Tokens behind which an expression nests.
use Rattle.std.proofs.Common.{ℕ}
use Rattle.script_lex.specs.declared.kind.Kind.{Kind}
use Rattle.script_lex.specs.declared.kind.Kind.TheVariants as k

-- `(`, `not` and `-` do
abbrev pub opens : Kind → ℕ
opens k.LParen = 1
opens k.Not = 1
opens k.Minus = 1
opens _ = 0
