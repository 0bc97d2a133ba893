-- What a comparison of kinds tells.
use Rattle.std.proofs.Common.{◌≡◌, ◌≢◌, true, false, rules}
use denote.Enum.Bare.{same_true, same_false, true_same}
use Rattle.script_lex.specs.contracts.kind.Kind.{the_type}
use Rattle.script_lex.specs.declared.kind.Kind.{Kind}
use Rattle.script_lex.specs.Lex.{same_kind}

pub same : {a b : Kind} → same_kind a b ≡ true → a ≡ b
unfolding same_kind
same {a} {b} e = same_true the_type tt a b e

pub other : {a b : Kind} → same_kind a b ≡ false → a ≢ b
unfolding same_kind
other {a} {b} e = same_false the_type a b e

pub alike : {a b : Kind} → a ≡ b → same_kind a b ≡ true
unfolding same_kind
alike {a} {b} e = true_same the_type a b e
