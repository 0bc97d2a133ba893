-- One level of an expression as it is written: its operands.
use Rattle.std.specs.Prelude.{List, [], ◌∷◌}
use Rattle.script_types.specs.declared.expression.Syn.TheOpen.{Syn-F}

-- the operands, in reading order
abbrev pub operands : {A : Type 0} → Syn-F A → List A
operands (Syn-F.Lit value) = []
operands (Syn-F.Path source column) = []
operands Syn-F.CountAll = []
operands (Syn-F.Call function arguments) = arguments
operands (Syn-F.Exists source condition) = condition ∷ []
operands (Syn-F.Compare op a b) = a ∷ b ∷ []
operands (Syn-F.IsNull negated a) = a ∷ []
operands (Syn-F.Like negated a b) = a ∷ b ∷ []
operands (Syn-F.Ilike negated a b) = a ∷ b ∷ []
operands (Syn-F.InList negated a values) = a ∷ []
operands (Syn-F.Between negated a low high) = a ∷ low ∷ high ∷ []
operands (Syn-F.Distinct negated a b) = a ∷ b ∷ []
operands (Syn-F.And parts) = parts
operands (Syn-F.Or parts) = parts
operands (Syn-F.Not a) = a ∷ []
operands (Syn-F.Arith op a b) = a ∷ b ∷ []
operands (Syn-F.Concat a b) = a ∷ b ∷ []
operands (Syn-F.Neg a) = a ∷ []
