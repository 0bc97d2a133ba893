-- Texts of expressions before what goes on with none of them.
use Rattle.std.proofs.Common.{◌≡◌, ℕ, ◌+◌, ◌++◌, true, List, codes, refl, sym, ap, ◌∙◌, arith}
use Rattle.base_core.specs.declared.value.Value.{Value}
use Rattle.base_core.specs.declared.dialect.Dialect.{Dialect}
use Rattle.script_laws.specs.Texts.Grammar.Trees.{Sql}
use Rattle.script_laws.specs.Texts.Grammar.Reads.{Reads, Either}
use Rattle.script_laws.proofs.Texts.Grammar.Reader.{read, stops, signs, tails}
use Rattle.script_laws.proofs.Texts.Grammar.Finding.{in_each}
use Rattle.script_laws.proofs.Texts.Grammar.Found.{starts_any}
use Rattle.script_laws.proofs.Texts.Grammar.Naming.{Begins}
use Rattle.script_laws.proofs.Texts.Grammar.OneTree.{parsed}
use Rattle.script_laws.proofs.Texts.Readings.Agreeing.{Agreeing, IsOne, IsPart, agreed}

abbrev pub EndsTree : Dialect → List ℕ → Type 0
EndsTree q rest = stops q Either rest ≡ true

tree_agree : {q : Dialect} {a b : List ℕ} {v w : List Value} {x y : Sql} → Reads q Either a v x → Reads q Either b w y → Agreeing (EndsTree q) a b v w x y
tree_agree {q} {a} {b} {v} {w} r s rest past left over e f texts values =
    let found = (parsed r).found in
    let other = (parsed s).found in
    let k : ℕ = found.bound + other.bound in
    agreed
    (sym (found.gives k (omega arith) rest left e)
    ∙ (ap (λ (text : List ℕ). (read q k).tree Either text (v ++ left)) texts ∙ (ap (λ (u : List Value). (read q k).tree Either (b ++ past) u) values ∙ other.gives k (omega arith) past over f)))

pub tree_one : (q : Dialect) → IsOne (Reads q Either) (EndsTree q)
tree_one q = record { agree = tree_agree }

pub tree_begins : {q : Dialect} {a : List ℕ} {v : List Value} {x : Sql} → Reads q Either a v x → Begins starts_any a
tree_begins r = (parsed r).found.begins

pub tree_part : (q : Dialect) → IsPart (Reads q Either) starts_any (EndsTree q)
tree_part q = record { begins = tree_begins; one = tree_one q }

-- ---- words that end an expression

pub where_ends : (q : Dialect) (text : List ℕ) → EndsTree q (codes " WHERE " ++ text)
unfolding stops signs tails
where_ends q text = in_each (λ d. EndsTree d (codes " WHERE " ++ text)) refl refl refl q
