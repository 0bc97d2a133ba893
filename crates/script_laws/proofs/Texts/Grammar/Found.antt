-- What the reader finds of a text, and how it finds it.
use Rattle.std.proofs.Common.{◌≡◌, ℕ, zero, suc, ◌+◌, ◌≤◌, ◌++◌, ◌==◌, Bool, true, false, ◌||◌, List, ◌∷◌, Some, None, refl, ap, ◌∙◌, append_assoc, arith}
use Rattle.base_core.specs.declared.value.Value.{Value}
use Rattle.base_core.specs.declared.dialect.Dialect.{Dialect}
use Rattle.script_laws.specs.Texts.Grammar.Trees.{Sql, Sqls}
use Rattle.script_laws.specs.Texts.Grammar.Reads.{Level, Either, Both, Opposite, Tested, Added, Multiplied, Signed, Operand, tighter}
use Rattle.script_laws.proofs.Texts.Grammar.Reader.{after, Out, at, read, stops}
use Rattle.script_laws.proofs.Texts.Grammar.Finding.{Lacks, lacks, other_byte}
use Rattle.script_laws.proofs.Texts.Grammar.Naming.{Begins, starts_name}

-- ---- the first byte of a text

abbrev pub starts_operand : ℕ → Bool
starts_operand c = starts_name c || c == 40 || c == 63 || c == 37 || c == 69

abbrev pub starts_signed : ℕ → Bool
starts_signed c = starts_operand c || c == 45

abbrev pub starts_any : ℕ → Bool
starts_any c = starts_signed c || c == 78

abbrev pub starts : Level → ℕ → Bool
starts Operand = starts_operand
starts Signed = starts_signed
starts Multiplied = starts_signed
starts Added = starts_signed
starts Tested = starts_signed
starts Opposite = starts_any
starts Both = starts_any
starts Either = starts_any

pub or_left : (a b : Bool) → a ≡ true → (a || b) ≡ true
or_left true b e = refl
or_left false b e = absurd (cc)

pub begins_as : {is wide : ℕ → Bool} {a : List ℕ} → ((c : ℕ) → is c ≡ true → wide c ≡ true) → Begins is a → Begins wide a
begins_as widen b = record { first = b.first; following = b.following; joined = b.joined; fits = widen b.first b.fits }

pub begins_wider : (l : Level) {a : List ℕ} → Begins (starts (tighter l)) a → Begins (starts l) a
begins_wider Operand b = b
begins_wider Signed b = begins_as (λ c e. or_left (starts_operand c) (c == 45) e) b
begins_wider Multiplied b = b
begins_wider Added b = b
begins_wider Tested b = b
begins_wider Opposite b = begins_as (λ c e. or_left (starts_signed c) (c == 78) e) b
begins_wider Both b = b
begins_wider Either b = b

pub begins_on : {is : ℕ → Bool} {a : List ℕ} → Begins is a → (b : List ℕ) → Begins is (a ++ b)
begins_on {is} {a} begins b =
    record { first = begins.first; following = begins.following ++ b; joined = ap (λ (text : List ℕ). text ++ b) begins.joined; fits = begins.fits }

pub begins_so : (is : ℕ → Bool) (c : ℕ) (cs : List ℕ) → is c ≡ true → Begins is (c ∷ cs)
begins_so is c cs fits = record { first = c; following = cs; joined = refl; fits = fits }

-- a text that begins otherwise has no such word
pub lacks_byte : {is : ℕ → Bool} {a : List ℕ} → Begins is a → (c : ℕ) → is c ≡ false → (rest : List ℕ) → Lacks c (a ++ rest)
lacks_byte {is} begins c out rest word =
    ap (λ (text : List ℕ). after (c ∷ word) (text ++ rest)) begins.joined ∙ lacks c begins.first (begins.following ++ rest) (other_byte is c begins.first out begins.fits) word

-- ---- what is found

-- from some bound on, the text of a level and its values are read as this tree, up to where no such text goes on
pub record Found (q : Dialect) (l : Level) (a : List ℕ) (v : List Value) (x : Sql) : Type 0 where
  pub begins : Begins (starts l) a
  pub bound : ℕ
  pub gives : (k : ℕ) → bound ≤ k → (rest : List ℕ) (left : List Value) → stops q l rest ≡ true → (read q k).tree l (a ++ rest) (v ++ left) ≡ Some (x, rest, left)

-- what goes on behind a product or a sum
abbrev pub go_on : Dialect → ℕ → Level → Sql → List ℕ → List Value → Out Sql
go_on q k Multiplied x rest left = (read q k).products x rest left
go_on q k Added x rest left = (read q k).sums x rest left
go_on q k l x rest left = Some (x, rest, left)

-- the same of a text that may go on
pub record Chain (q : Dialect) (l : Level) (a : List ℕ) (v : List Value) (x : Sql) : Type 0 where
  pub turns : ℕ
  pub bound : ℕ
  pub gives : (j k : ℕ) → j ≡ turns + k → bound ≤ k → (rest : List ℕ) (left : List Value) → stops q (tighter l) rest ≡ true
      → (read q j).tree l (a ++ rest) (v ++ left) ≡ go_on q k l x rest left

abbrev pub IfChain : Dialect → (l : Level) → List ℕ → List Value → Sql → Type 0
IfChain q Multiplied a v x = Chain q Multiplied a v x
IfChain q Added a v x = Chain q Added a v x
IfChain q l a v x = Unit {0}

pub record Parsed (q : Dialect) (l : Level) (a : List ℕ) (v : List Value) (x : Sql) : Type 0 where
  pub found : Found q l a v x
  pub chain : IfChain q l a v x

-- texts of a level with a word between
pub record FoundParts (q : Dialect) (l : Level) (word a : List ℕ) (v : List Value) (xs : Sqls) : Type 0 where
  pub begins : Begins (starts l) a
  pub bound : ℕ
  pub gives : (k : ℕ) → bound ≤ k → (rest : List ℕ) (left : List Value) → stops q l rest ≡ true → after word rest ≡ None
      → (read q k).parts l word (a ++ rest) (v ++ left) ≡ Some (xs, rest, left)

-- ---- turns

-- what holds of each number above a bound
pub one_deeper : (P : ℕ → Type 0) (b k : ℕ) → suc b ≤ k → ((j : ℕ) → b ≤ j → P (suc j)) → P k
one_deeper P b zero h f = absurd (omega (arith, h))
one_deeper P b (suc j) h f = f j (omega (arith, h))

pub made : {q : Dialect} {l : Level} {a : List ℕ} {v : List Value} {x : Sql} → Begins (starts l) a → (b : ℕ)
    → ((j : ℕ) → b ≤ j → (rest : List ℕ) (left : List Value) → stops q l rest ≡ true → at q (read q j) l (a ++ rest) (v ++ left) ≡ Some (x, rest, left)) → Found q l a v x
unfolding read
made {q} {l} {a} {v} {x} begins b step = record {
  begins = begins;
  bound = suc b;
  gives = λ k h rest left s. one_deeper (λ n. (read q n).tree l (a ++ rest) (v ++ left) ≡ Some (x, rest, left)) b k h (λ j g. step j g rest left s);
}

-- texts and values behind others
pub rearranged : {A : Type 0} (F : List ℕ → List Value → A) (a b rest : List ℕ) (v w left : List Value) → F ((a ++ b) ++ rest) ((v ++ w) ++ left) ≡ F (a ++ (b ++ rest)) (v ++ (w ++ left))
rearranged F a b rest v w left = ap (λ (text : List ℕ). F text ((v ++ w) ++ left)) (append_assoc a b rest) ∙ ap (F (a ++ (b ++ rest))) (append_assoc v w left)
