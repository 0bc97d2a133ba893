-- Names of columns, and the pairs and lists that forms are made of.
use Rattle.std.proofs.Common.{◌≡◌, ℕ, ◌++◌, true, List, [], ◌∷◌, codes, refl, ap, ◌∙◌}
use Rattle.base_core.specs.declared.value.Value.{Value}
use Rattle.base_core.specs.declared.dialect.Dialect.{Dialect}
use Rattle.base_core.specs.declared.dialect.Dialect.TheVariants.{Sqlite, Postgresql, Mysql}
use Rattle.script_laws.proofs.Texts.Grammar.Reader.{ends_name}
use Rattle.script_laws.proofs.Texts.Grammar.Naming.{Begins, starts_name, name_begins}
use Rattle.script_laws.specs.Texts.Forms.Clauses.{Items, Name, name, default_word}
use Rattle.script_laws.proofs.Texts.Readings.Agreeing.{IsOne, Agreeing, IsPart, EndsItems, name_one, items_one, items_begin, cut_word, lacking}

-- ---- pairs and lists

pub pair_same : {A B : Type 0} {a c : A} {b d : B} → a ≡ c → b ≡ d → ◌≡◌ {A = A × B} (a, b) (c, d)
pair_same {A} {B} {a} {c} {b} {d} e f = ap (λ (x : A). (x, b)) e ∙ ap (λ (y : B). (c, y)) f

pub triple_same : {A B C : Type 0} {a d : A} {b e : B} {c f : C} → a ≡ d → b ≡ e → c ≡ f → ◌≡◌ {A = A × B × C} (a, b, c) (d, e, f)
triple_same {A} {B} {C} {a} {d} {b} {e} {c} {f} g h i = ap (λ (x : A). (x, b, c)) g ∙ (ap (λ (y : B). (d, y, c)) h ∙ ap (λ (z : C). (d, e, z)) i)

head_or : {A : Type 0} → A → List A → A
head_or x [] = x
head_or x (y ∷ ys) = y

tail_of : {A : Type 0} → List A → List A
tail_of [] = []
tail_of (y ∷ ys) = ys

pub first_same : {A : Type 0} {x y : A} {xs ys : List A} → x ∷ xs ≡ y ∷ ys → x ≡ y
unfolding head_or
first_same {A} {x} e = ap (head_or x) e

pub others_same : {A : Type 0} {x y : A} {xs ys : List A} → x ∷ xs ≡ y ∷ ys → xs ≡ ys
unfolding tail_of
others_same e = ap tail_of e

-- ---- names

abbrev pub EndsName : List ℕ → Type 0
EndsName rest = ends_name rest ≡ true

-- a part that ends by itself
abbrev pub Anywhere : List ℕ → Type 0
Anywhere rest = Unit {0}

name_starts : {q : Dialect} {a : List ℕ} {v : List Value} {n : List ℕ} → Name q a v n → Begins starts_name a
name_starts (name r) = name_begins r

named_agree : {q : Dialect} {a b : List ℕ} {v w : List Value} {x y : List ℕ} → Name q a v x → Name q b w y → Agreeing EndsName a b v w x y
named_agree (name r) (name s) rest past left over e f texts values =
    let it = name_one r s rest past e f texts in
    record { same = it.same; rests = it.rests; lefts = values }

pub name_part : (q : Dialect) → IsPart (Name q) starts_name EndsName
name_part q = record { begins = name_starts; one = record { agree = named_agree } }

pub names_one : (q : Dialect) → IsOne (Items (Name q) (codes ", ")) (EndsItems starts_name (codes ", ") EndsName)
names_one q = items_one (Name q) starts_name EndsName (name_part q) (codes ", ") (λ text. refl)

-- a row without columns has no list of them
pub not_default : {A : Type 0} (q : Dialect) {b : List ℕ} {column : List ℕ} {columns : List (List ℕ)} → Items (Name q) (codes ", ") b [] (column ∷ columns) → (text rest : List ℕ)
    → default_word q ++ text ≡ codes " (" ++ (b ++ rest) → A
not_default Sqlite {b} items text rest e = lacking (codes " (") (b ++ rest) refl e
not_default Postgresql {b} items text rest e = lacking (codes " (") (b ++ rest) refl e
not_default Mysql {b} items text rest e = items_begin (Name Mysql) starts_name EndsName (name_part Mysql) (codes ", ") (λ text. refl) rest items refl (cut_word (codes " (") {rest = codes ") VALUES ()" ++ text} e)

pub default_ends : (q : Dialect) (text : List ℕ) → ends_name (default_word q ++ text) ≡ true
default_ends Sqlite text = refl
default_ends Postgresql text = refl
default_ends Mysql text = refl
