-- One form behind another: what is said of the second, and sequences put together in another way.
use Rattle.std.proofs.Common.{ℕ, ◌+◌, List, [], ◌++◌, refl, ap, sym, ◌∙◌, append-nil, append_assoc, arith}
use Rattle.script_lex.specs.declared.token.Token.{Token}
use Rattle.script_laws.specs.Readings.Forms.Form.{Form, Both, sequence, says}

-- tokens of one form behind those of another
pub paired : {A B : Type 0} (g : Form A) (h : A → Form B) (a : A) (b : B) (us vs : List Token) (m l : ℕ) → g us m a → h a vs l b → sequence g h (us ++ vs) (m + l) b
paired g h a b us vs m l first second =
    (a, record { prefix = us; rest = vs; prefix_count = m; rest_count = l; joined = refl; counted = refl; first = first; second = second })

-- where two forms say something, two others say another thing of the same tokens
pub both_to : {A B C D : Type 0} (g : Form A) (h : A → Form C) (k : Form B) (f : B → Form D) (a : A) (b : B) (c : C) (d : D)
    → ((ts : List Token) (n : ℕ) → g ts n a → k ts n b) → ((ts : List Token) (n : ℕ) → h a ts n c → f b ts n d)
    → (ts : List Token) (n : ℕ) → Both (λ us m. g us m a) (λ us m. h a us m c) ts n → sequence k f ts n d
both_to g h k f a b c d on up ts n w = (
  b,
  record {
    prefix = w.prefix;
    rest = w.rest;
    prefix_count = w.prefix_count;
    rest_count = w.rest_count;
    joined = w.joined;
    counted = w.counted;
    first = on w.prefix w.prefix_count w.first;
    second = up w.rest w.rest_count w.second;
  },
)

-- where the second form says something, another says another thing
pub then_to : {A B C : Type 0} (g : Form A) (h : A → Form B) (f : A → Form C) (b : B) (c : C) → ((a : A) (ts : List Token) (n : ℕ) → h a ts n b → f a ts n c)
    → (ts : List Token) (n : ℕ) → sequence g h ts n b → sequence g f ts n c
then_to g h f b c up ts n said = both_to g h g f said.0 said.0 b c (λ us m first. first) (up said.0) ts n said.1

-- what tokens say, turned into a value
pub then_value : {A B : Type 0} (g : Form A) (f : A → B) (ts : List Token) (n : ℕ) (a : A) → g ts n a → sequence g (λ x. says (f x)) ts n (f a)
then_value g f ts n a said =
    (a, record { prefix = ts; rest = []; prefix_count = n; rest_count = 0; joined = sym (append-nil ts); counted = omega arith; first = said; second = (refl, refl, refl) })

-- tokens that stand for a value
pub then_says : {A B : Type 0} (g : Form A) (b : B) (ts : List Token) (n : ℕ) (a : A) → g ts n a → sequence g (λ _. says b) ts n b
then_says g b ts n a said = then_value g (λ _. b) ts n a said

-- what is said behind no more tokens
pub says_to : {A B : Type 0} (f : A → B) {v w : A} (ts : List Token) (n : ℕ) → says w ts n v → says (f w) ts n (f v)
says_to f ts n said = (said.0, said.1, ap f said.2)

-- grouped to the left, and to the right
pub regrouped : {A B C : Type 0} (g : Form A) (h : A → Form B) (f : B → Form C) (ts : List Token) (n : ℕ) (c : C) → sequence (sequence g h) f ts n c
    → sequence g (λ a. sequence (h a) f) ts n c
regrouped g h f ts n c said =
    let w = said.1 in
    let v = w.first.1 in (
      w.first.0,
      record {
        prefix = v.prefix;
        rest = v.rest ++ w.rest;
        prefix_count = v.prefix_count;
        rest_count = v.rest_count + w.rest_count;
        joined = w.joined ∙ ap (λ us. us ++ w.rest) v.joined ∙ append_assoc v.prefix v.rest w.rest;
        counted = omega (arith, w.counted, v.counted);
        first = v.first;
        second = paired (h w.first.0) f said.0 c v.rest w.rest v.rest_count w.rest_count v.second w.second;
      },
    )
