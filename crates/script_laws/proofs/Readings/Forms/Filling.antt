-- What a form says is read: steps of readers.
use Rattle.std.proofs.Common.{◌≡◌, ◌⊎◌, ℕ, zero, suc, ◌+◌, Bool, true, false, if◌then◌else◌, List, [], ◌∷◌, ◌++◌, drop, Option, Some, None, Ok, Err, refl, ap, sym, subst, ◌∙◌, append_assoc, inl, inr, arith}
use Rattle.script_lex.specs.declared.kind.Kind.{Kind}
use Rattle.script_lex.specs.declared.token.Token.{Token}
use Rattle.script_lex.specs.Lex.{same_kind}
use Rattle.script_tokens.proofs.Alike.{alike}
use Rattle.script_tokens.specs.declared.fault.Fault.TheVariants.{At}
use Rattle.script_tokens.specs.Input.{Input, Outcome, Reader, ◌>>=◌, ◌>>◌, and_then, pure, peek, take_token, eat, expect, clause, head, kind, next, sees, after, first_of}
use Rattle.script_laws.specs.Readings.Forms.Form.{Form, sequence, says, word, maybe, whether, ◌or◌}
use Rattle.script_laws.proofs.Readings.Opens.{opens}
use Rattle.script_laws.proofs.Readings.Forms.Taking.{Mode, Plain, Around, Inside, Budget, Enough}
use Rattle.script_laws.proofs.Readings.Forms.Steps.{budget_none, budget_more}

-- a reader is refused at one of these tokens, behind which an expression would nest
pub record Escapes {A : Type 0} (tokens : List Token) (out : Outcome A) : Type 0 where
  pub before : List Token
  pub token : Token
  pub after : List Token
  pub joined : tokens ≡ before ++ token ∷ after
  pub nests : opens token.kind ≡ 1
  pub is : out ≡ Err (At token.at)

-- what is given where expressions stand: this alone, or where they may nest deeper than is read, also a refusal at a token behind which one would nest
abbrev pub Gives : {A : Type 0} → Mode → List Token → Outcome A → Outcome A → Type 0
Gives Plain tokens out wanted = out ≡ wanted
Gives Around tokens out wanted = (out ≡ wanted) ⊎ Escapes tokens out
Gives (Inside zero) tokens out wanted = out ≡ wanted
Gives (Inside (suc deeper)) tokens out wanted = (out ≡ wanted) ⊎ Escapes tokens out

pub record Given {A : Type 0} (mode : Mode) (tokens : List Token) (out wanted : Outcome A) : Type 0 where
  pub gives : Gives mode tokens out wanted

given_by : {A : Type 0} (mode : Mode) (tokens : List Token) (out wanted : Outcome A) → out ≡ wanted → Gives mode tokens out wanted
given_by Plain tokens out wanted e = e
given_by Around tokens out wanted e = inl e
given_by (Inside zero) tokens out wanted e = e
given_by (Inside (suc deeper)) tokens out wanted e = inl e

pub given : {A : Type 0} {mode : Mode} {tokens : List Token} {out wanted : Outcome A} → out ≡ wanted → Given mode tokens out wanted
given {mode = mode} {tokens = tokens} {out = out} {wanted = wanted} e = record { gives = given_by mode tokens out wanted e }

near_as : {A : Type 0} (tokens : List Token) (out mid wanted : Outcome A) → out ≡ mid → (mid ≡ wanted) ⊎ Escapes tokens mid → (out ≡ wanted) ⊎ Escapes tokens out
near_as tokens out mid wanted e (inl same) = inl (e ∙ same)
near_as tokens out mid wanted e (inr s) =
    inr (record { before = s.before; token = s.token; after = s.after; joined = s.joined; nests = s.nests; is = e ∙ s.is })

as_by : {A : Type 0} (mode : Mode) (tokens : List Token) (out mid wanted : Outcome A) → out ≡ mid → Gives mode tokens mid wanted → Gives mode tokens out wanted
as_by Plain tokens out mid wanted e g = e ∙ g
as_by Around tokens out mid wanted e g = near_as tokens out mid wanted e g
as_by (Inside zero) tokens out mid wanted e g = e ∙ g
as_by (Inside (suc deeper)) tokens out mid wanted e g = near_as tokens out mid wanted e g

-- where the same outcome is
pub given_as : {A : Type 0} {mode : Mode} {tokens : List Token} {out mid wanted : Outcome A} → out ≡ mid → Given mode tokens mid wanted → Given mode tokens out wanted
given_as {mode = mode} {tokens = tokens} {out = out} {mid = mid} {wanted = wanted} e g = record { gives = as_by mode tokens out mid wanted e g.gives }

near_behind : {A : Type 0} (fs ts : List Token) (out wanted : Outcome A) → (out ≡ wanted) ⊎ Escapes ts out → (out ≡ wanted) ⊎ Escapes (fs ++ ts) out
near_behind fs ts out wanted (inl same) = inl same
near_behind fs ts out wanted (inr s) = inr (record {
  before = fs ++ s.before;
  token = s.token;
  after = s.after;
  joined = ap (λ us. fs ++ us) s.joined ∙ sym (append_assoc fs s.before (s.token ∷ s.after));
  nests = s.nests;
  is = s.is;
})

behind_by : {A : Type 0} (mode : Mode) (fs ts : List Token) (out wanted : Outcome A) → Gives mode ts out wanted → Gives mode (fs ++ ts) out wanted
behind_by Plain fs ts out wanted g = g
behind_by Around fs ts out wanted g = near_behind fs ts out wanted g
behind_by (Inside zero) fs ts out wanted g = g
behind_by (Inside (suc deeper)) fs ts out wanted g = near_behind fs ts out wanted g

-- with a token before
pub given_behind : {A : Type 0} {mode : Mode} {t : Token} {ts : List Token} {out wanted : Outcome A} → Given mode ts out wanted → Given mode (t ∷ ts) out wanted
given_behind {mode = mode} {t = t} {ts = ts} {out = out} {wanted = wanted} g = record { gives = behind_by mode (t ∷ []) ts out wanted g.gives }

near_then : {A B : Type 0} (tokens : List Token) (out : Outcome A) (f : A → Reader B) (a : A) (j : Input) (wanted : Outcome B) → (out ≡ Ok (a, j)) ⊎ Escapes tokens out
    → (f a j ≡ wanted) ⊎ Escapes tokens (f a j) → (and_then out f ≡ wanted) ⊎ Escapes tokens (and_then out f)
near_then tokens out f a j wanted (inl same) two = near_as tokens (and_then out f) (f a j) wanted (ap (λ o. and_then o f) same) two
near_then tokens out f a j wanted (inr s) two =
    inr (record { before = s.before; token = s.token; after = s.after; joined = s.joined; nests = s.nests; is = ap (λ o. and_then o f) s.is })

then_by : {A B : Type 0} (mode : Mode) (tokens : List Token) (out : Outcome A) (f : A → Reader B) (a : A) (j : Input) (wanted : Outcome B) → Gives mode tokens out (Ok (a, j))
    → Gives mode tokens (f a j) wanted → Gives mode tokens (and_then out f) wanted
then_by Plain tokens out f a j wanted one two = ap (λ o. and_then o f) one ∙ two
then_by Around tokens out f a j wanted one two = near_then tokens out f a j wanted one two
then_by (Inside zero) tokens out f a j wanted one two = ap (λ o. and_then o f) one ∙ two
then_by (Inside (suc deeper)) tokens out f a j wanted one two = near_then tokens out f a j wanted one two

-- one reader behind another
pub given_then : {A B : Type 0} {mode : Mode} (fs ys : List Token) {out : Outcome A} (f : A → Reader B) {a : A} {j : Input} {wanted : Outcome B}
    → Given mode (fs ++ ys) out (Ok (a, j)) → Given mode ys (f a j) wanted → Given mode (fs ++ ys) (and_then out f) wanted
given_then {mode = mode} fs ys {out = out} f {a = a} {j = j} {wanted = wanted} one two =
    record { gives = then_by mode (fs ++ ys) out f a j wanted one.gives (behind_by mode fs ys (f a j) wanted two.gives) }

-- what is made of a value
pub given_map : {A B : Type 0} {mode : Mode} {tokens : List Token} {out : Outcome A} (f : A → Reader B) {a : A} {j : Input} {wanted : Outcome B} → f a j ≡ wanted
    → Given mode tokens out (Ok (a, j)) → Given mode tokens (and_then out f) wanted
given_map {mode = mode} {tokens = tokens} {out = out} f {a = a} {j = j} {wanted = wanted} e one =
    record { gives = then_by mode tokens out f a j wanted one.gives (given_by mode tokens (f a j) wanted e) }

-- a reader reads these tokens before the rest, and gives this
pub record Read {A : Type 0} (mode : Mode) (p : Reader A) (tokens rest : List Token) (count operators : ℕ) (a : A) : Type 0 where
  pub left : ℕ
  pub budget : Budget mode count operators left
  pub is : Given mode tokens (p (record { ahead = tokens; operators = operators })) (Ok (a, record { ahead = rest; operators = left }))

-- Whatever the form says is read, where the next token is of a kind before which the reader stops.
pub record Complete {A : Type 0} (mode : Mode) (stops : Kind → Bool) (p : Reader A) (form : Form A) : Type 0 where
  pub run : (prefix rest : List Token) (count operators : ℕ) (a : A) → form prefix count a → Enough mode count operators → stops (first_of rest).kind ≡ true
      → Read mode p (prefix ++ rest) rest count operators a

-- Before what follows, the tokens of a form begin with a kind of these.
pub record Opens {A : Type 0} (form : Form A) (next these : Kind → Bool) : Type 0 where
  pub run : (tokens rest : List Token) (count : ℕ) (a : A) → form tokens count a → next (first_of rest).kind ≡ true → these (first_of (tokens ++ rest)).kind ≡ true

abbrev pub always : Kind → Bool
always kind = true

pub enough_first : (mode : Mode) (m n o : ℕ) → Enough mode (m + n) o → Enough mode m o
enough_first Plain m n o h = omega arith
enough_first Around m n o h = omega arith
enough_first (Inside d) m n o h = omega arith

pub enough_then : (mode : Mode) (m n o p : ℕ) → Enough mode (m + n) o → Budget mode m o p → Enough mode n p
enough_then Plain m n o p h b = omega arith
enough_then Around m n o p h b = omega arith
enough_then (Inside d) m n o p h b = omega arith

both_read : {A B : Type 0} (mode : Mode) (p : Reader A) (f : A → Reader B) (fs ys rest : List Token) (m n o : ℕ) (a : A) (b : B) → (one : Read mode p (fs ++ ys) ys m o a)
    → Read mode (f a) ys rest n one.left b → Read mode (p >>= f) (fs ++ ys) rest (m + n) o b
both_read mode p f fs ys rest m n o a b one two = record {
  left = two.left;
  budget = budget_more mode m n o one.left two.left one.budget two.budget;
  is = given_then fs ys f one.is two.is;
}

both_by : {A B : Type 0} (mode : Mode) (s t : Kind → Bool) (p : Reader A) (g : Form A) (f : A → Reader B) (h : A → Form B) → Complete mode s p g
    → ((a : A) → Complete mode t (f a) (h a)) → ((a : A) → Opens (h a) t s) → (rest : List Token) (o : ℕ) (a : A) (b : B) (fs rs : List Token) (m n : ℕ)
    → g fs m a → h a rs n b → Enough mode (m + n) o → t (first_of rest).kind ≡ true → Read mode (p >>= f) (fs ++ (rs ++ rest)) rest (m + n) o b
both_by mode s t p g f h cp cf opens rest o a b fs rs m n one two enough stop =
    let first : Read mode p (fs ++ (rs ++ rest)) (rs ++ rest) m o a = cp.run fs (rs ++ rest) m o a one (enough_first mode m n o enough) ((opens a).run rs rest n b two stop) in
    both_read mode p f fs (rs ++ rest) rest m n o a b first ((cf a).run rs rest n first.left b two (enough_then mode m n o first.left enough first.budget) stop)

both_run : {A B : Type 0} (mode : Mode) (s t : Kind → Bool) (p : Reader A) (g : Form A) (f : A → Reader B) (h : A → Form B) → Complete mode s p g
    → ((a : A) → Complete mode t (f a) (h a)) → ((a : A) → Opens (h a) t s) → (prefix rest : List Token) (count o : ℕ) (b : B) → sequence g h prefix count b
    → Enough mode count o → t (first_of rest).kind ≡ true → Read mode (p >>= f) (prefix ++ rest) rest count o b
both_run mode s t p g f h cp cf opens prefix rest count o b said enough stop =
    let a = said.0 in
    let w = said.1 in
    let read = both_by mode s t p g f h cp cf opens rest o a b w.prefix w.rest w.prefix_count w.rest_count w.first w.second (subst (λ n. Enough mode n o) w.counted enough) stop in
    let tokens : w.prefix ++ (w.rest ++ rest) ≡ prefix ++ rest = sym (append_assoc w.prefix w.rest rest) ∙ ap (λ ts. ts ++ rest) (sym w.joined) in
    subst (λ ts. Read mode (p >>= f) ts rest count o b) tokens (subst (λ n. Read mode (p >>= f) (w.prefix ++ (w.rest ++ rest)) rest n o b) (sym w.counted) read)

pub both : {A B : Type 0} {mode : Mode} {s t : Kind → Bool} {p : Reader A} {g : Form A} {f : A → Reader B} {h : A → Form B} → Complete mode s p g
    → ((a : A) → Complete mode t (f a) (h a)) → ((a : A) → Opens (h a) t s) → Complete mode t (p >>= f) (sequence g h)
both {mode = mode} {s = s} {t = t} {p = p} {g = g} {f = f} {h = h} cp cf opens = record { run = both_run mode s t p g f h cp cf opens }

-- where the first reader stops before any token
pub then_any : {A B : Type 0} {mode : Mode} {t : Kind → Bool} {p : Reader A} {g : Form A} {f : A → Reader B} {h : A → Form B} → Complete mode always p g
    → ((a : A) → Complete mode t (f a) (h a)) → Complete mode t (p >>= f) (sequence g h)
then_any cp cf = both cp cf (λ a. record { run = λ tokens rest count b said stop. refl })

pub less : {A : Type 0} {mode : Mode} {s t : Kind → Bool} {p : Reader A} {g : Form A} → Complete mode s p g → ((kd : Kind) → t kd ≡ true → s kd ≡ true) → Complete mode t p g
less {t = t} cp within = record { run = λ prefix rest count o a said enough stop. cp.run prefix rest count o a said enough (within (first_of rest).kind stop) }

made_by : {A : Type 0} (mode : Mode) (a b : A) (prefix rest : List Token) (count o : ℕ) → says a prefix count b → Enough mode count o → Read mode (pure a) (prefix ++ rest) rest count o b
made_by mode a b prefix rest count o said enough =
    subst (λ ts. Read mode (pure a) (ts ++ rest) rest count o b) (sym said.0) (subst (λ n. Read mode (pure a) rest rest n o b) (sym said.1)
    (subst (λ c. Read mode (pure a) rest rest 0 o c) (sym said.2) (record { left = o; budget = budget_none mode o; is = given refl })))

pub made : {A : Type 0} {mode : Mode} (a : A) → Complete mode always (pure a) (says a)
made {mode = mode} a = record { run = λ prefix rest count o b said enough stop. made_by mode a b prefix rest count o said enough }

-- ---- single tokens

expected_by : (mode : Mode) (kd : Kind) (t : Token) (rest : List Token) (o : ℕ) (u : Unit {0}) → t.kind ≡ kd → Read mode (expect kd) (t ∷ rest) rest 0 o u
unfolding expect sees head next
expected_by mode kd t rest o u is = record {
  left = o;
  budget = budget_none mode o;
  is = given (ap (λ b. if b then Ok (tt, record { ahead = rest; operators = o }) else Err (At t.at)) (alike is));
}

word_run : {A : Type 0} (mode : Mode) (p : Reader A) (kd : Kind) (a : A) → ((t : Token) (rest : List Token) (o : ℕ) → t.kind ≡ kd → Read mode p (t ∷ rest) rest 0 o a)
    → (prefix rest : List Token) (count o : ℕ) (u : Unit {0}) → word kd prefix count u → Read mode p (prefix ++ rest) rest count o a
word_run mode p kd a one prefix rest count o u said =
    subst (λ ts. Read mode p (ts ++ rest) rest count o a) (sym said.1) (subst (λ n. Read mode p (said.0 ∷ rest) rest n o a) (sym said.3) (one said.0 rest o said.2))

pub expected : {mode : Mode} (kd : Kind) → Complete mode always (expect kd) (word kd)
expected {mode = mode} kd =
    record { run = λ prefix rest count o u said enough stop. word_run mode (expect kd) kd u (λ t ts p is. expected_by mode kd t ts p u is) prefix rest count o u said }

pub taken : {mode : Mode} (kd : Kind) → Complete mode always take_token (word kd)
unfolding next
taken {mode = mode} kd = record {
  run = λ prefix rest count o u said enough stop. word_run mode take_token kd u (λ t ts p is. record { left = p; budget = budget_none mode p; is = given refl }) prefix rest count o u said;
}

-- ---- the kind of the next token decides

-- the reader of this kind reads where such a token comes next
pub by_kind_read : {A : Type 0} (mode : Mode) (by : Kind → Reader A) (kd : Kind) (t : Token) (ts rest : List Token) (n o : ℕ) (a : A) → t.kind ≡ kd
    → Read mode (by kd) (t ∷ ts) rest n o a → Read mode (peek >>= by) (t ∷ ts) rest n o a
unfolding head
by_kind_read mode by kd t ts rest n o a is read =
    let r : Read mode (by t.kind) (t ∷ ts) rest n o a = subst (λ x. Read mode (by x) (t ∷ ts) rest n o a) (sym is) read in
    record { left = r.left; budget = r.budget; is = r.is }

on_word_run : {A : Type 0} (mode : Mode) (next : Kind → Bool) (by : Kind → Reader A) (kd : Kind) (g : Form A) → Complete mode next (by kd) (sequence (word kd) (λ _. g))
    → (prefix rest : List Token) (count o : ℕ) (a : A) → sequence (word kd) (λ _. g) prefix count a → Enough mode count o → next (first_of rest).kind ≡ true
    → Read mode (peek >>= by) (prefix ++ rest) rest count o a
on_word_run mode next by kd g cp prefix rest count o a said enough stop =
    let w = said.1 in
    let t = w.first.0 in
    let tokens : prefix ≡ t ∷ w.rest = w.joined ∙ ap (λ ts. ts ++ w.rest) w.first.1 in
    let read : Read mode (by kd) (t ∷ (w.rest ++ rest)) rest count o a =
    subst (λ ts. Read mode (by kd) (ts ++ rest) rest count o a) tokens (cp.run prefix rest count o a said enough stop) in
    subst (λ ts. Read mode (peek >>= by) (ts ++ rest) rest count o a) (sym tokens) (by_kind_read mode by kd t (w.rest ++ rest) rest count o a w.first.2 read)

pub on_word : {A : Type 0} {mode : Mode} {next : Kind → Bool} (by : Kind → Reader A) (kd : Kind) {g : Form A} → Complete mode next (by kd) (sequence (word kd) (λ _. g))
    → Complete mode next (peek >>= by) (sequence (word kd) (λ _. g))
on_word {mode = mode} {next = next} by kd {g = g} cp = record { run = on_word_run mode next by kd g cp }

-- the first token of these is of this kind
pub record Begun (kd : Kind) (tokens : List Token) : Type 0 where
  pub first : Token
  pub more : List Token
  pub joined : tokens ≡ first ∷ more
  pub is : first.kind ≡ kd

on_first_run : {A : Type 0} (mode : Mode) (next : Kind → Bool) (by : Kind → Reader A) (kd : Kind) (form : Form A)
    → ((tokens : List Token) (count : ℕ) (a : A) → form tokens count a → Begun kd tokens) → Complete mode next (by kd) form
    → (prefix rest : List Token) (count o : ℕ) (a : A) → form prefix count a → Enough mode count o → next (first_of rest).kind ≡ true
    → Read mode (peek >>= by) (prefix ++ rest) rest count o a
on_first_run mode next by kd form begins cp prefix rest count o a said enough stop =
    let b = begins prefix count a said in
    let read : Read mode (by kd) (b.first ∷ (b.more ++ rest)) rest count o a =
    subst (λ ts. Read mode (by kd) (ts ++ rest) rest count o a) b.joined (cp.run prefix rest count o a said enough stop) in
    subst (λ ts. Read mode (peek >>= by) (ts ++ rest) rest count o a) (sym b.joined) (by_kind_read mode by kd b.first (b.more ++ rest) rest count o a b.is read)

pub on_first : {A : Type 0} {mode : Mode} {next : Kind → Bool} (by : Kind → Reader A) (kd : Kind) {form : Form A}
    → ((tokens : List Token) (count : ℕ) (a : A) → form tokens count a → Begun kd tokens) → Complete mode next (by kd) form → Complete mode next (peek >>= by) form
on_first {mode = mode} {next = next} by kd {form = form} begins cp = record { run = on_first_run mode next by kd form begins cp }

pub word_begun : (kd : Kind) (tokens : List Token) (count : ℕ) (u : Unit {0}) → word kd tokens count u → Begun kd tokens
word_begun kd tokens count u said = record { first = said.0; more = []; joined = said.1; is = said.2 }

pub then_begun : {A B : Type 0} (kd : Kind) (g : Form A) (h : A → Form B) → ((tokens : List Token) (count : ℕ) (a : A) → g tokens count a → Begun kd tokens)
    → (tokens : List Token) (count : ℕ) (b : B) → sequence g h tokens count b → Begun kd tokens
then_begun kd g h begins tokens count b said =
    let w = said.1 in
    let f = begins w.prefix w.prefix_count said.0 w.first in
    record { first = f.first; more = f.more ++ w.rest; joined = w.joined ∙ ap (λ ts. ts ++ w.rest) f.joined; is = f.is }

either_run : {A : Type 0} (mode : Mode) (next : Kind → Bool) (p : Reader A) (g h : Form A) → Complete mode next p g → Complete mode next p h
    → (prefix rest : List Token) (count o : ℕ) (a : A) → (g or h) prefix count a → Enough mode count o → next (first_of rest).kind ≡ true → Read mode p (prefix ++ rest) rest count o a
either_run mode next p g h cg ch prefix rest count o a (inl said) enough stop = cg.run prefix rest count o a said enough stop
either_run mode next p g h cg ch prefix rest count o a (inr said) enough stop = ch.run prefix rest count o a said enough stop

pub either : {A : Type 0} {mode : Mode} {next : Kind → Bool} {p : Reader A} {g h : Form A} → Complete mode next p g → Complete mode next p h → Complete mode next p (g or h)
either {mode = mode} {next = next} {p = p} {g = g} {h = h} cg ch = record { run = either_run mode next p g h cg ch }

-- ---- what may be left out

-- where a word does not come next, and where it does
absent_by : {A : Type 0} (mode : Mode) (kd : Kind) (p : Reader A) (x : A) (rest : List Token) (o : ℕ) → same_kind (first_of rest).kind kd ≡ false
    → Read mode (eat kd >>= (λ found. if found then p else pure x)) rest rest 0 o x
unfolding sees after head next
absent_by mode kd p x rest o is = record {
  left = o;
  budget = budget_none mode o;
  is = given (ap (λ b. (if b then p else pure x) (if b then record { ahead = drop 1 rest; operators = o } else record { ahead = rest; operators = o })) is);
}

pub present_by : {A : Type 0} (mode : Mode) (kd : Kind) (p : Reader A) (x : A) (t : Token) (ts rest : List Token) (n o : ℕ) (a : A) → t.kind ≡ kd → Read mode p ts rest n o a
    → Read mode (eat kd >>= (λ found. if found then p else pure x)) (t ∷ ts) rest n o a
unfolding sees after head next
present_by mode kd p x t ts rest n o a is read = record {
  left = read.left;
  budget = read.budget;
  is = given_as (ap (λ b. (if b then p else pure x) (if b then record { ahead = ts; operators = o } else record { ahead = t ∷ ts; operators = o })) (alike is)) (given_behind read.is);
}

-- a word and what it introduces
pub present : {A : Type 0} (mode : Mode) (next : Kind → Bool) (kd : Kind) (p : Reader A) (x : A) (g : Form A) → Complete mode next p g
    → (prefix rest : List Token) (count o : ℕ) (a : A) → sequence (word kd) (λ _. g) prefix count a → Enough mode count o → next (first_of rest).kind ≡ true
    → Read mode (eat kd >>= (λ found. if found then p else pure x)) (prefix ++ rest) rest count o a
present mode next kd p x g cp prefix rest count o a said enough stop =
    let w = said.1 in
    let t = w.first.0 in
    let tokens : prefix ≡ t ∷ w.rest = w.joined ∙ ap (λ ts. ts ++ w.rest) w.first.1 in
    let counts : w.rest_count ≡ count = omega (arith, w.counted, w.first.3) in
    let read : Read mode p (w.rest ++ rest) rest w.rest_count o a = cp.run w.rest rest w.rest_count o a w.second (subst (λ n. Enough mode n o) (sym counts) enough) stop in
    subst (λ ts. Read mode (eat kd >>= (λ found. if found then p else pure x)) (ts ++ rest) rest count o a) (sym tokens)
    (present_by mode kd p x t (w.rest ++ rest) rest count o a w.first.2 (subst (λ n. Read mode p (w.rest ++ rest) rest n o a) counts read))

pub absent : {A : Type 0} (mode : Mode) (kd : Kind) (p : Reader A) (x : A) (prefix rest : List Token) (count o : ℕ) → prefix ≡ [] → count ≡ 0
    → same_kind (first_of rest).kind kd ≡ false → Read mode (eat kd >>= (λ found. if found then p else pure x)) (prefix ++ rest) rest count o x
absent mode kd p x prefix rest count o none counts is =
    subst (λ ts. Read mode (eat kd >>= (λ found. if found then p else pure x)) (ts ++ rest) rest count o x) (sym none)
    (subst (λ n. Read mode (eat kd >>= (λ found. if found then p else pure x)) rest rest n o x) (sym counts) (absent_by mode kd p x rest o is))

-- a value behind what introduces it
pub mapped_run : {A B : Type 0} (mode : Mode) (next : Kind → Bool) (p : Reader A) (g : Form A) (f : A → B) → Complete mode next p g
    → (prefix rest : List Token) (count o : ℕ) (a : A) → g prefix count a → Enough mode count o → next (first_of rest).kind ≡ true
    → Read mode (p >>= (λ x. pure (f x))) (prefix ++ rest) rest count o (f a)
mapped_run mode next p g f cp prefix rest count o a said enough stop =
    let read = cp.run prefix rest count o a said enough stop in
    record { left = read.left; budget = read.budget; is = given_map (λ x. pure (f x)) refl read.is }

clause_run : {A : Type 0} (mode : Mode) (next : Kind → Bool) (kd : Kind) (p : Reader A) (g : Form A) → Complete mode next p g → ((x : Kind) → next x ≡ true → same_kind x kd ≡ false)
    → (prefix rest : List Token) (count o : ℕ) (a : Option A) → maybe (sequence (word kd) (λ _. g)) prefix count a → Enough mode count o → next (first_of rest).kind ≡ true
    → Read mode (clause kd p) (prefix ++ rest) rest count o a
clause_run mode next kd p g cp other prefix rest count o None said enough stop =
    absent mode kd (p >>= (λ x. pure (Some x))) None prefix rest count o said.0 said.1 (other (first_of rest).kind stop)
clause_run mode next kd p g cp other prefix rest count o (Some x) said enough stop =
    let w = said.1 in
    let t = w.first.0 in
    let tokens : prefix ≡ t ∷ w.rest = w.joined ∙ ap (λ ts. ts ++ w.rest) w.first.1 in
    let counts : w.rest_count ≡ count = omega (arith, w.counted, w.first.3) in
    let read : Read mode (p >>= (λ x. pure (Some x))) (w.rest ++ rest) rest w.rest_count o (Some x) =
    mapped_run mode next p g Some cp w.rest rest w.rest_count o x w.second (subst (λ n. Enough mode n o) (sym counts) enough) stop in
    subst (λ ts. Read mode (clause kd p) (ts ++ rest) rest count o (Some x)) (sym tokens)
    (present_by mode kd (p >>= (λ x. pure (Some x))) None t (w.rest ++ rest) rest count o (Some x) w.first.2
    (subst (λ n. Read mode (p >>= (λ x. pure (Some x))) (w.rest ++ rest) rest n o (Some x)) counts read))

pub introduced : {A : Type 0} {mode : Mode} {next : Kind → Bool} (kd : Kind) {p : Reader A} {g : Form A} → Complete mode next p g
    → ((x : Kind) → next x ≡ true → same_kind x kd ≡ false) → Complete mode next (clause kd p) (maybe (sequence (word kd) (λ _. g)))
introduced {mode = mode} {next = next} kd {p = p} {g = g} cp other = record { run = clause_run mode next kd p g cp other }

if_word_run : {A : Type 0} (mode : Mode) (next : Kind → Bool) (kd : Kind) (p : Reader A) (x : A) (g : Form A) → Complete mode next p g
    → ((y : Kind) → next y ≡ true → same_kind y kd ≡ false)
    → (prefix rest : List Token) (count o : ℕ) (a : A) → ((sequence (word kd) (λ _. g)) or says x) prefix count a → Enough mode count o → next (first_of rest).kind ≡ true
    → Read mode (eat kd >>= (λ found. if found then p else pure x)) (prefix ++ rest) rest count o a
if_word_run mode next kd p x g cp other prefix rest count o a (inl said) enough stop = present mode next kd p x g cp prefix rest count o a said enough stop
if_word_run mode next kd p x g cp other prefix rest count o a (inr said) enough stop =
    subst (λ v. Read mode (eat kd >>= (λ found. if found then p else pure x)) (prefix ++ rest) rest count o v) (sym said.2)
    (absent mode kd p x prefix rest count o said.0 said.1 (other (first_of rest).kind stop))

-- a word and what it introduces, or else this
pub if_word : {A : Type 0} {mode : Mode} {next : Kind → Bool} (kd : Kind) {p : Reader A} (x : A) {g : Form A} → Complete mode next p g
    → ((y : Kind) → next y ≡ true → same_kind y kd ≡ false) → Complete mode next (eat kd >>= (λ found. if found then p else pure x)) ((sequence (word kd) (λ _. g)) or says x)
if_word {mode = mode} {next = next} kd {p = p} x {g = g} cp other = record { run = if_word_run mode next kd p x g cp other }

eaten_run : (mode : Mode) (next : Kind → Bool) (kd : Kind) → ((y : Kind) → next y ≡ true → same_kind y kd ≡ false)
    → (prefix rest : List Token) (count o : ℕ) (b : Bool) → whether (word kd) prefix count b → Enough mode count o → next (first_of rest).kind ≡ true
    → Read mode (eat kd) (prefix ++ rest) rest count o b
unfolding sees after head next
eaten_run mode next kd other prefix rest count o false said enough stop =
    subst (λ ts. Read mode (eat kd) (ts ++ rest) rest count o false) (sym said.0) (subst (λ n. Read mode (eat kd) rest rest n o false) (sym said.1) (record {
      left = o;
      budget = budget_none mode o;
      is = given (ap (λ b. Ok (b, if b then record { ahead = drop 1 rest; operators = o } else record { ahead = rest; operators = o })) (other (first_of rest).kind stop));
    }))
eaten_run mode next kd other prefix rest count o true said enough stop =
    let t = said.0 in
    subst (λ ts. Read mode (eat kd) (ts ++ rest) rest count o true) (sym said.1) (subst (λ n. Read mode (eat kd) (t ∷ rest) rest n o true) (sym said.3) (record {
      left = o;
      budget = budget_none mode o;
      is = given (ap (λ b. Ok (b, if b then record { ahead = rest; operators = o } else record { ahead = t ∷ rest; operators = o })) (alike said.2));
    }))

pub eaten : {mode : Mode} {next : Kind → Bool} (kd : Kind) → ((y : Kind) → next y ≡ true → same_kind y kd ≡ false) → Complete mode next (eat kd) (whether (word kd))
eaten {mode = mode} {next = next} kd other = record { run = eaten_run mode next kd other }

two_run : (mode : Mode) (next : Kind → Bool) (one two : Kind) → ((y : Kind) → next y ≡ true → same_kind y one ≡ false)
    → (prefix rest : List Token) (count o : ℕ) (b : Bool) → whether (sequence (word one) (λ _. word two)) prefix count b → Enough mode count o → next (first_of rest).kind ≡ true
    → Read mode (eat one >>= (λ found. if found then (expect two >> pure true) else pure false)) (prefix ++ rest) rest count o b
two_run mode next one two other prefix rest count o false said enough stop =
    absent mode one (expect two >> pure true) false prefix rest count o said.0 said.1 (other (first_of rest).kind stop)
two_run mode next one two other prefix rest count o true said enough stop =
    let w = said.1 in
    let t = w.first.0 in
    let tokens : prefix ≡ t ∷ w.rest = w.joined ∙ ap (λ ts. ts ++ w.rest) w.first.1 in
    let counts : w.rest_count ≡ count = omega (arith, w.counted, w.first.3) in
    let read : Read mode (expect two >> pure true) (w.rest ++ rest) rest w.rest_count o true =
    mapped_run mode always (expect two) (word two) (λ _. true) (expected two) w.rest rest w.rest_count o tt w.second (subst (λ n. Enough mode n o) (sym counts) enough) refl in
    subst (λ ts. Read mode (eat one >>= (λ found. if found then (expect two >> pure true) else pure false)) (ts ++ rest) rest count o true) (sym tokens)
    (present_by mode one (expect two >> pure true) false t (w.rest ++ rest) rest count o true w.first.2
    (subst (λ n. Read mode (expect two >> pure true) (w.rest ++ rest) rest n o true) counts read))

-- two words, or nothing
pub two_words : {mode : Mode} {next : Kind → Bool} (one two : Kind) → ((y : Kind) → next y ≡ true → same_kind y one ≡ false)
    → Complete mode next (eat one >>= (λ found. if found then (expect two >> pure true) else pure false)) (whether (sequence (word one) (λ _. word two)))
two_words {mode = mode} {next = next} one two other = record { run = two_run mode next one two other }

-- ---- how forms begin

says_opens : {A : Type 0} (a : A) (next these : Kind → Bool) → ((y : Kind) → next y ≡ true → these y ≡ true)
    → (tokens rest : List Token) (count : ℕ) (b : A) → says a tokens count b → next (first_of rest).kind ≡ true → these (first_of (tokens ++ rest)).kind ≡ true
says_opens a next these within tokens rest count b said stop =
    subst (λ ts. these (first_of (ts ++ rest)).kind ≡ true) (sym said.0) (within (first_of rest).kind stop)

pub made_opens : {A : Type 0} (a : A) {next these : Kind → Bool} → ((y : Kind) → next y ≡ true → these y ≡ true) → Opens (says a) next these
made_opens a {next = next} {these = these} within = record { run = says_opens a next these within }

word_opens_by : (kd : Kind) (these : Kind → Bool) → these kd ≡ true → (tokens more : List Token) (count : ℕ) (u : Unit {0}) → word kd tokens count u
    → these (first_of (tokens ++ more)).kind ≡ true
word_opens_by kd these is tokens more count u said =
    subst (λ ts. these (first_of (ts ++ more)).kind ≡ true) (sym said.1) (ap these said.2 ∙ is)

pub word_opens : (kd : Kind) {next these : Kind → Bool} → these kd ≡ true → Opens (word kd) next these
word_opens kd {these = these} is = record { run = λ tokens rest count u said stop. word_opens_by kd these is tokens rest count u said }

then_opens_by : {A B : Type 0} (g : Form A) (h : A → Form B) (next middle these : Kind → Bool) → Opens g middle these → ((a : A) → Opens (h a) next middle)
    → (tokens rest : List Token) (count : ℕ) (b : B) → sequence g h tokens count b → next (first_of rest).kind ≡ true → these (first_of (tokens ++ rest)).kind ≡ true
then_opens_by g h next middle these og oh tokens rest count b said stop =
    let w = said.1 in
    let split : w.prefix ++ (w.rest ++ rest) ≡ tokens ++ rest = sym (append_assoc w.prefix w.rest rest) ∙ ap (λ ts. ts ++ rest) (sym w.joined) in
    subst (λ ts. these (first_of ts).kind ≡ true) split
    (og.run w.prefix (w.rest ++ rest) w.prefix_count said.0 w.first ((oh said.0).run w.rest rest w.rest_count b w.second stop))

pub then_opens : {A B : Type 0} {g : Form A} {h : A → Form B} {next : Kind → Bool} (middle : Kind → Bool) {these : Kind → Bool} → Opens g middle these
    → ((a : A) → Opens (h a) next middle) → Opens (sequence g h) next these
then_opens {g = g} {h = h} {next = next} middle {these = these} og oh = record { run = then_opens_by g h next middle these og oh }

-- where the first form has tokens, what follows says nothing
pub first_opens : {A B : Type 0} {g : Form A} {h : A → Form B} {next these : Kind → Bool} → Opens g always these → Opens (sequence g h) next these
first_opens og = then_opens always og (λ a. record { run = λ tokens rest count b said stop. refl })

maybe_opens_by : {A : Type 0} (g : Form A) (next these : Kind → Bool) → Opens g next these → ((y : Kind) → next y ≡ true → these y ≡ true)
    → (tokens rest : List Token) (count : ℕ) (a : Option A) → maybe g tokens count a → next (first_of rest).kind ≡ true → these (first_of (tokens ++ rest)).kind ≡ true
maybe_opens_by g next these og within tokens rest count None said stop =
    subst (λ ts. these (first_of (ts ++ rest)).kind ≡ true) (sym said.0) (within (first_of rest).kind stop)
maybe_opens_by g next these og within tokens rest count (Some a) said stop = og.run tokens rest count a said stop

pub maybe_opens : {A : Type 0} {g : Form A} {next these : Kind → Bool} → Opens g next these → ((y : Kind) → next y ≡ true → these y ≡ true) → Opens (maybe g) next these
maybe_opens {g = g} {next = next} {these = these} og within = record { run = maybe_opens_by g next these og within }

whether_opens_by : (g : Form (Unit {0})) (next these : Kind → Bool) → Opens g next these → ((y : Kind) → next y ≡ true → these y ≡ true)
    → (tokens rest : List Token) (count : ℕ) (a : Bool) → whether g tokens count a → next (first_of rest).kind ≡ true → these (first_of (tokens ++ rest)).kind ≡ true
whether_opens_by g next these og within tokens rest count false said stop =
    subst (λ ts. these (first_of (ts ++ rest)).kind ≡ true) (sym said.0) (within (first_of rest).kind stop)
whether_opens_by g next these og within tokens rest count true said stop = og.run tokens rest count tt said stop

pub whether_opens : {g : Form (Unit {0})} {next these : Kind → Bool} → Opens g next these → ((y : Kind) → next y ≡ true → these y ≡ true) → Opens (whether g) next these
whether_opens {g = g} {next = next} {these = these} og within = record { run = whether_opens_by g next these og within }

either_opens_by : {A : Type 0} (g h : Form A) (next these : Kind → Bool) → Opens g next these → Opens h next these
    → (tokens rest : List Token) (count : ℕ) (a : A) → (g or h) tokens count a → next (first_of rest).kind ≡ true → these (first_of (tokens ++ rest)).kind ≡ true
either_opens_by g h next these og oh tokens rest count a (inl said) stop = og.run tokens rest count a said stop
either_opens_by g h next these og oh tokens rest count a (inr said) stop = oh.run tokens rest count a said stop

pub either_opens : {A : Type 0} {g h : Form A} {next these : Kind → Bool} → Opens g next these → Opens h next these → Opens (g or h) next these
either_opens {g = g} {h = h} {next = next} {these = these} og oh = record { run = either_opens_by g h next these og oh }
