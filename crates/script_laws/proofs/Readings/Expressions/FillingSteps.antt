-- What a form says is read: steps that expressions take.
use Rattle.std.proofs.Common.{◌≡◌, ℕ, ◌≤◌, Bool, true, false, if◌then◌else◌, List, [], ◌∷◌, ◌++◌, drop, length, length-append, refl, ap, sym, subst, ◌∙◌, append_assoc, append-nil, inl, inr, arith}
use Rattle.script_lex.specs.declared.kind.Kind.{Kind}
use Rattle.script_lex.specs.declared.kind.Kind.TheVariants as k
use Rattle.script_lex.specs.declared.token.Token.{Token}
use Rattle.script_lex.specs.Lex.{same_kind}
use Rattle.script_tokens.proofs.Alike.{same, alike}
use Rattle.script_tokens.specs.Input.{Input, Reader, ◌>>=◌, pure, eat, peek, take_token, head, next, sees, after, first_of, separated_from}
use Rattle.script_laws.specs.Readings.Forms.Form.{Form, Both, sequence, says, word, whether, separated_list, ◌or◌}
use Rattle.script_laws.specs.Readings.Forms.Expressions.{several}
use Rattle.script_laws.proofs.Readings.Forms.Taking.{Mode, Enough}
use Rattle.script_laws.proofs.Readings.Forms.Sequences.{then_to, regrouped}
use Rattle.script_laws.proofs.Readings.Forms.Filling.{given_as, given_behind, Read, Complete, Opens, always, both, less, made, made_opens, if_word, first_opens, word_opens, either_opens}
use Rattle.script_laws.proofs.Readings.Forms.FillingBasics.{Solid, items_fit, all_read}

false_true : false ≡ true → ⊥
false_true e = cc

-- ---- kinds

unlike_by : (these : Kind → Bool) (kd y : Kind) → these kd ≡ false → these y ≡ true → (b : Bool) → same_kind y kd ≡ b → b ≡ false
unlike_by these kd y out within false is = refl
unlike_by these kd y out within true is = absurd (false_true (sym out ∙ ap these (sym (same is)) ∙ within))

-- a kind of these is none that is not of these
pub unlike : (these : Kind → Bool) (kd : Kind) → these kd ≡ false → (y : Kind) → these y ≡ true → same_kind y kd ≡ false
unlike these kd out y within = unlike_by these kd y out within (same_kind y kd) refl

-- this kind alone
abbrev pub only : Kind → Kind → Bool
only this kind = same_kind kind this

-- ---- a form within another

pub onto : {A : Type 0} {mode : Mode} {next : Kind → Bool} {p : Reader A} {g h : Form A} → ((ts : List Token) (n : ℕ) (a : A) → g ts n a → h ts n a)
    → Complete mode next p h → Complete mode next p g
onto up cp = record { run = λ prefix rest count o a said enough stop. cp.run prefix rest count o a (up prefix count a said) enough stop }

pub opens_onto : {A : Type 0} {next these : Kind → Bool} {g h : Form A} → ((ts : List Token) (n : ℕ) (a : A) → g ts n a → h ts n a) → Opens h next these → Opens g next these
opens_onto up og = record { run = λ tokens rest count a said stop. og.run tokens rest count a (up tokens count a said) stop }

pub opens_less : {A : Type 0} {next few these : Kind → Bool} {g : Form A} → Opens g next few → ((y : Kind) → few y ≡ true → these y ≡ true) → Opens g next these
opens_less og within = record { run = λ tokens rest count a said stop. within _ (og.run tokens rest count a said stop) }

-- a form that begins with kinds other than the end of a line has one token or more
solid_by : {A : Type 0} (g : Form A) (these : Kind → Bool) → Opens g always these → these k.LineEnd ≡ false → (tokens : List Token) (count : ℕ) (a : A) → g tokens count a
    → 1 ≤ length tokens
solid_by g these og out [] count a said = absurd (false_true (sym out ∙ og.run [] [] count a said refl))
solid_by g these og out (t ∷ ts) count a said = omega arith

pub solid_of : {A : Type 0} {g : Form A} (these : Kind → Bool) → Opens g always these → these k.LineEnd ≡ false → Solid g
solid_of {g = g} these og out = record { run = λ tokens count a said. solid_by g these og out tokens count a said }

separated_opens_by : {A : Type 0} (mark : Kind) (g : Form A) (these : Kind → Bool) → Opens g always these → (all : List A) (tokens rest : List Token) (count : ℕ)
    → separated_list mark g tokens count all → these (first_of (tokens ++ rest)).kind ≡ true
separated_opens_by mark g these og [] tokens rest count said = absurd said
separated_opens_by mark g these og (a ∷ []) tokens rest count said = og.run tokens rest count a said refl
separated_opens_by mark g these og (a ∷ b ∷ more) tokens rest count said =
    let w = said in
    let split : w.prefix ++ (w.rest ++ rest) ≡ tokens ++ rest = sym (append_assoc w.prefix w.rest rest) ∙ ap (λ ts. ts ++ rest) (sym w.joined) in
    subst (λ ts. these (first_of ts).kind ≡ true) split (og.run w.prefix (w.rest ++ rest) w.prefix_count a w.first refl)

-- items begin as the first does
pub separated_opens : {A : Type 0} (mark : Kind) {g : Form A} {next these : Kind → Bool} → Opens g always these → Opens (separated_list mark g) next these
separated_opens mark {g = g} {these = these} og =
    record { run = λ tokens rest count all said stop. separated_opens_by mark g these og all tokens rest count said }

either_then_by : {A B : Type 0} (g h : Form A) (f : A → Form B) (ts : List Token) (n : ℕ) (b : B) (a : A) (w : Both (λ us m. (g or h) us m a) (λ us m. f a us m b) ts n)
    → (g or h) w.prefix w.prefix_count a → (sequence g f or sequence h f) ts n b
either_then_by g h f ts n b a w (inl first) =
    inl (a, record { prefix = w.prefix; rest = w.rest; prefix_count = w.prefix_count; rest_count = w.rest_count; joined = w.joined; counted = w.counted; first = first; second = w.second })
either_then_by g h f ts n b a w (inr first) =
    inr (a, record { prefix = w.prefix; rest = w.rest; prefix_count = w.prefix_count; rest_count = w.rest_count; joined = w.joined; counted = w.counted; first = first; second = w.second })

pub either_then : {A B : Type 0} (g h : Form A) (f : A → Form B) (ts : List Token) (n : ℕ) (b : B) → sequence (g or h) f ts n b → (sequence g f or sequence h f) ts n b
either_then g h f ts n b said = either_then_by g h f ts n b said.0 said.1 said.1.first

-- no tokens, and a form behind them
pub says_then : {A B : Type 0} (a : A) (f : A → Form B) (ts : List Token) (n : ℕ) (b : B) → sequence (says a) f ts n b → f a ts n b
says_then a f ts n b said =
    let w = said.1 in
    let tokens : w.rest ≡ ts = sym (w.joined ∙ ap (λ us. us ++ w.rest) w.first.0) in
    let counts : w.rest_count ≡ n = omega (arith, w.counted, w.first.1) in
    subst (λ x. f x ts n b) w.first.2 (subst (λ us. f said.0 us n b) tokens (subst (λ m. f said.0 w.rest m b) counts w.second))

-- the first part of a form within another
pub first_onto : {A B C : Type 0} (g : Form A) (h : Form B) (f : Form C) → ((ts : List Token) (n : ℕ) (a : A) → g ts n a → (b : B) × h ts n b) → (ts : List Token) (n : ℕ) (c : C)
    → sequence g (λ _. f) ts n c → sequence h (λ _. f) ts n c
first_onto g h f up ts n c said =
    let w = said.1 in
    let u = up w.prefix w.prefix_count said.0 w.first in (
      u.0,
      record { prefix = w.prefix; rest = w.rest; prefix_count = w.prefix_count; rest_count = w.rest_count; joined = w.joined; counted = w.counted; first = u.1; second = w.second },
    )

-- ---- the kind of the next token decides

opening_run : {A : Type 0} (mode : Mode) (next these : Kind → Bool) (by : Kind → Reader A) (p : Reader A) (g : Form A) → Opens g next these
    → ((kd : Kind) → these kd ≡ true → by kd ≡ p) → Complete mode next p g
    → (prefix rest : List Token) (count o : ℕ) (a : A) → g prefix count a → Enough mode count o → next (first_of rest).kind ≡ true
    → Read mode (peek >>= by) (prefix ++ rest) rest count o a
unfolding head
opening_run mode next these by p g og is cp prefix rest count o a said enough stop =
    let found = (first_of (prefix ++ rest)).kind in
    let opens : these found ≡ true = og.run prefix rest count a said stop in
    let r : Read mode (by found) (prefix ++ rest) rest count o a =
    subst (λ q. Read mode q (prefix ++ rest) rest count o a) (sym (is found opens)) (cp.run prefix rest count o a said enough stop) in
    record { left = r.left; budget = r.budget; is = r.is }

pub on_opening : {A : Type 0} {mode : Mode} {next : Kind → Bool} (these : Kind → Bool) (by : Kind → Reader A) {p : Reader A} {g : Form A} → Opens g next these
    → ((kd : Kind) → these kd ≡ true → by kd ≡ p) → Complete mode next p g → Complete mode next (peek >>= by) g
on_opening {mode = mode} {next = next} these by {p = p} {g = g} og is cp = record { run = opening_run mode next these by p g og is cp }

any_kind_run : {A : Type 0} (mode : Mode) (next : Kind → Bool) (by : Kind → Reader A) (g : Form A) → ((kd : Kind) → Complete mode next (by kd) g)
    → (prefix rest : List Token) (count o : ℕ) (a : A) → g prefix count a → Enough mode count o → next (first_of rest).kind ≡ true
    → Read mode (peek >>= by) (prefix ++ rest) rest count o a
unfolding head
any_kind_run mode next by g cp prefix rest count o a said enough stop =
    let r : Read mode (by (first_of (prefix ++ rest)).kind) (prefix ++ rest) rest count o a = (cp (first_of (prefix ++ rest)).kind).run prefix rest count o a said enough stop in
    record { left = r.left; budget = r.budget; is = r.is }

pub any_kind : {A : Type 0} {mode : Mode} {next : Kind → Bool} (by : Kind → Reader A) {g : Form A} → ((kd : Kind) → Complete mode next (by kd) g) → Complete mode next (peek >>= by) g
any_kind {mode = mode} {next = next} by {g = g} cp = record { run = any_kind_run mode next by g cp }

-- where this kind comes next, and where another does
seen_run : {A : Type 0} (mode : Mode) (next : Kind → Bool) (kd : Kind) (p q : Reader A) (g : Form A) → Opens g next (only kd) → Complete mode next p g
    → (prefix rest : List Token) (count o : ℕ) (a : A) → g prefix count a → Enough mode count o → next (first_of rest).kind ≡ true
    → Read mode (λ i. if sees kd i then p i else q i) (prefix ++ rest) rest count o a
unfolding sees head
seen_run mode next kd p q g og cp prefix rest count o a said enough stop =
    let i : Input = record { ahead = prefix ++ rest; operators = o } in
    let r = cp.run prefix rest count o a said enough stop in
    record { left = r.left; budget = r.budget; is = given_as (ap (λ b. if b then p i else q i) (og.run prefix rest count a said stop)) r.is }

pub seen : {A : Type 0} {mode : Mode} {next : Kind → Bool} (kd : Kind) (p q : Reader A) {g : Form A} → Opens g next (only kd) → Complete mode next p g
    → Complete mode next (λ i. if sees kd i then p i else q i) g
seen {mode = mode} {next = next} kd p q {g = g} og cp = record { run = seen_run mode next kd p q g og cp }

unseen_run : {A : Type 0} (mode : Mode) (next these : Kind → Bool) (kd : Kind) (p q : Reader A) (g : Form A) → Opens g next these → these kd ≡ false → Complete mode next q g
    → (prefix rest : List Token) (count o : ℕ) (a : A) → g prefix count a → Enough mode count o → next (first_of rest).kind ≡ true
    → Read mode (λ i. if sees kd i then p i else q i) (prefix ++ rest) rest count o a
unfolding sees head
unseen_run mode next these kd p q g og out cp prefix rest count o a said enough stop =
    let i : Input = record { ahead = prefix ++ rest; operators = o } in
    let r = cp.run prefix rest count o a said enough stop in
    let other = unlike these kd out (first_of (prefix ++ rest)).kind (og.run prefix rest count a said stop) in
    record { left = r.left; budget = r.budget; is = given_as (ap (λ b. if b then p i else q i) other) r.is }

pub unseen : {A : Type 0} {mode : Mode} {next : Kind → Bool} (these : Kind → Bool) (kd : Kind) (p q : Reader A) {g : Form A} → Opens g next these → these kd ≡ false
    → Complete mode next q g → Complete mode next (λ i. if sees kd i then p i else q i) g
unseen {mode = mode} {next = next} these kd p q {g = g} og out cp = record { run = unseen_run mode next these kd p q g og out cp }

-- a word that would be taken does not come next
uneaten_run : {A : Type 0} (mode : Mode) (next these : Kind → Bool) (kd : Kind) (f : Bool → Reader A) (g : Form A) → Opens g next these → these kd ≡ false
    → Complete mode next (f false) g
    → (prefix rest : List Token) (count o : ℕ) (a : A) → g prefix count a → Enough mode count o → next (first_of rest).kind ≡ true
    → Read mode (eat kd >>= f) (prefix ++ rest) rest count o a
unfolding sees head after next
uneaten_run mode next these kd f g og out cp prefix rest count o a said enough stop =
    let i : Input = record { ahead = prefix ++ rest; operators = o } in
    let r = cp.run prefix rest count o a said enough stop in
    let other = unlike these kd out (first_of (prefix ++ rest)).kind (og.run prefix rest count a said stop) in
    record { left = r.left; budget = r.budget; is = given_as (ap (λ b. f b (if b then record { ahead = drop 1 (prefix ++ rest); operators = o } else i)) other) r.is }

pub uneaten : {A : Type 0} {mode : Mode} {next : Kind → Bool} (these : Kind → Bool) (kd : Kind) (f : Bool → Reader A) {g : Form A} → Opens g next these → these kd ≡ false
    → Complete mode next (f false) g → Complete mode next (eat kd >>= f) g
uneaten {mode = mode} {next = next} these kd f {g = g} og out cp = record { run = uneaten_run mode next these kd f g og out cp }

-- it does
eaten_then_run : {A : Type 0} (mode : Mode) (next : Kind → Bool) (kd : Kind) (f : Bool → Reader A) (g : Form A) → Complete mode next (f true) g
    → (prefix rest : List Token) (count o : ℕ) (a : A) → sequence (word kd) (λ _. g) prefix count a → Enough mode count o → next (first_of rest).kind ≡ true
    → Read mode (eat kd >>= f) (prefix ++ rest) rest count o a
unfolding sees head after next
eaten_then_run mode next kd f g cp prefix rest count o a said enough stop =
    let w = said.1 in
    let t = w.first.0 in
    let tokens : prefix ≡ t ∷ w.rest = w.joined ∙ ap (λ ts. ts ++ w.rest) w.first.1 in
    let counts : w.rest_count ≡ count = omega (arith, w.counted, w.first.3) in
    let r : Read mode (f true) (w.rest ++ rest) rest count o a =
    subst (λ n. Read mode (f true) (w.rest ++ rest) rest n o a) counts
    (cp.run w.rest rest w.rest_count o a w.second (subst (λ n. Enough mode n o) (sym counts) enough) stop) in
    subst (λ ts. Read mode (eat kd >>= f) (ts ++ rest) rest count o a) (sym tokens) (record {
      left = r.left;
      budget = r.budget;
      is = given_as (ap (λ b. f b (if b then record { ahead = w.rest ++ rest; operators = o } else record { ahead = t ∷ (w.rest ++ rest); operators = o })) (alike w.first.2)) (given_behind r.is);
    })

pub eaten_then : {A : Type 0} {mode : Mode} {next : Kind → Bool} (kd : Kind) (f : Bool → Reader A) {g : Form A} → Complete mode next (f true) g
    → Complete mode next (eat kd >>= f) (sequence (word kd) (λ _. g))
eaten_then {mode = mode} {next = next} kd f {g = g} cp = record { run = eaten_then_run mode next kd f g cp }

-- ---- a word that may stand before

whether_by : {A : Type 0} (mode : Mode) (next : Kind → Bool) (p : Reader A) (kd : Kind) (h : Bool → Form A) → Complete mode next p (h false)
    → Complete mode next p (sequence (word kd) (λ _. h true))
    → (b : Bool) (prefix rest : List Token) (count o : ℕ) (a : A) → Both (λ ts n. whether (word kd) ts n b) (λ ts n. h b ts n a) prefix count → Enough mode count o
    → next (first_of rest).kind ≡ true → Read mode p (prefix ++ rest) rest count o a
whether_by mode next p kd h without with_word false prefix rest count o a w enough stop =
    let tokens : w.rest ≡ prefix = sym (w.joined ∙ ap (λ ts. ts ++ w.rest) w.first.0) in
    let counts : w.rest_count ≡ count = omega (arith, w.counted, w.first.1) in
    without.run prefix rest count o a (subst (λ ts. h false ts count a) tokens (subst (λ n. h false w.rest n a) counts w.second)) enough stop
whether_by mode next p kd h without with_word true prefix rest count o a w enough stop =
    with_word.run prefix rest count o a
    (tt, record { prefix = w.prefix; rest = w.rest; prefix_count = w.prefix_count; rest_count = w.rest_count; joined = w.joined; counted = w.counted; first = w.first; second = w.second })
    enough stop

pub whether_before : {A : Type 0} {mode : Mode} {next : Kind → Bool} {p : Reader A} (kd : Kind) {h : Bool → Form A} → Complete mode next p (h false)
    → Complete mode next p (sequence (word kd) (λ _. h true)) → Complete mode next p (sequence (whether (word kd)) h)
whether_before {mode = mode} {next = next} {p = p} kd {h = h} without with_word =
    record { run = λ prefix rest count o a said enough stop. whether_by mode next p kd h without with_word said.0 prefix rest count o a said.1 enough stop }

-- ---- one token, of which its kind tells what it says

pub record One {A : Type 0} (tells : Kind → A → Type 0) (counted : ℕ) (tokens : List Token) (count : ℕ) (a : A) : Type 0 where
  pub token : Token
  pub joined : tokens ≡ token ∷ []
  pub counts : count ≡ counted
  pub is : tells token.kind a

pub record Sign {A : Type 0} (form : Form A) (tells : Kind → A → Type 0) (counted : ℕ) : Type 0 where
  pub run : (tokens : List Token) (count : ℕ) (a : A) → form tokens count a → One tells counted tokens count a

pub either_sign : {A : Type 0} {g h : Form A} {tells : Kind → A → Type 0} {counted : ℕ} → Sign g tells counted → Sign h tells counted → Sign (g or h) tells counted
either_sign {g = g} {h = h} {tells = tells} {counted = counted} sg sh = record { run = either_one g h tells counted sg sh }
  where
    either_one : {A : Type 0} (g h : Form A) (tells : Kind → A → Type 0) (counted : ℕ) → Sign g tells counted → Sign h tells counted
        → (tokens : List Token) (count : ℕ) (a : A) → (g or h) tokens count a → One tells counted tokens count a
    either_one g h tells counted sg sh tokens count a (inl said) = sg.run tokens count a said
    either_one g h tells counted sg sh tokens count a (inr said) = sh.run tokens count a said

-- a token of this kind
pub word_one : (kd : Kind) → Sign (word kd) (λ found u. found ≡ kd) 0
word_one kd = record { run = λ tokens count u said. record { token = said.0; joined = said.1; counts = said.3; is = said.2 } }

one_says : {A : Type 0} (g : Form (Unit {0})) (kd : Kind) (counted : ℕ) (a : A) (tells : Kind → A → Type 0) → Sign g (λ found u. found ≡ kd) counted → tells kd a
    → (tokens : List Token) (count : ℕ) (b : A) → sequence g (λ _. says a) tokens count b → One tells counted tokens count b
one_says g kd counted a tells sg holds tokens count b said =
    let w = said.1 in
    let one = sg.run w.prefix w.prefix_count said.0 w.first in
    record {
      token = one.token;
      joined = w.joined ∙ ap (λ ts. w.prefix ++ ts) w.second.0 ∙ append-nil w.prefix ∙ one.joined;
      counts = omega (arith, w.counted, w.second.1, one.counts);
      is = subst (λ x. tells one.token.kind x) (sym w.second.2) (subst (λ found. tells found a) (sym one.is) holds);
    }

-- a token of this kind, which says this
pub sign : {A : Type 0} {g : Form (Unit {0})} (kd : Kind) {counted : ℕ} {a : A} {tells : Kind → A → Type 0} → Sign g (λ found u. found ≡ kd) counted → tells kd a
    → Sign (sequence g (λ _. says a)) tells counted
sign {g = g} kd {counted = counted} {a = a} {tells = tells} sg holds = record { run = one_says g kd counted a tells sg holds }

sign_run : {A B : Type 0} (mode : Mode) (next : Kind → Bool) (g : Form A) (tells : Kind → A → Type 0) (h : A → Form B) (by : Kind → Reader B) (q : A → Reader B) → Sign g tells 0
    → ((kd : Kind) (a : A) → tells kd a → by kd ≡ (take_token >>= (λ _. q a))) → ((a : A) → Complete mode next (q a) (h a))
    → (prefix rest : List Token) (count o : ℕ) (b : B) → sequence g h prefix count b → Enough mode count o → next (first_of rest).kind ≡ true
    → Read mode (peek >>= by) (prefix ++ rest) rest count o b
unfolding head next
sign_run mode next g tells h by q sg is cp prefix rest count o b said enough stop =
    let w = said.1 in
    let one = sg.run w.prefix w.prefix_count said.0 w.first in
    let t = one.token in
    let tokens : prefix ≡ t ∷ w.rest = w.joined ∙ ap (λ ts. ts ++ w.rest) one.joined in
    let counts : w.rest_count ≡ count = omega (arith, w.counted, one.counts) in
    let r : Read mode (q said.0) (w.rest ++ rest) rest count o b =
    subst (λ n. Read mode (q said.0) (w.rest ++ rest) rest n o b) counts
    ((cp said.0).run w.rest rest w.rest_count o b w.second (subst (λ n. Enough mode n o) (sym counts) enough) stop) in
    let i : Input = record { ahead = t ∷ (w.rest ++ rest); operators = o } in
    subst (λ ts. Read mode (peek >>= by) (ts ++ rest) rest count o b) (sym tokens)
    (record { left = r.left; budget = r.budget; is = given_as (ap (λ p. p i) (is t.kind said.0 one.is)) (given_behind r.is) })

pub on_sign : {A B : Type 0} {mode : Mode} {next : Kind → Bool} {g : Form A} {tells : Kind → A → Type 0} {h : A → Form B} (by : Kind → Reader B) (q : A → Reader B) → Sign g tells 0
    → ((kd : Kind) (a : A) → tells kd a → by kd ≡ (take_token >>= (λ _. q a))) → ((a : A) → Complete mode next (q a) (h a)) → Complete mode next (peek >>= by) (sequence g h)
on_sign {mode = mode} {next = next} {g = g} {tells = tells} {h = h} by q sg is cp = record { run = sign_run mode next g tells h by q sg is cp }

sign_opens_by : {A : Type 0} (g : Form A) (tells : Kind → A → Type 0) (counted : ℕ) (these : Kind → Bool) → Sign g tells counted
    → ((kd : Kind) (a : A) → tells kd a → these kd ≡ true) → (tokens rest : List Token) (count : ℕ) (a : A) → g tokens count a → these (first_of (tokens ++ rest)).kind ≡ true
sign_opens_by g tells counted these sg within tokens rest count a said =
    let one = sg.run tokens count a said in
    subst (λ ts. these (first_of (ts ++ rest)).kind ≡ true) (sym one.joined) (within one.token.kind a one.is)

pub sign_opens : {A : Type 0} {g : Form A} {tells : Kind → A → Type 0} {counted : ℕ} {next these : Kind → Bool} → Sign g tells counted
    → ((kd : Kind) (a : A) → tells kd a → these kd ≡ true) → Opens g next these
sign_opens {g = g} {tells = tells} {counted = counted} {these = these} sg within =
    record { run = λ tokens rest count a said stop. sign_opens_by g tells counted these sg within tokens rest count a said }

-- ---- one, or a list of them

module _ {A : Type 0} (mode : Mode) (mark : Kind) (item : Reader A) (form : Form A) (s t : Kind → Bool) (cp : Complete mode s item form) (solid : Solid form)
    (marks : s mark ≡ true) (within : (y : Kind) → t y ≡ true → s y ≡ true) (other : t mark ≡ false) where
  -- the items behind the first
  abbrev behind : A → Form (List A)
  behind first = sequence (separated_list mark form) (λ more. says (first ∷ more))

  behind_by : (first : A) (prefix rest : List Token) (count o : ℕ) (all : List A) → behind first prefix count all → Enough mode count o → t (first_of rest).kind ≡ true
      → Read mode (λ i. separated_from mark item (length i.ahead) (first ∷ []) i) (prefix ++ rest) rest count o all
  behind_by first prefix rest count o all said enough stop =
      let w = said.1 in
      let tokens : w.prefix ≡ prefix = sym (w.joined ∙ ap (λ ts. w.prefix ++ ts) w.second.0 ∙ append-nil w.prefix) in
      let counts : w.prefix_count ≡ count = omega (arith, w.counted, w.second.1) in
      let items : separated_list mark form prefix count said.0 = subst (λ ts. separated_list mark form ts count said.0) tokens (subst (λ n. separated_list mark form w.prefix n said.0) counts w.first) in
      let fits = items_fit mark form solid said.0 prefix count items in
      let long = length-append prefix rest in
      let r = all_read mode mark item form s t cp marks within (λ y e. unlike t mark other y e) (length (prefix ++ rest)) said.0 (first ∷ []) prefix rest count o (omega arith) items enough stop in
      subst (λ found. Read mode (λ i. separated_from mark item (length i.ahead) (first ∷ []) i) (prefix ++ rest) rest count o found) (sym w.second.2)
      (record { left = r.left; budget = r.budget; is = r.is })

  behind_read : (first : A) → Complete mode t (λ i. separated_from mark item (length i.ahead) (first ∷ []) i) (behind first)
  behind_read first = record { run = behind_by first }

  module _ (list : List A → A) where
    abbrev tail : A → Form A
    tail first = sequence (word mark) (λ _. sequence (behind first) (λ found. says (list found))) or says first

    tail_read : (first : A)
        → Complete mode t (eat mark >>= (λ more. if more then ((λ i. separated_from mark item (length i.ahead) (first ∷ []) i) >>= (λ found. pure (list found))) else pure first)) (tail first)
    tail_read first = if_word mark first (both (behind_read first) (λ found. less (made (list found)) (λ y e. refl)) (λ found. made_opens (list found) (λ y e. e))) (λ y e. unlike t mark other y e)

    alone : (ts : List Token) (n : ℕ) (a : A) → form ts n a → sequence form tail ts n a
    alone ts n a said = (
      a,
      record {
        prefix = ts;
        rest = [];
        prefix_count = n;
        rest_count = 0;
        joined = sym (append-nil ts);
        counted = omega arith;
        first = said;
        second = inr (refl, refl, refl);
      },
    )

    listed_up : (ts : List Token) (n : ℕ) (a : A) → sequence (several mark form) (λ found. says (list found)) ts n a → sequence form tail ts n a
    listed_up ts n a said =
        then_to form (λ first. sequence (sequence (word mark) (λ _. behind first)) (λ found. says (list found))) tail a a
        (λ first us m s. inl (regrouped (word mark) (λ _. behind first) (λ found. says (list found)) us m a s)) ts n
        (regrouped form (λ first. sequence (word mark) (λ _. behind first)) (λ found. says (list found)) ts n a said)

    list_up : (ts : List Token) (n : ℕ) (a : A) → (form or sequence (several mark form) (λ found. says (list found))) ts n a → sequence form tail ts n a
    list_up ts n a (inl said) = alone ts n a said
    list_up ts n a (inr said) = listed_up ts n a said

    tail_opens : (first : A) → Opens (tail first) t s
    tail_opens first = either_opens (first_opens (word_opens mark marks)) (made_opens first within)

    pub one_or_list_read : Complete mode t
        (item >>= (λ first. eat mark >>= (λ more. if more then ((λ i. separated_from mark item (length i.ahead) (first ∷ []) i) >>= (λ found. pure (list found))) else pure first)))
        (form or sequence (several mark form) (λ found. says (list found)))
    one_or_list_read = onto list_up (both cp tail_read tail_opens)
