-- Forms within others, and steps of readers that go one way or another.
use Rattle.std.proofs.Common.{◌≡◌, ℕ, ◌+◌, Bool, true, false, if◌then◌else◌, List, [], ◌++◌, drop, refl, ap, sym, ◌∙◌, append_assoc, inl, inr, arith}
use Rattle.script_lex.specs.declared.kind.Kind.{Kind}
use Rattle.script_lex.specs.declared.token.Token.{Token}
use Rattle.script_lex.specs.Lex.{same_kind}
use Rattle.script_tokens.proofs.Alike.{same}
use Rattle.script_tokens.specs.Input.{Input, Outcome, Reader, ◌>>=◌, pure, eat, head, next, sees, after, first_of}
use Rattle.script_laws.specs.Readings.Forms.Form.{Form, sequence, says, word, whether, ◌or◌}
use Rattle.script_laws.proofs.Readings.Forms.Taking.{Mode, Took, Kept, Out, Whole, Sound}
use Rattle.script_laws.proofs.Readings.Forms.Sequences.{paired, both_to, then_to}
use Rattle.script_laws.proofs.Readings.Forms.Steps.{is_end, taken_by, whole_next, both, both_taken, made, some_made, within_out}

-- whatever one form says, the other says
abbrev pub Within : {A : Type 0} → Form A → Form A → Type 0
Within {A} g h = (ts : List Token) (n : ℕ) (a : A) → g ts n a → h ts n a

pub within : {A : Type 0} {c : Mode} {p : Reader A} {g h : Form A} → Sound c p g → Within g h → Sound c p h
within {c = c} {p = p} {g = g} {h = h} sp up = record { run = λ i whole. within_out c g h i up (p i) (sp.run i whole) }

pub within_at : {A : Type 0} {c : Mode} {g h : Form A} {i : Input} {out : Outcome A} → Out c g i out → Within g h → Out c h i out
within_at {c = c} {g = g} {h = h} {i = i} {out = out} t up = record { kept = within_out c g h i up out t.kept }

-- ---- sequences

pub then_within : {A B : Type 0} (p : Form A) (q r : A → Form B) → ((a : A) → Within (q a) (r a)) → Within (sequence p q) (sequence p r)
then_within p q r up ts n b s = then_to p q r b b (λ a us m said. up a us m b said) ts n s

pub first_within : {A B : Type 0} (p q : Form A) (r : A → Form B) → Within p q → Within (sequence p r) (sequence q r)
first_within p q r up ts n b s = both_to p r q r s.0 s.0 b b (λ us m first. up us m s.0 first) (λ us m second. second) ts n s.1

-- a form that stands for a value, in place of another
pub first_as : {A B C : Type 0} (p : Form A) (q : Form B) (b : B) (r : Form C) (t : B → Form C) → ((ts : List Token) (n : ℕ) (a : A) → p ts n a → q ts n b)
    → Within r (t b) → Within (sequence p (λ _. r)) (sequence q t)
first_as p q b r t up on ts n c s = both_to p (λ _. r) q t s.0 b c c (λ us m first. up us m s.0 first) (λ us m second. on us m c second) ts n s.1

pub either_up : {A : Type 0} (g h k : Form A) → Within g k → Within h k → Within (g or h) k
either_up g h k one two ts n a (inl s) = one ts n a s
either_up g h k one two ts n a (inr s) = two ts n a s

second_by : {A B : Type 0} (g : Form A) (h k : A → Form B) (a : A) (ts prefix rest : List Token) (n m l : ℕ) (b : B) → ts ≡ prefix ++ rest → n ≡ m + l → g prefix m a
    → (h a or k a) rest l b → (sequence g h or sequence g k) ts n b
second_by g h k a ts prefix rest n m l b joined counted said (inl more) =
    inl (a, record { prefix = prefix; rest = rest; prefix_count = m; rest_count = l; joined = joined; counted = counted; first = said; second = more })
second_by g h k a ts prefix rest n m l b joined counted said (inr more) =
    inr (a, record { prefix = prefix; rest = rest; prefix_count = m; rest_count = l; joined = joined; counted = counted; first = said; second = more })

-- a choice behind a form is a choice of two sequences
pub either_second : {A B : Type 0} (g : Form A) (h k : A → Form B) → Within (sequence g (λ a. h a or k a)) (sequence g h or sequence g k)
either_second g h k ts n b s =
    let w = s.1 in
    second_by g h k s.0 ts w.prefix w.rest n w.prefix_count w.rest_count b w.joined w.counted w.first w.second

pub grouped_left : {A B C : Type 0} (p : Form A) (q : A → Form B) (r : B → Form C) → Within (sequence p (λ a. sequence (q a) r)) (sequence (sequence p q) r)
grouped_left p q r ts n c s =
    let one = s.1 in
    let two = one.second.1 in (
      one.second.0,
      record {
        prefix = one.prefix ++ two.prefix;
        rest = two.rest;
        prefix_count = one.prefix_count + two.prefix_count;
        rest_count = two.rest_count;
        joined = one.joined ∙ ap (λ us. one.prefix ++ us) two.joined ∙ sym (append_assoc one.prefix two.prefix two.rest);
        counted = omega (arith, one.counted, two.counted);
        first = paired p q s.0 one.second.0 one.prefix two.prefix one.prefix_count two.prefix_count one.first two.first;
        second = two.second;
      },
    )

-- no tokens before others
pub none_before : {A B : Type 0} (g : Form A) (h : A → Form B) (a : A) → g [] 0 a → (ts : List Token) (n : ℕ) (b : B) → h a ts n b → sequence g h ts n b
none_before g h a none ts n b s =
    (a, record { prefix = []; rest = ts; prefix_count = 0; rest_count = n; joined = refl; counted = omega arith; first = none; second = s })

-- a word that may be left out, where it is and where it is not
pub with_word : {A : Type 0} (kd : Kind) (h : Bool → Form A) → Within (sequence (word kd) (λ _. h true)) (sequence (whether (word kd)) h)
with_word kd h ts n a s = both_to (word kd) (λ _. h true) (whether (word kd)) h s.0 true a a (λ us m first. first) (λ us m second. second) ts n s.1

pub without_word : {A : Type 0} (kd : Kind) (h : Bool → Form A) → Within (h false) (sequence (whether (word kd)) h)
without_word kd h ts n a s = none_before (whether (word kd)) h false (refl, refl) ts n a s

-- ---- a word decides

either_by : {A : Type 0} (c : Mode) (kd : Kind) (p q : Reader A) (g h : Form A) → is_end kd ≡ false → Sound c p g → Sound c q h → (xs : List Token) (o : ℕ) (b : Bool)
    → same_kind (first_of xs).kind kd ≡ b → Whole xs
    → Kept c (sequence (word kd) (λ _. g) or h) (record { ahead = xs; operators = o })
    ((if b then p else q) (if b then record { ahead = drop 1 xs; operators = o } else record { ahead = xs; operators = o }))
either_by c kd p q g h not_end sp sq xs o true is whole =
    let i : Input = record { ahead = xs; operators = o } in
    let j : Input = record { ahead = drop 1 xs; operators = o } in
    let t : Took c (word kd) i tt j = taken_by kd not_end xs o (same is) in
    within_out c (sequence (word kd) (λ _. g)) (sequence (word kd) (λ _. g) or h) i (λ ts n a s. inl s) (p j)
    (both_taken c (word kd) (λ _. g) i tt j t (p j) (sp.run j (whole_next xs whole)))
either_by c kd p q g h not_end sp sq xs o false is whole =
    let i : Input = record { ahead = xs; operators = o } in
    within_out c h (sequence (word kd) (λ _. g) or h) i (λ ts n a s. inr s) (q i) (sq.run i whole)

-- a word and what it introduces, or something else
pub either_word : {A : Type 0} {c : Mode} (kd : Kind) {p q : Reader A} {g h : Form A} → is_end kd ≡ false → Sound c p g → Sound c q h
    → Sound c (eat kd >>= (λ found. if found then p else q)) (sequence (word kd) (λ _. g) or h)
unfolding sees after head next
either_word {c = c} kd {p = p} {q = q} {g = g} {h = h} not_end sp sq =
    record { run = λ i whole. either_by c kd p q g h not_end sp sq i.ahead i.operators (same_kind (first_of i.ahead).kind kd) refl whole }

-- what is read, made into something else
pub mapped : {A B : Type 0} {c : Mode} {p : Reader A} {g : Form A} (f : A → B) → Sound c p g → Sound c (p >>= (λ x. pure (f x))) (sequence g (λ x. says (f x)))
mapped f sp = both sp (λ x. made (f x)) (λ x. some_made (f x))
