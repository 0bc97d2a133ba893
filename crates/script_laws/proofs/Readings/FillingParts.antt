-- What a form says is read: choices, words that introduce, and the end of the line.
use Rattle.std.proofs.Common.{◌≡◌, ℕ, Bool, true, false, not, if◌then◌else◌, List, [], ◌∷◌, ◌++◌, Option, Some, None, Ok, refl, ap, sym, ◌∙◌, inl, inr}
use Rattle.script_lex.specs.declared.kind.Kind.{Kind}
use Rattle.script_lex.specs.declared.kind.Kind.TheVariants as k
use Rattle.script_lex.specs.declared.token.Token.{Token}
use Rattle.script_lex.specs.Lex.{same_kind}
use Rattle.script_tokens.proofs.Alike.{alike}
use Rattle.script_tokens.specs.Input.{Input, Reader, ◌>>=◌, pure, peek, eat, clause, head, sees, first_of}
use Rattle.script_laws.specs.Readings.Forms.Form.{Form, sequence, says, word, maybe, ◌or◌}
use Rattle.script_laws.proofs.Readings.Forms.Taking.{Mode, Enough}
use Rattle.script_laws.proofs.Readings.Forms.Sequences.{then_value}
use Rattle.script_laws.proofs.Readings.Forms.Filling.{given_as, Read, Complete, Opens, both, less, made, either, absent, introduced, if_word, made_opens, word_opens, then_opens, first_opens, maybe_opens, either_opens}
use Rattle.script_laws.proofs.Readings.Expressions.FillingSteps.{unlike, only, onto, seen, unseen, uneaten, eaten_then}
use Rattle.script_laws.proofs.Readings.SomeKinds.{false_true, among, first_among, rest_among, other_than, end_kind}
use Rattle.script_laws.proofs.Readings.Forms.Steps.{is_end}

not_true : (b : Bool) → not b ≡ true → b ≡ false
not_true true e = absurd (false_true e)
not_true false e = refl

other_out : (kd : Kind) → other_than kd kd ≡ false
other_out kd = ap not (alike {a = kd} {b = kd} refl)

-- ---- readers and their forms

same_read : {A : Type 0} (mode : Mode) (p q : Reader A) (xs rest : List Token) (n o : ℕ) (a : A) → ((i : Input) → p i ≡ q i) → Read mode p xs rest n o a → Read mode q xs rest n o a
same_read mode p q xs rest n o a same read = record { left = read.left; budget = read.budget; is = given_as (sym (same (record { ahead = xs; operators = o }))) read.is }

-- a reader that does the same
pub instead : {A : Type 0} {mode : Mode} {t : Kind → Bool} {p q : Reader A} {g : Form A} → ((i : Input) → p i ≡ q i) → Complete mode t p g → Complete mode t q g
instead {mode = mode} {p = p} {q = q} same cp =
    record { run = λ prefix rest count o a said enough stop. same_read mode p q (prefix ++ rest) rest count o a same (cp.run prefix rest count o a said enough stop) }

pub mapped : {A B : Type 0} {mode : Mode} {t : Kind → Bool} {p : Reader A} {g : Form A} (f : A → B) → Complete mode t p g → Complete mode t (p >>= (λ x. pure (f x))) (sequence g (λ x. says (f x)))
mapped {t = t} f cp = both cp (λ x. less (made (f x)) (λ y e. refl)) (λ x. made_opens (f x) (λ y e. e))

-- a word and what it introduces, or another form
pub word_or : {A : Type 0} {mode : Mode} {t : Kind → Bool} (kd : Kind) {p q : Reader A} {g h : Form A} → Complete mode t p g → Complete mode t q h → Opens h t (other_than kd)
    → Complete mode t (eat kd >>= (λ found. if found then p else q)) ((sequence (word kd) (λ _. g)) or h)
word_or kd {p = p} {q = q} cp cq oh =
    either (eaten_then kd (λ found. if found then p else q) cp) (uneaten (other_than kd) kd (λ found. if found then p else q) oh (other_out kd) cq)

-- ---- the kind of the next token decides between two

decided_by : {A : Type 0} (mode : Mode) (by : Kind → Bool) (p q r : Reader A) (xs rest : List Token) (n o : ℕ) (a : A) (b : Bool) → by (first_of xs).kind ≡ b
    → (if b then p else q) ≡ r → Read mode r xs rest n o a → Read mode (peek >>= (λ kd. if by kd then p else q)) xs rest n o a
unfolding head
decided_by mode by p q r xs rest n o a b is chosen read = record {
  left = read.left;
  budget = read.budget;
  is = given_as (ap (λ c. (if c then p else q) (record { ahead = xs; operators = o })) is ∙ ap (λ x. x (record { ahead = xs; operators = o })) chosen) read.is;
}

decided_run : {A : Type 0} (mode : Mode) (t by : Kind → Bool) (p q : Reader A) (g h : Form A) → Complete mode t p g → Complete mode t q h → Opens g t by → Opens h t (λ kd. not (by kd))
    → (prefix rest : List Token) (count o : ℕ) (a : A) → (g or h) prefix count a → Enough mode count o → t (first_of rest).kind ≡ true
    → Read mode (peek >>= (λ kd. if by kd then p else q)) (prefix ++ rest) rest count o a
decided_run mode t by p q g h cp cq og oh prefix rest count o a (inl said) enough stop =
    decided_by mode by p q p (prefix ++ rest) rest count o a true (og.run prefix rest count a said stop) refl (cp.run prefix rest count o a said enough stop)
decided_run mode t by p q g h cp cq og oh prefix rest count o a (inr said) enough stop =
    decided_by mode by p q q (prefix ++ rest) rest count o a false (not_true (by (first_of (prefix ++ rest)).kind) (oh.run prefix rest count a said stop)) refl
    (cq.run prefix rest count o a said enough stop)

pub decided : {A : Type 0} {mode : Mode} {t : Kind → Bool} (by : Kind → Bool) {p q : Reader A} {g h : Form A} → Complete mode t p g → Complete mode t q h → Opens g t by
    → Opens h t (λ kd. not (by kd)) → Complete mode t (peek >>= (λ kd. if by kd then p else q)) (g or h)
decided {mode = mode} {t = t} by {p = p} {q = q} {g = g} {h = h} cp cq og oh = record { run = decided_run mode t by p q g h cp cq og oh }

-- ---- the end of the line

end_only : (y : Kind) → is_end y ≡ true → only k.LineEnd y ≡ true
end_only y e = alike (end_kind y e)

-- nothing where the line ends
pub unless_end : {A : Type 0} {mode : Mode} (x : A) {p : Reader A} {g : Form A} → Complete mode is_end p g → Opens g is_end (other_than k.LineEnd)
    → Complete mode is_end (λ i. if sees k.LineEnd i then Ok (x, i) else p i) (g or says x)
unless_end x {p = p} cp og =
    either (unseen (other_than k.LineEnd) k.LineEnd (pure x) p og (other_out k.LineEnd) cp)
    (seen k.LineEnd (pure x) p (made_opens x end_only) (less (made x) (λ y e. refl)))

maybe_onto : {A : Type 0} (g : Form A) (ts : List Token) (n : ℕ) (a : Option A) → maybe g ts n a → ((sequence g (λ x. says (Some x))) or says None) ts n a
maybe_onto g ts n None said = inr (said.0, said.1, refl)
maybe_onto g ts n (Some a) said = inl (then_value g Some ts n a said)

pub perhaps : {A : Type 0} {mode : Mode} {p : Reader A} {g : Form A} → Complete mode is_end p g → Opens g is_end (other_than k.LineEnd)
    → Complete mode is_end (λ i. if sees k.LineEnd i then Ok (None, i) else (p >>= (λ x. pure (Some x))) i) (maybe g)
perhaps {g = g} cp og =
    onto (maybe_onto g) (unless_end None (mapped Some cp) (then_opens is_end og (λ x. made_opens (Some x) (λ y e. e))))

-- ---- a reader that is complete, and how its form begins

-- a word and what it introduces, where they come
pub clause_run : {A : Type 0} (mode : Mode) (t : Kind → Bool) (kd : Kind) (p : Reader A) (g : Form A) → Complete mode t p g → (prefix rest : List Token) (count o : ℕ) (a : A)
    → sequence (word kd) (λ _. g) prefix count a → Enough mode count o → t (first_of rest).kind ≡ true → Read mode (clause kd p) (prefix ++ rest) rest count o (Some a)
clause_run mode t kd p g cp prefix rest count o a said enough stop =
    let w = said.1 in
    (eaten_then kd (λ found. if found then (p >>= (λ x. pure (Some x))) else pure None) (mapped Some cp)).run prefix rest count o (Some a) (
      tt,
      record { prefix = w.prefix; rest = w.rest; prefix_count = w.prefix_count; rest_count = w.rest_count; joined = w.joined; counted = w.counted; first = w.first; second = then_value g Some w.rest w.rest_count a w.second },
    ) enough stop

-- nothing, where the word does not come
pub no_clause : {A : Type 0} (mode : Mode) (kd : Kind) (p : Reader A) (rest : List Token) (o : ℕ) → same_kind (first_of rest).kind kd ≡ false → Read mode (clause kd p) rest rest 0 o None
no_clause mode kd p rest o is = absent mode kd (p >>= (λ x. pure (Some x))) None [] rest 0 o refl refl is

pub record Stands {A : Type 0} (mode : Mode) (t : Kind → Bool) (p : Reader A) (g : Form A) (these : Kind → Bool) : Type 0 where
  pub complete : Complete mode t p g
  pub opens : Opens g t these

pub link : {A B : Type 0} {mode : Mode} {s t these : Kind → Bool} {p : Reader A} {g : Form A} {f : A → Reader B} {h : A → Form B} → Stands mode s p g these
    → ((a : A) → Stands mode t (f a) (h a) s) → Stands mode t (p >>= f) (sequence g h) these
link {s = s} one two = record { complete = both one.complete (λ a. (two a).complete) (λ a. (two a).opens); opens = then_opens s one.opens (λ a. (two a).opens) }

pub then_stands : {A B : Type 0} {mode : Mode} {s t : Kind → Bool} {p : Reader A} {g : Form A} {f : A → Reader B} {h : A → Form B} → Complete mode s p g
    → ((a : A) → Stands mode t (f a) (h a) s) → Complete mode t (p >>= f) (sequence g h)
then_stands cp two = both cp (λ a. (two a).complete) (λ a. (two a).opens)

pub done : {A : Type 0} {mode : Mode} {t these : Kind → Bool} (a : A) → ((y : Kind) → t y ≡ true → these y ≡ true) → Stands mode t (pure a) (says a) these
done a up = record { complete = less (made a) (λ y e. refl); opens = made_opens a up }

-- a word and what it introduces, or nothing: behind it these kinds, before it one more
pub clause_stands : {A : Type 0} {mode : Mode} (kd : Kind) (ks : List Kind) {p : Reader A} {g : Form A} → among ks kd ≡ false → Complete mode (among ks) p g
    → Stands mode (among ks) (clause kd p) (maybe (sequence (word kd) (λ _. g))) (among (kd ∷ ks))
clause_stands kd ks {g = g} out cp = record {
  complete = introduced kd cp (unlike (among ks) kd out);
  opens = maybe_opens (first_opens {h = λ _. g} (word_opens kd (first_among kd ks))) (rest_among kd ks);
}

pub list_stands : {A : Type 0} {mode : Mode} (kd : Kind) (ks : List Kind) {p : Reader A} (x : A) {g : Form A} → among ks kd ≡ false → Complete mode (among ks) p g
    → Stands mode (among ks) (eat kd >>= (λ found. if found then p else pure x)) ((sequence (word kd) (λ _. g)) or says x) (among (kd ∷ ks))
list_stands kd ks x {g = g} out cp = record {
  complete = if_word kd x cp (unlike (among ks) kd out);
  opens = either_opens (first_opens {h = λ _. g} (word_opens kd (first_among kd ks))) (made_opens x (rest_among kd ks));
}
