-- Steps of readers, and the parts of forms that they read.
use Rattle.std.proofs.Common.{◌≡◌, ◌≢◌, ℕ, ◌+◌, Bool, true, false, if◌then◌else◌, List, [], ◌∷◌, ◌++◌, drop, Ok, Err, refl, ap, sym, subst, ◌∙◌, append_assoc, inl, inr, arith}
use Rattle.script_lex.specs.declared.kind.Kind.{Kind}
use Rattle.script_lex.specs.declared.kind.Kind.TheVariants as k
use Rattle.script_lex.specs.declared.token.Content.TheVariants as content
use Rattle.script_lex.specs.declared.token.Token.{Token}
use Rattle.script_lex.specs.Lex.{same_kind}
use Rattle.script_tokens.proofs.Alike.{same}
use Rattle.script_tokens.specs.declared.fault.Fault.{Fault}
use Rattle.script_tokens.specs.declared.fault.Fault.TheVariants.{At}
use Rattle.script_tokens.specs.Input.{Input, Outcome, Reader, ◌>>=◌, and_then, pure, refuse, peek, take_token, expect, head, kind, next, sees, first_of, no_token}
use Rattle.script_laws.specs.Readings.Forms.Form.{Form, sequence, says, word, ◌or◌}
use Rattle.script_laws.proofs.Readings.Forms.Taking.{Mode, Plain, Around, Inside, Budget, Enough, Here, Took, Completed, Refused, Kept, Out, last_of, Whole, Sound, Inhabited}

last_append : (t : Token) (prefix : List Token) (r : Token) (rs : List Token) → last_of t (prefix ++ r ∷ rs) ≡ last_of r rs
last_append t [] r rs = refl
last_append t (f ∷ fs) r rs = last_append f fs r rs

end_is_whole : k.LineEnd ≢ k.Signed
end_is_whole e = cc

pub whole_rest : (prefix rest : List Token) → Whole (prefix ++ rest) → Whole rest
whole_rest prefix [] h = end_is_whole
whole_rest prefix (r ∷ rs) h = λ e. h (ap (λ t. t.kind) (last_append no_token prefix r rs) ∙ e)

pub whole_next : (xs : List Token) → Whole xs → Whole (drop 1 xs)
whole_next [] h = h
whole_next (t ∷ ts) h = whole_rest (t ∷ []) ts h

pub budget_none : (c : Mode) (n : ℕ) → Budget c 0 n n
budget_none Plain n = refl
budget_none Around n = refl
budget_none (Inside d) n = omega arith

pub budget_more : (c : Mode) (m n o p q : ℕ) → Budget c m o p → Budget c n p q → Budget c (m + n) o q
budget_more Plain m n o p q a b = omega arith
budget_more Around m n o p q a b = omega arith
budget_more (Inside d) m n o p q a b = omega arith

pub enough_none : (c : Mode) (n : ℕ) → Enough c 0 n
enough_none Plain n = refl
enough_none Around n = refl
enough_none (Inside d) n = omega arith

pub enough_more : (c : Mode) (m n o p : ℕ) → Budget c m o p → Enough c n p → Enough c (m + n) o
enough_more Plain m n o p a b = omega arith
enough_more Around m n o p a b = omega arith
enough_more (Inside d) m n o p a b = omega arith

enough_plus : (c : Mode) (m o : ℕ) → Enough c m o → Enough c (m + 0) o
enough_plus Plain m o a = omega arith
enough_plus Around m o a = omega arith
enough_plus (Inside d) m o a = omega arith

-- ---- one after the other

pub both_taken : {A B : Type 0} (c : Mode) (g : Form A) (h : A → Form B) (i : Input) (a : A) (j : Input) → Took c g i a j → (out : Outcome B) → Kept c (h a) j out
    → Kept c (sequence g h) i out
both_taken c g h i a j t (Ok q) u = record {
  prefix = t.prefix ++ u.prefix;
  count = t.count + u.count;
  joined = t.joined ∙ ap (λ ts. t.prefix ++ ts) u.joined ∙ sym (append_assoc t.prefix u.prefix q.1.ahead);
  budget = budget_more c t.count u.count i.operators j.operators q.1.operators t.budget u.budget;
  said = (a, record { prefix = t.prefix; rest = u.prefix; prefix_count = t.count; rest_count = u.count; joined = refl; counted = refl; first = t.said; second = u.said });
}
both_taken c g h i a j t (Err e) r = record {
  before = t.prefix ++ r.before;
  behind = r.behind;
  joined = t.joined ∙ ap (λ ts. t.prefix ++ ts) r.joined ∙ sym (append_assoc t.prefix r.before r.behind);
  done = record {
    more = r.done.more;
    count = t.count + r.done.count;
    value = r.done.value;
    enough = enough_more c t.count r.done.count i.operators j.operators t.budget r.done.enough;
    said = (
      a,
      record {
        prefix = t.prefix;
        rest = r.before ++ r.done.more;
        prefix_count = t.count;
        rest_count = r.done.count;
        joined = append_assoc t.prefix r.before r.done.more;
        counted = refl;
        first = t.said;
        second = r.done.said;
      },
    );
  };
  stands = r.stands;
}

-- another form begins with the same tokens
pub begun_by : {A B : Type 0} {c : Mode} {g : Form A} {h : Form B} {i : Input} {e : Fault} → (r : Refused c g i e) → Completed c h r.before i.operators → Refused c h i e
begun_by r done = record { before = r.before; behind = r.behind; joined = r.joined; done = done; stands = r.stands }

pub both_refused : {A B : Type 0} (c : Mode) (g : Form A) (h : A → Form B) (i : Input) (e : Fault) → ((a : A) → Inhabited (h a)) → Refused c g i e
    → Refused c (sequence g h) i e
both_refused c g h i e any r =
    let w = any r.done.value in
    begun_by r (record {
      more = r.done.more ++ w.tokens;
      count = r.done.count + 0;
      value = w.value;
      enough = enough_plus c r.done.count i.operators r.done.enough;
      said = (
        r.done.value,
        record {
          prefix = r.before ++ r.done.more;
          rest = w.tokens;
          prefix_count = r.done.count;
          rest_count = 0;
          joined = sym (append_assoc r.before r.done.more w.tokens);
          counted = refl;
          first = r.done.said;
          second = w.said;
        },
      );
    })

both_out : {A B : Type 0} (c : Mode) (g : Form A) (h : A → Form B) (f : A → Reader B) (i : Input) → Whole i.ahead → ((a : A) → Sound c (f a) (h a))
    → ((a : A) → Inhabited (h a)) → (out : Outcome A) → Kept c g i out → Kept c (sequence g h) i (and_then out f)
both_out c g h f i whole sf any (Ok p) t =
    both_taken c g h i p.0 p.1 t (f p.0 p.1) ((sf p.0).run p.1 (whole_rest t.prefix p.1.ahead (subst Whole t.joined whole)))
both_out c g h f i whole sf any (Err e) r = both_refused c g h i e any r

-- at one input
pub both_at : {A B : Type 0} {c : Mode} (p : Reader A) {g : Form A} {f : A → Reader B} {h : A → Form B} (i : Input) → Whole i.ahead → Out c g i (p i)
    → ((a : A) → Sound c (f a) (h a)) → ((a : A) → Inhabited (h a)) → Out c (sequence g h) i (and_then (p i) f)
both_at {c = c} p {g = g} {f = f} {h = h} i whole t sf any = record { kept = both_out c g h f i whole sf any (p i) t.kept }

pub at : {A : Type 0} {c : Mode} {p : Reader A} {g : Form A} → Sound c p g → (i : Input) → Whole i.ahead → Out c g i (p i)
at sp i whole = record { kept = sp.run i whole }

pub both : {A B : Type 0} {c : Mode} {p : Reader A} {g : Form A} {f : A → Reader B} {h : A → Form B} → Sound c p g → ((a : A) → Sound c (f a) (h a))
    → ((a : A) → Inhabited (h a)) → Sound c (p >>= f) (sequence g h)
both {c = c} {p = p} {g = g} {f = f} {h = h} sp sf any = record { run = λ i whole. both_out c g h f i whole sf any (p i) (sp.run i whole) }

pub some_both : {A B : Type 0} {g : Form A} {h : A → Form B} → Inhabited g → ((a : A) → Inhabited (h a)) → Inhabited (sequence g h)
some_both one two =
    let w = two one.value in
    record {
      tokens = one.tokens ++ w.tokens;
      value = w.value;
      said = (one.value, record { prefix = one.tokens; rest = w.tokens; prefix_count = 0; rest_count = 0; joined = refl; counted = refl; first = one.said; second = w.said });
    }

pub made : {A : Type 0} {c : Mode} (a : A) → Sound c (pure a) (says a)
made {c = c} a = record { run = λ i whole. record { prefix = []; count = 0; joined = refl; budget = budget_none c i.operators; said = (refl, refl, refl) } }

pub some_made : {A : Type 0} (a : A) → Inhabited (says a)
some_made a = record { tokens = []; value = a; said = (refl, refl, refl) }

-- ---- one form within another

pub within_out : {A : Type 0} (c : Mode) (g h : Form A) (i : Input) → ((ts : List Token) (n : ℕ) (a : A) → g ts n a → h ts n a) → (out : Outcome A) → Kept c g i out → Kept c h i out
within_out c g h i up (Ok p) t = record { prefix = t.prefix; count = t.count; joined = t.joined; budget = t.budget; said = up t.prefix t.count p.0 t.said }
within_out c g h i up (Err e) r =
    begun_by r (record {
      more = r.done.more;
      count = r.done.count;
      value = r.done.value;
      enough = r.done.enough;
      said = up (r.before ++ r.done.more) r.done.count r.done.value r.done.said;
    })

pub left_of : {A : Type 0} {c : Mode} {g h : Form A} {i : Input} {out : Outcome A} → Out c g i out → Out c (g or h) i out
left_of {c = c} {g = g} {h = h} {i = i} {out = out} t = record { kept = within_out c g (g or h) i (λ ts n a s. inl s) out t.kept }

pub right_of : {A : Type 0} {c : Mode} {g h : Form A} {i : Input} {out : Outcome A} → Out c h i out → Out c (g or h) i out
right_of {c = c} {g = g} {h = h} {i = i} {out = out} t = record { kept = within_out c h (g or h) i (λ ts n a s. inr s) out t.kept }

pub some_left : {A : Type 0} {g h : Form A} → Inhabited g → Inhabited (g or h)
some_left w = record { tokens = w.tokens; value = w.value; said = inl w.said }

pub some_right : {A : Type 0} {g h : Form A} → Inhabited h → Inhabited (g or h)
some_right w = record { tokens = w.tokens; value = w.value; said = inr w.said }

-- ---- single tokens

-- a kind that no end of a line has
abbrev pub is_end : Kind → Bool
is_end k.LineEnd = true
is_end _ = false

abbrev pub token_of : Kind → Token
token_of kind = record { kind = kind; content = content.Nothing; at = 0 }

pub some_word : (kind : Kind) → Inhabited (word kind)
some_word kind = record { tokens = token_of kind ∷ []; value = tt; said = (token_of kind, refl, refl, refl) }

-- any tokens of a form begin with none
pub begun_none : {A : Type 0} (c : Mode) (o : ℕ) {g : Form A} → Inhabited g → Completed c g [] o
begun_none c o w = record { more = w.tokens; count = 0; value = w.value; enough = enough_none c o; said = w.said }

pub refused_here : {A : Type 0} (c : Mode) {g : Form A} (i : Input) → Inhabited g → Kept c g i (Err (At (head i).at))
unfolding head
refused_here c i w = record {
  before = [];
  behind = i.ahead;
  joined = refl;
  done = begun_none c i.operators w;
  stands = Here refl;
}

pub refused : {A : Type 0} {c : Mode} {g : Form A} → Inhabited g → Sound c refuse g
refused w = record { run = λ i whole. refused_here _ i w }

-- the first token, where there is one
pub taken_by : {c : Mode} (kd : Kind) → is_end kd ≡ false → (xs : List Token) (o : ℕ) → (first_of xs).kind ≡ kd
    → Took c (word kd) (record { ahead = xs; operators = o }) tt (record { ahead = drop 1 xs; operators = o })
taken_by kd not_end [] o is = absurd (true_false (ap is_end is ∙ not_end))
  where
    true_false : true ≡ false → ⊥
    true_false e = cc
taken_by {c = c} kd not_end (t ∷ ts) o is =
    record { prefix = t ∷ []; count = 0; joined = refl; budget = budget_none c o; said = (t, refl, is, refl) }

expected_by : (c : Mode) (kd : Kind) → is_end kd ≡ false → (xs : List Token) (o : ℕ) (b : Bool) → same_kind (first_of xs).kind kd ≡ b
    → Kept c (word kd) (record { ahead = xs; operators = o }) (if b then Ok (tt, record { ahead = drop 1 xs; operators = o }) else Err (At (first_of xs).at))
unfolding head
expected_by c kd not_end xs o true is = taken_by kd not_end xs o (same is)
expected_by c kd not_end xs o false is = refused_here _ (record { ahead = xs; operators = o }) (some_word kd)

pub expected : {c : Mode} (kd : Kind) → is_end kd ≡ false → Sound c (expect kd) (word kd)
unfolding expect sees head next
expected kd not_end = record { run = λ i whole. expected_by _ kd not_end i.ahead i.operators (same_kind (first_of i.ahead).kind kd) refl }

-- the next token, whose kind is known
pub taken_at : (c : Mode) (kd : Kind) → is_end kd ≡ false → (i : Input) → kind i ≡ kd → Kept c (word kd) i (take_token i)
unfolding head next
taken_at c kd not_end i is = taken_by kd not_end i.ahead i.operators is

pub behind_word : {A : Type 0} {c : Mode} (kd : Kind) {p : Reader A} {g : Form A} → is_end kd ≡ false → Sound c p g → Inhabited g → (i : Input) → Whole i.ahead
    → kind i ≡ kd → Out c (sequence (word kd) (λ _. g)) i (and_then (take_token i) (λ _. p))
behind_word {c = c} kd {p = p} {g = g} not_end sp any i whole is =
    record { kept = both_out c (word kd) (λ _. g) (λ _. p) i whole (λ _. sp) (λ _. any) (take_token i) (taken_at _ kd not_end i is) }

-- none of the forms goes on here
pub refused_at : {A : Type 0} {c : Mode} {g : Form A} → Inhabited g → (i : Input) → Out c g i (Err (At (head i).at))
refused_at any i = record { kept = refused_here _ i any }

-- the kind of the next token decides
pub on_kind : {A : Type 0} {c : Mode} {g : Form A} (by : Kind → Reader A) → ((kd : Kind) (i : Input) → Whole i.ahead → kind i ≡ kd → Out c g i (by kd i))
    → Sound c (peek >>= by) g
on_kind by cases = record { run = λ i whole. (cases (kind i) i whole refl).kept }
