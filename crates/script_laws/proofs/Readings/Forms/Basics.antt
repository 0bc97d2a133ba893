-- Names, literals and the names that a script binds are read as their forms say.
use Rattle.std.proofs.Common.{◌≡◌, ◌≢◌, ℕ, ◌^◌, nat_lt, Bool, true, false, not, if◌then◌else◌, List, [], ◌∷◌, drop, Option, Some, None, Ok, refl, inl, inr}
use Rattle.base_core.specs.declared.value.Value.{Value}
use Rattle.base_core.specs.declared.value.Value.TheVariants as v
use Rattle.script_lex.specs.declared.kind.Kind.{Kind}
use Rattle.script_lex.specs.declared.kind.Kind.TheVariants as k
use Rattle.script_lex.specs.declared.token.Content.{Content}
use Rattle.script_lex.specs.declared.token.Content.TheVariants as content
use Rattle.script_lex.specs.declared.token.Token.{Token}
use Rattle.script_lex.specs.Lex.{same_kind}
use Rattle.script_tokens.proofs.Alike.{same, other as differs}
use Rattle.script_tokens.specs.Input.{Input, head, kind, next, first_of}
use Rattle.script_tokens.specs.Names as n
use Rattle.script_tokens.specs.Names.{is_no_name, has_length, name_in}
use Rattle.script_tokens.specs.Literals as l
use Rattle.script_laws.specs.Readings.Forms.Basics as form
use Rattle.script_laws.proofs.Readings.Forms.Taking.{Mode, Kept, Out, Whole, Sound, Inhabited}
use Rattle.script_laws.proofs.Readings.Forms.Steps.{budget_none, refused_here, both, made, some_both, some_made, some_word, expected}
use Rattle.script_laws.proofs.Readings.Forms.Lists.{listed, some_list}

-- ---- names

a_name : Token
a_name = record { kind = k.Quoted; content = content.Name (97 ∷ []); at = 0 }

pub some_name_but : (excluded : Kind → Bool) → excluded k.Quoted ≡ false → Inhabited (form.name_but excluded)
unfolding a_name is_no_name
some_name_but excluded free = record { tokens = a_name ∷ []; value = 97 ∷ []; said = (a_name, refl, free, refl, refl, refl, refl) }

pub some_name : Inhabited form.name
some_name = some_name_but form.no_words refl

-- where the token is none of these words
module _ (c : Mode) (excluded : Kind → Bool) (free : excluded k.Quoted ≡ false) where
  long_by : (t : Token) (ts : List Token) (o : ℕ) (found : List ℕ) → excluded t.kind ≡ false → is_no_name t.kind ≡ false → t.content ≡ content.Name found
      → (fits : Bool) → has_length found ≡ fits
      → Kept c (form.name_but excluded) (record { ahead = t ∷ ts; operators = o }) (n.named_by (if fits then Some found else None) (record { ahead = t ∷ ts; operators = o }))
  unfolding next
  long_by t ts o found other is holds true fits =
      record { prefix = t ∷ []; count = 0; joined = refl; budget = budget_none c o; said = (t, refl, other, is, holds, fits, refl) }
  long_by t ts o found other is holds false fits = refused_here _ (record { ahead = t ∷ ts; operators = o }) (some_name_but excluded free)

  token_by : (t : Token) (ts : List Token) (o : ℕ) → excluded t.kind ≡ false → (no : Bool) → is_no_name t.kind ≡ no → (held : Content) → t.content ≡ held
      → Kept c (form.name_but excluded) (record { ahead = t ∷ ts; operators = o }) (n.named_by (name_in (not no) held) (record { ahead = t ∷ ts; operators = o }))
  token_by t ts o other true is held holds = refused_here _ (record { ahead = t ∷ ts; operators = o }) (some_name_but excluded free)
  token_by t ts o other false is (content.Name found) holds = long_by t ts o found other is holds (has_length found) refl
  token_by t ts o other false is content.Nothing holds = refused_here _ (record { ahead = t ∷ ts; operators = o }) (some_name_but excluded free)
  token_by t ts o other false is (content.Number m) holds = refused_here _ (record { ahead = t ∷ ts; operators = o }) (some_name_but excluded free)
  token_by t ts o other false is (content.Literal found) holds = refused_here _ (record { ahead = t ∷ ts; operators = o }) (some_name_but excluded free)

  tokens_by : (xs : List Token) (o : ℕ) → excluded (first_of xs).kind ≡ false
      → Kept c (form.name_but excluded) (record { ahead = xs; operators = o })
      (n.named_by (name_in (not (is_no_name (first_of xs).kind)) (first_of xs).content) (record { ahead = xs; operators = o }))
  unfolding is_no_name
  tokens_by [] o other = refused_here _ (record { ahead = []; operators = o }) (some_name_but excluded free)
  tokens_by (t ∷ ts) o other = token_by t ts o other (is_no_name t.kind) refl t.content refl

  name_kept : (i : Input) → excluded (kind i) ≡ false → Kept c (form.name_but excluded) i (n.name i)
  unfolding n.name n.next_name head
  name_kept i other = tokens_by i.ahead i.operators other

  pub name_at : (i : Input) → excluded (kind i) ≡ false → Out c (form.name_but excluded) i (n.name i)
  name_at i other = record { kept = name_kept i other }

pub named : {c : Mode} → Sound c n.name form.name
named = record { run = λ i whole. (name_at _ form.no_words refl i refl).kept }

pub names_read : {c : Mode} → Sound c n.names form.names
unfolding n.names
names_read =
    both (expected k.LParen refl) (λ _. both (listed k.Comma refl named some_name) (λ found. both (expected k.RParen refl) (λ _. made found) (λ _. some_made found))
    (λ found. some_both (some_word k.RParen) (λ _. some_made found)))
    (λ _. some_both (some_list k.Comma some_name) (λ found. some_both (some_word k.RParen) (λ _. some_made found)))

pub some_names : Inhabited form.names
some_names = some_both (some_word k.LParen) (λ _. some_both (some_list k.Comma some_name) (λ found. some_both (some_word k.RParen) (λ _. some_made found)))

-- ---- literals

truth : Token
truth = record { kind = k.True; content = content.Name []; at = 0 }

true_signed : k.True ≢ k.Signed
true_signed e = cc

pub some_literal : Inhabited form.literal
unfolding truth
some_literal = record { tokens = truth ∷ []; value = v.Bool true; said = inl (truth, refl, true_signed, refl, refl) }

signed_by : (c : Mode) (t : Token) (ts : List Token) (o : ℕ) (found : Value) → l.literal_in t.kind t.content ≡ Some found → Whole (t ∷ ts) → t.kind ≡ k.Signed
    → Kept c form.literal (record { ahead = t ∷ ts; operators = o }) (Ok (found, record { ahead = drop 1 ts; operators = o }))
signed_by c t [] o found is whole signed = absurd (whole signed)
signed_by c t (d ∷ ds) o found is whole signed =
    record { prefix = t ∷ d ∷ []; count = 0; joined = refl; budget = budget_none c o; said = inr (t, d, refl, signed, is, refl) }

past_by : (c : Mode) (t : Token) (ts : List Token) (o : ℕ) (found : Value) → l.literal_in t.kind t.content ≡ Some found → Whole (t ∷ ts) → (signed : Bool)
    → same_kind t.kind k.Signed ≡ signed
    → Kept c form.literal (record { ahead = t ∷ ts; operators = o }) (Ok (found, if signed then record { ahead = drop 1 ts; operators = o } else record { ahead = ts; operators = o }))
past_by c t ts o found is whole true signed = signed_by _ t ts o found is whole (same signed)
past_by c t ts o found is whole false signed =
    record { prefix = t ∷ []; count = 0; joined = refl; budget = budget_none c o; said = inl (t, refl, differs signed, is, refl) }

value_by : (c : Mode) (t : Token) (ts : List Token) (o : ℕ) → Whole (t ∷ ts) → (found : Option Value) → l.literal_in t.kind t.content ≡ found
    → Kept c form.literal (record { ahead = t ∷ ts; operators = o }) (l.literal_by found (record { ahead = t ∷ ts; operators = o }))
unfolding l.past_literal head next
value_by c t ts o whole None is = refused_here _ (record { ahead = t ∷ ts; operators = o }) some_literal
value_by c t ts o whole (Some found) is = past_by _ t ts o found is whole (same_kind t.kind k.Signed) refl

literal_by : (c : Mode) (xs : List Token) (o : ℕ) → Whole xs
    → Kept c form.literal (record { ahead = xs; operators = o }) (l.literal_by (l.literal_in (first_of xs).kind (first_of xs).content) (record { ahead = xs; operators = o }))
literal_by c [] o whole = refused_here _ (record { ahead = []; operators = o }) some_literal
literal_by c (t ∷ ts) o whole = value_by _ t ts o whole (l.literal_in t.kind t.content) refl

pub literal_read : {c : Mode} → Sound c l.literal form.literal
unfolding l.literal l.next_literal head
literal_read = record { run = λ i whole. literal_by _ i.ahead i.operators whole }

-- ---- numbers without a minus

-- a token of digits
abbrev pub number : Token
number = record { kind = k.Number; content = content.Number 0; at = 0 }

pub some_int : Inhabited form.int
some_int = record { tokens = number ∷ []; value = 0; said = (number, refl, refl, refl, refl, refl) }

int_within : (c : Mode) (t : Token) (ts : List Token) (o : ℕ) (m : ℕ) → t.kind ≡ k.Number → t.content ≡ content.Number m → (fits : Bool) → nat_lt m (2 ^ 63) ≡ fits
    → Kept c form.int (record { ahead = t ∷ ts; operators = o }) (l.int_by (if fits then Some m else None) (record { ahead = t ∷ ts; operators = o }))
unfolding next head
int_within c t ts o m is holds true fits = record { prefix = t ∷ []; count = 0; joined = refl; budget = budget_none c o; said = (t, refl, is, holds, fits, refl) }
int_within c t ts o m is holds false fits = refused_here _ (record { ahead = t ∷ ts; operators = o }) some_int

int_by : (c : Mode) (t : Token) (ts : List Token) (o : ℕ) (kd : Kind) → t.kind ≡ kd → (held : Content) → t.content ≡ held
    → Kept c form.int (record { ahead = t ∷ ts; operators = o }) (l.int_by (l.whole_number kd held) (record { ahead = t ∷ ts; operators = o }))
int_by c t ts o k.Number is (content.Number m) holds = int_within _ t ts o m is holds (nat_lt m (2 ^ 63)) refl
int_by c t ts o _ is _ holds = refused_here _ (record { ahead = t ∷ ts; operators = o }) some_int

int_at : (c : Mode) (xs : List Token) (o : ℕ)
    → Kept c form.int (record { ahead = xs; operators = o }) (l.int_by (l.whole_number (first_of xs).kind (first_of xs).content) (record { ahead = xs; operators = o }))
int_at c [] o = refused_here _ (record { ahead = []; operators = o }) some_int
int_at c (t ∷ ts) o = int_by _ t ts o t.kind refl t.content refl

pub int_read : {c : Mode} → Sound c l.int form.int
unfolding l.int head
int_read = record { run = λ i whole. int_at _ i.ahead i.operators }
