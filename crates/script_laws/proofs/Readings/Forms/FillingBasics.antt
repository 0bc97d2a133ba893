-- What a form says is read: names, numbers and lists.
use Rattle.std.proofs.Common.{◌≡◌, ℕ, zero, suc, ◌+◌, ◌≤◌, Bool, true, false, not, if◌then◌else◌, List, [], ◌∷◌, ◌++◌, drop, length, Some, None, refl, ap, sym, subst, ◌∙◌, append_assoc, length-append, arith}
use Rattle.script_lex.specs.declared.kind.Kind.{Kind}
use Rattle.script_lex.specs.declared.kind.Kind.TheVariants as k
use Rattle.script_lex.specs.declared.token.Content.TheVariants as content
use Rattle.script_lex.specs.declared.token.Token.{Token}
use Rattle.script_lex.specs.Lex.{same_kind}
use Rattle.script_tokens.proofs.Alike.{alike}
use Rattle.script_tokens.specs.Input.{Input, Reader, ◌>>=◌, pure, eat, head, next, sees, after, first_of, separated_from}
use Rattle.script_tokens.specs.Names as n
use Rattle.script_tokens.specs.Names.{is_no_name, has_length, name_in}
use Rattle.script_laws.specs.Readings.Forms.Form.{Form, sequence, word, separated_list}
use Rattle.script_laws.specs.Readings.Forms.Basics as form
use Rattle.script_laws.proofs.Readings.Forms.Taking.{Mode, Enough}
use Rattle.script_laws.proofs.Readings.Forms.Steps.{budget_none, budget_more}
use Rattle.script_laws.proofs.Readings.Forms.Filling.{given, given_as, given_behind, given_then, Read, Complete, always, enough_first, enough_then, both, then_any, made, expected, first_opens, word_opens}

-- ---- names

named_by : (mode : Mode) (t : Token) (rest : List Token) (o : ℕ) (found : List ℕ) → is_no_name t.kind ≡ false → t.content ≡ content.Name found → has_length found ≡ true
    → Read mode n.name (t ∷ rest) rest 0 o found
unfolding n.name n.next_name head next
named_by mode t rest o found is holds fits =
    let i : Input = record { ahead = t ∷ rest; operators = o } in
    record {
      left = o;
      budget = budget_none mode o;
      is = given (ap (λ b. n.named_by (name_in (not b) t.content) i) is ∙ ap (λ held. n.named_by (name_in true held) i) holds ∙ ap (λ b. n.named_by (if b then Some found else None) i) fits);
    }

name_run : (mode : Mode) (excluded : Kind → Bool) (prefix rest : List Token) (count o : ℕ) (found : List ℕ) → form.name_but excluded prefix count found
    → Read mode n.name (prefix ++ rest) rest count o found
name_run mode excluded prefix rest count o found said =
    subst (λ ts. Read mode n.name (ts ++ rest) rest count o found) (sym said.1)
    (subst (λ m. Read mode n.name (said.0 ∷ rest) rest m o found) (sym said.6) (named_by mode said.0 rest o found said.3 said.4 said.5))

pub name_but_read : {mode : Mode} (excluded : Kind → Bool) → Complete mode always n.name (form.name_but excluded)
name_but_read {mode = mode} excluded = record { run = λ prefix rest count o found said enough stop. name_run mode excluded prefix rest count o found said }

pub named : {mode : Mode} → Complete mode always n.name form.name
named = name_but_read form.no_words

-- ---- lists

-- a form that no empty list of tokens has
pub record Solid {A : Type 0} (form : Form A) : Type 0 where
  pub run : (tokens : List Token) (count : ℕ) (a : A) → form tokens count a → 1 ≤ length tokens

pub one_token : (t : Token) (tokens : List Token) → tokens ≡ t ∷ [] → 1 ≤ length tokens
one_token t tokens e = subst (λ ts. 1 ≤ length ts) (sym e) (omega arith)

pub name_solid : Solid form.name
name_solid = record { run = λ tokens count found said. one_token said.0 tokens said.1 }

pub word_solid : (kd : Kind) → Solid (word kd)
word_solid kd = record { run = λ tokens count u said. one_token said.0 tokens said.1 }

pub longer : (prefix rest tokens : List Token) → tokens ≡ prefix ++ rest → 1 ≤ length prefix → 1 ≤ length tokens
longer prefix rest tokens e some = subst (λ ts. 1 ≤ length ts) (sym e) (omega (arith, length-append prefix rest))

pub first_solid : {A B : Type 0} {g : Form A} {h : A → Form B} → Solid g → Solid (sequence g h)
first_solid sg =
    record { run = λ tokens count b said. let w = said.1 in longer w.prefix w.rest tokens w.joined (sg.run w.prefix w.prefix_count said.0 w.first) }

-- there are no more items than tokens
pub items_fit : {A : Type 0} (mark : Kind) (item : Form A) → Solid item → (all : List A) (tokens : List Token) (count : ℕ) → separated_list mark item tokens count all
    → length all ≤ length tokens
items_fit mark item solid [] tokens count said = absurd said
items_fit mark item solid (a ∷ []) tokens count said = solid.run tokens count a said
items_fit mark item solid (a ∷ b ∷ more) tokens count said =
    let w = said in
    let v = w.second in
    let some = solid.run w.prefix w.prefix_count a w.first in
    let rest = items_fit mark item solid (b ∷ more) v.rest v.rest_count v.second in
    let one : length w.rest ≡ length v.prefix + length v.rest = ap length v.joined ∙ length-append v.prefix v.rest in
    let all : length tokens ≡ length w.prefix + length w.rest = ap length w.joined ∙ length-append w.prefix w.rest in
    omega arith

module _ {A : Type 0} (mode : Mode) (mark : Kind) (item : Reader A) (form : Form A) (s t : Kind → Bool) (cp : Complete mode s item form) (sm : s mark ≡ true)
    (within : (y : Kind) → t y ≡ true → s y ≡ true) (other : (y : Kind) → t y ≡ true → same_kind y mark ≡ false) where
  last_by : (n : ℕ) (found : List A) (a : A) (rest : List Token) (o : ℕ) → same_kind (first_of rest).kind mark ≡ false
      → Read mode (eat mark >>= (λ more. if more then separated_from mark item n (found ++ a ∷ []) else pure (found ++ a ∷ []))) rest rest 0 o (found ++ a ∷ [])
  unfolding sees after head next
  last_by n found a rest o is = record {
    left = o;
    budget = budget_none mode o;
    is = given (ap (λ b. (if b then separated_from mark item n (found ++ a ∷ []) else pure (found ++ a ∷ []))
        (if b then record { ahead = drop 1 rest; operators = o } else record { ahead = rest; operators = o })) is);
  }

  more_by : (n : ℕ) (found : List A) (a : A) (t : Token) (ts rest : List Token) (count o : ℕ) (all : List A) → t.kind ≡ mark
      → Read mode (separated_from mark item n (found ++ a ∷ [])) ts rest count o all
      → Read mode (eat mark >>= (λ more. if more then separated_from mark item n (found ++ a ∷ []) else pure (found ++ a ∷ []))) (t ∷ ts) rest count o all
  unfolding sees after head next
  more_by n found a t ts rest count o all is read = record {
    left = read.left;
    budget = read.budget;
    is = given_as (ap (λ b. (if b then separated_from mark item n (found ++ a ∷ []) else pure (found ++ a ∷ []))
        (if b then record { ahead = ts; operators = o } else record { ahead = t ∷ ts; operators = o })) (alike is)) (given_behind read.is);
  }

  step : (n : ℕ) (found : List A) (a : A) (fs ys rest : List Token) (l m o : ℕ) (all : List A) → (one : Read mode item (fs ++ ys) ys l o a)
      → Read mode (eat mark >>= (λ more. if more then separated_from mark item n (found ++ a ∷ []) else pure (found ++ a ∷ []))) ys rest m one.left all
      → Read mode (separated_from mark item (suc n) found) (fs ++ ys) rest (l + m) o all
  unfolding separated_from
  step n found a fs ys rest l m o all one two = record {
    left = two.left;
    budget = budget_more mode l m o one.left two.left one.budget two.budget;
    is = given_then fs ys (λ x. eat mark >>= (λ more. if more then separated_from mark item n (found ++ x ∷ []) else pure (found ++ x ∷ []))) one.is two.is;
  }

  enough_last : (n l o : ℕ) (found : List A) (a : A) (prefix rest : List Token) → form prefix l a → Enough mode l o → t (first_of rest).kind ≡ true
      → Read mode (separated_from mark item (suc n) found) (prefix ++ rest) rest l o (found ++ a ∷ [])
  enough_last n l o found a prefix rest said enough stop =
      let one = cp.run prefix rest l o a said enough (within (first_of rest).kind stop) in
      let counts : l + 0 ≡ l = omega arith in
      subst (λ m. Read mode (separated_from mark item (suc n) found) (prefix ++ rest) rest m o (found ++ a ∷ [])) counts
      (step n found a prefix rest rest l 0 o (found ++ a ∷ []) one (last_by n found a rest one.left (other (first_of rest).kind stop)))

  -- items behind those that were found
  pub all_read : (n : ℕ) (all found : List A) (prefix rest : List Token) (count o : ℕ) → length all ≤ n → separated_list mark form prefix count all → Enough mode count o
      → t (first_of rest).kind ≡ true → Read mode (separated_from mark item n found) (prefix ++ rest) rest count o (found ++ all)
  all_read n [] found prefix rest count o fits said enough stop = absurd said
  all_read zero (a ∷ more) found prefix rest count o fits said enough stop = absurd (omega arith)
  all_read (suc n) (a ∷ []) found prefix rest count o fits said enough stop = enough_last n count o found a prefix rest said enough stop
  all_read (suc n) (a ∷ b ∷ more) found prefix rest count o fits said enough stop =
      let w = said in
      let v = w.second in
      let u = v.first.0 in
      let zero_mark : v.rest_count ≡ w.rest_count = omega (arith, v.counted, v.first.3) in
      let enough_all : Enough mode (w.prefix_count + w.rest_count) o = subst (λ m. Enough mode m o) w.counted enough in
      let tail : w.rest ≡ u ∷ v.rest = v.joined ∙ ap (λ ts. ts ++ v.rest) v.first.1 in
      let tokens : w.prefix ++ (u ∷ (v.rest ++ rest)) ≡ prefix ++ rest =
      ap (λ ts. w.prefix ++ (ts ++ rest)) (sym tail) ∙ sym (append_assoc w.prefix w.rest rest) ∙ ap (λ ts. ts ++ rest) (sym w.joined) in
      let marked : s u.kind ≡ true = ap s v.first.2 ∙ sm in
      let one : Read mode item (w.prefix ++ (u ∷ (v.rest ++ rest))) (u ∷ (v.rest ++ rest)) w.prefix_count o a =
      cp.run w.prefix (u ∷ (v.rest ++ rest)) w.prefix_count o a w.first (enough_first mode w.prefix_count w.rest_count o enough_all) marked in
      let more_enough : Enough mode v.rest_count one.left =
      subst (λ m. Enough mode m one.left) (sym zero_mark) (enough_then mode w.prefix_count w.rest_count o one.left enough_all one.budget) in
      let less : length (b ∷ more) ≤ n = omega arith in
      let rec : Read mode (separated_from mark item n (found ++ a ∷ [])) (v.rest ++ rest) rest v.rest_count one.left ((found ++ a ∷ []) ++ (b ∷ more)) =
      all_read n (b ∷ more) (found ++ a ∷ []) v.rest rest v.rest_count one.left less v.second more_enough stop in
      let two = more_by n found a u (v.rest ++ rest) rest v.rest_count one.left ((found ++ a ∷ []) ++ (b ∷ more)) v.first.2 rec in
      let whole : Read mode (separated_from mark item (suc n) found) (w.prefix ++ (u ∷ (v.rest ++ rest))) rest (w.prefix_count + v.rest_count) o ((found ++ a ∷ []) ++ (b ∷ more)) =
      step n found a w.prefix (u ∷ (v.rest ++ rest)) rest w.prefix_count v.rest_count o ((found ++ a ∷ []) ++ (b ∷ more)) one two in
      let counts : w.prefix_count + v.rest_count ≡ count = omega (arith, w.counted) in
      subst (λ ts. Read mode (separated_from mark item (suc n) found) ts rest count o (found ++ a ∷ b ∷ more)) tokens
      (subst (λ m. Read mode (separated_from mark item (suc n) found) (w.prefix ++ (u ∷ (v.rest ++ rest))) rest m o (found ++ a ∷ b ∷ more)) counts
      (subst (λ xs. Read mode (separated_from mark item (suc n) found) (w.prefix ++ (u ∷ (v.rest ++ rest))) rest (w.prefix_count + v.rest_count) o xs)
      (append_assoc found (a ∷ []) (b ∷ more)) whole))

  from_start : (prefix rest : List Token) (count o : ℕ) (all : List A) → Solid form → separated_list mark form prefix count all → Enough mode count o → t (first_of rest).kind ≡ true
      → Read mode (λ i. separated_from mark item (length i.ahead) [] i) (prefix ++ rest) rest count o all
  from_start prefix rest count o all solid said enough stop =
      let fits = items_fit mark form solid all prefix count said in
      let long = length-append prefix rest in
      let read = all_read (length (prefix ++ rest)) all [] prefix rest count o (omega arith) said enough stop in
      record { left = read.left; budget = read.budget; is = read.is }

pub listed : {A : Type 0} {mode : Mode} (mark : Kind) {item : Reader A} {form : Form A} (s t : Kind → Bool) → Complete mode s item form → Solid form → s mark ≡ true
    → ((y : Kind) → t y ≡ true → s y ≡ true) → ((y : Kind) → t y ≡ true → same_kind y mark ≡ false)
    → Complete mode t (λ i. separated_from mark item (length i.ahead) [] i) (separated_list mark form)
listed {mode = mode} mark {item = item} {form = form} s t cp solid sm within other =
    record { run = λ prefix rest count o all said enough stop. from_start mode mark item form s t cp sm within other prefix rest count o all solid said enough stop }

-- ---- `(NAME {, NAME})`

abbrev pub closes : Kind → Bool
closes k.RParen = true
closes _ = false

closes_no_comma : (y : Kind) → closes y ≡ true → same_kind y k.Comma ≡ false
unfolding same_kind
closes_no_comma k.RParen e = refl
closes_no_comma _ e = absurd (false_true e)
  where
    false_true : false ≡ true → ⊥
    false_true e = cc

pub names_read : {mode : Mode} → Complete mode always n.names form.names
unfolding n.names
names_read =
    then_any (expected k.LParen) (λ _. both (listed k.Comma always closes named name_solid refl (λ y e. refl) closes_no_comma)
    (λ found. then_any (expected k.RParen) (λ _. made found)) (λ found. first_opens (word_opens k.RParen refl)))
