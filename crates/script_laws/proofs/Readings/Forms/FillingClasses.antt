-- What the forms of the lines of a class's block say is read.
use Rattle.std.proofs.Common.{◌≡◌, ℕ, zero, suc, ◌+◌, ◌≤◌, Bool, true, false, ◌||◌, if◌then◌else◌, List, [], ◌∷◌, ◌++◌, drop, length, Option, None, Ok, Err, refl, ap, sym, subst, ◌∙◌, append_assoc, length-append, inl, inr, arith}
use Rattle.class_types.specs.declared.declared.Cascade.{Cascade}
use Rattle.script_types.specs.declared.command.Command.TheVariants as c
use Rattle.script_lex.specs.declared.kind.Kind.{Kind}
use Rattle.script_lex.specs.declared.kind.Kind.TheVariants as k
use Rattle.script_lex.specs.declared.token.Token.{Token}
use Rattle.script_lex.specs.Lex.{same_kind}
use Rattle.script_tokens.proofs.Alike.{alike}
use Rattle.script_tokens.specs.declared.fault.Fault.TheVariants.{At}
use Rattle.script_tokens.specs.Input.{Reader, ◌>>=◌, ◌>>◌, pure, eat, expect, take_token, head, next, sees, after, first_of}
use Rattle.script_blocks.specs.Classes as r
use Rattle.script_laws.specs.Readings.Forms.Form.{Form, sequence, says, word, maybe, whether, separated_list}
use Rattle.script_laws.specs.Readings.Forms.Basics as basic
use Rattle.script_laws.specs.Readings.Forms.ClassLines as form
use Rattle.script_laws.proofs.Readings.Forms.Taking.{Mode, Enough}
use Rattle.script_laws.proofs.Readings.Forms.Steps.{budget_none, budget_more, is_end}
use Rattle.script_laws.proofs.Readings.Forms.Options.{mapped_of}
use Rattle.script_laws.proofs.Readings.Forms.Sequences.{then_to, says_to, regrouped}
use Rattle.script_laws.proofs.Readings.Forms.ClassLines.{save_update, merge, refresh_expire, expunge, delete, delete_orphan, all}
use Rattle.script_laws.proofs.Readings.Forms.Filling.{given, given_as, given_behind, given_then, Read, Complete, Opens, Begun, always, enough_first, enough_then, both, then_any, less, made, expected, taken, on_word, on_first, word_begun, then_begun, either, eaten, introduced, if_word, made_opens, word_opens, then_opens, first_opens, maybe_opens, whether_opens, either_opens}
use Rattle.script_laws.proofs.Readings.Forms.FillingBasics.{Solid, named, names_read, items_fit, word_solid, first_solid}

false_true : false ≡ true → ⊥
false_true e = cc

-- ---- dashes

dash_by : (mode : Mode) (t : Token) (rest : List Token) (o : ℕ) (u : Unit {0}) → (same_kind t.kind k.Minus || same_kind t.kind k.Signed) ≡ true
    → Read mode r.dash (t ∷ rest) rest 0 o u
unfolding r.dash sees head next
dash_by mode t rest o u is = record {
  left = o;
  budget = budget_none mode o;
  is = given (ap (λ b. if b then Ok (tt, record { ahead = rest; operators = o }) else Err (At t.at)) is);
}

or_true : (a : Bool) → (a || true) ≡ true
or_true true = refl
or_true false = refl

-- one token that is a dash
record Dashed (tokens : List Token) (count : ℕ) : Type 0 where
  token : Token
  joined : tokens ≡ token ∷ []
  counted : count ≡ 0
  is : (same_kind token.kind k.Minus || same_kind token.kind k.Signed) ≡ true

dashed_of : (tokens : List Token) (count : ℕ) (u : Unit {0}) → form.dash tokens count u → Dashed tokens count
dashed_of tokens count u (inl said) =
    record { token = said.0; joined = said.1; counted = said.3; is = ap (λ b. b || same_kind (said.0).kind k.Signed) (alike said.2) }
dashed_of tokens count u (inr said) =
    record { token = said.0; joined = said.1; counted = said.3; is = ap (λ b. same_kind (said.0).kind k.Minus || b) (alike said.2) ∙ or_true (same_kind (said.0).kind k.Minus) }

dash_run : (mode : Mode) (prefix rest : List Token) (count o : ℕ) (u : Unit {0}) → form.dash prefix count u → Read mode r.dash (prefix ++ rest) rest count o u
dash_run mode prefix rest count o u said =
    let d = dashed_of prefix count u said in
    subst (λ ts. Read mode r.dash (ts ++ rest) rest count o u) (sym d.joined) (subst (λ n. Read mode r.dash (d.token ∷ rest) rest n o u) (sym d.counted) (dash_by mode d.token rest o u d.is))

dash_read : {mode : Mode} → Complete mode always r.dash form.dash
dash_read {mode = mode} = record { run = λ prefix rest count o u said enough stop. dash_run mode prefix rest count o u said }

-- ---- words of a cascade

-- a token that is no dash
abbrev no_dash : Kind → Bool
no_dash k.Minus = false
no_dash k.Signed = false
no_dash _ = true

sees_no_dash : (y : Kind) → no_dash y ≡ true → (same_kind y k.Minus || same_kind y k.Signed) ≡ false
unfolding same_kind
sees_no_dash k.Minus e = absurd (false_true e)
sees_no_dash k.Signed e = absurd (false_true e)
sees_no_dash _ e = refl

-- the same form, which says another value
resaid : {A B C : Type 0} (g : Form A) (w : B) (f : B → C) (tokens : List Token) (count : ℕ) (v : B) → sequence g (λ _. says w) tokens count v
    → sequence g (λ _. says (f w)) tokens count (f v)
resaid g w f tokens count v said = then_to g (λ _. says w) (λ _. says (f w)) v (f v) (λ _. says_to f) tokens count said

abbrev adds : Cascade → Cascade → Cascade
adds so_far w = form.cascade_union w so_far

abbrev one_word : Kind → Cascade → Form Cascade
one_word kd w = sequence (word kd) (λ _. says w)

abbrev two_words : Kind → Kind → Cascade → Form Cascade
two_words first second w = sequence (sequence (word first) (λ _. sequence form.dash (λ _. word second))) (λ _. says w)

two_begun : (first second : Kind) (w : Cascade) (tokens : List Token) (count : ℕ) (a : Cascade) → two_words first second w tokens count a → Begun first tokens
two_begun first second w tokens count a said =
    then_begun first (sequence (word first) (λ _. sequence form.dash (λ _. word second))) (λ _. says w)
    (then_begun first (word first) (λ _. sequence form.dash (λ _. word second)) (word_begun first)) tokens count a said

two_read : {mode : Mode} (first second : Kind) (w : Cascade) → Complete mode always (take_token >> (r.dash >> expect second) >> pure w) (two_words first second w)
two_read first second w = then_any (then_any (taken first) (λ _. then_any dash_read (λ _. expected second))) (λ _. made w)

-- `delete`, before no dash
deleting_by : (mode : Mode) (so_far : Cascade) (rest : List Token) (o : ℕ) → (same_kind (first_of rest).kind k.Minus || same_kind (first_of rest).kind k.Signed) ≡ false
    → Read mode (r.after_delete so_far) rest rest 0 o (adds so_far delete)
unfolding r.eat_dash sees head next
deleting_by mode so_far rest o is = record {
  left = o;
  budget = budget_none mode o;
  is = given (ap (λ b. (if b then (expect k.Orphan >> pure (adds so_far delete_orphan)) else pure (adds so_far delete))
      (if b then record { ahead = drop 1 rest; operators = o } else record { ahead = rest; operators = o })) is);
}

-- `delete-orphan`
orphan_by : (mode : Mode) (so_far : Cascade) (d : Token) (ts rest : List Token) (n o : ℕ) → (same_kind d.kind k.Minus || same_kind d.kind k.Signed) ≡ true
    → Read mode (expect k.Orphan >> pure (adds so_far delete_orphan)) ts rest n o (adds so_far delete_orphan)
    → Read mode (r.after_delete so_far) (d ∷ ts) rest n o (adds so_far delete_orphan)
unfolding r.eat_dash sees head next
orphan_by mode so_far d ts rest n o is read = record {
  left = read.left;
  budget = read.budget;
  is = given_as (ap (λ b. (if b then (expect k.Orphan >> pure (adds so_far delete_orphan)) else pure (adds so_far delete))
      (if b then record { ahead = ts; operators = o } else record { ahead = d ∷ ts; operators = o })) is) (given_behind read.is);
}

widen : {A : Type 0} {mode : Mode} {t : Kind → Bool} {p : Reader A} {g h : Form A} → Complete mode t p h → ((ts : List Token) (n : ℕ) (a : A) → g ts n a → h ts n a) → Complete mode t p g
widen cp up = record { run = λ prefix rest count o a said enough stop. cp.run prefix rest count o a (up prefix count a said) enough stop }

orphan_run : (mode : Mode) (so_far : Cascade) (prefix rest : List Token) (count o : ℕ) (a : Cascade)
    → sequence form.dash (λ _. sequence (word k.Orphan) (λ _. says (adds so_far delete_orphan))) prefix count a → Enough mode count o
    → Read mode (r.after_delete so_far) (prefix ++ rest) rest count o a
orphan_run mode so_far prefix rest count o a said enough =
    let w = said.1 in
    let d = dashed_of w.prefix w.prefix_count said.0 w.first in
    let is : a ≡ adds so_far delete_orphan = w.second.1.second.2 in
    let tokens : prefix ≡ d.token ∷ w.rest = w.joined ∙ ap (λ ts. ts ++ w.rest) d.joined in
    let counts : w.rest_count ≡ count = omega (arith, w.counted, d.counted) in
    let orphan : Complete mode always (expect k.Orphan >> pure (adds so_far delete_orphan)) (sequence (word k.Orphan) (λ _. says (adds so_far delete_orphan))) =
    then_any (expected k.Orphan) (λ _. made (adds so_far delete_orphan)) in
    let read : Read mode (expect k.Orphan >> pure (adds so_far delete_orphan)) (w.rest ++ rest) rest w.rest_count o a =
    orphan.run w.rest rest w.rest_count o a w.second (subst (λ n. Enough mode n o) (sym counts) enough) refl in
    let read_orphan : Read mode (expect k.Orphan >> pure (adds so_far delete_orphan)) (w.rest ++ rest) rest count o (adds so_far delete_orphan) =
    subst (λ n. Read mode (expect k.Orphan >> pure (adds so_far delete_orphan)) (w.rest ++ rest) rest n o (adds so_far delete_orphan)) counts
    (subst (λ x. Read mode (expect k.Orphan >> pure (adds so_far delete_orphan)) (w.rest ++ rest) rest w.rest_count o x) is read) in
    subst (λ ts. Read mode (r.after_delete so_far) (ts ++ rest) rest count o a) (sym tokens)
    (subst (λ x. Read mode (r.after_delete so_far) (d.token ∷ (w.rest ++ rest)) rest count o x) (sym is) (orphan_by mode so_far d.token (w.rest ++ rest) rest count o d.is read_orphan))

orphan_read : {mode : Mode} (so_far : Cascade) → Complete mode always (r.after_delete so_far) (sequence (sequence form.dash (λ _. word k.Orphan)) (λ _. says (adds so_far delete_orphan)))
orphan_read {mode = mode} so_far =
    widen (record { run = λ prefix rest count o a said enough stop. orphan_run mode so_far prefix rest count o a said enough })
    (regrouped form.dash (λ _. word k.Orphan) (λ _. says (adds so_far delete_orphan)))

delete_run : (mode : Mode) (so_far : Cascade) (prefix rest : List Token) (count o : ℕ) (a : Cascade) → says (adds so_far delete) prefix count a → no_dash (first_of rest).kind ≡ true
    → Read mode (r.after_delete so_far) (prefix ++ rest) rest count o a
delete_run mode so_far prefix rest count o a said stop =
    subst (λ ts. Read mode (r.after_delete so_far) (ts ++ rest) rest count o a) (sym said.0) (subst (λ n. Read mode (r.after_delete so_far) rest rest n o a) (sym said.1)
    (subst (λ x. Read mode (r.after_delete so_far) rest rest 0 o x) (sym said.2) (deleting_by mode so_far rest o (sees_no_dash (first_of rest).kind stop))))

delete_read : {mode : Mode} (so_far : Cascade) → Complete mode no_dash (r.after_delete so_far) (says (adds so_far delete))
delete_read {mode = mode} so_far = record { run = λ prefix rest count o a said enough stop. delete_run mode so_far prefix rest count o a said stop }

word_read : (mode : Mode) (so_far : Cascade) (prefix rest : List Token) (count o : ℕ) (w : Cascade) → form.cascade_word prefix count w → Enough mode count o
    → no_dash (first_of rest).kind ≡ true → Read mode (r.cascade_word so_far) (prefix ++ rest) rest count o (adds so_far w)
unfolding r.cascade_word
word_read mode so_far prefix rest count o w (inl s) enough stop =
    (on_first (r.cascade_by so_far) k.Save (two_begun k.Save k.Update (adds so_far save_update)) (two_read k.Save k.Update (adds so_far save_update))).run prefix rest count o (adds so_far w)
    (resaid (sequence (word k.Save) (λ _. sequence form.dash (λ _. word k.Update))) save_update (adds so_far) prefix count w s) enough refl
word_read mode so_far prefix rest count o w (inr (inl s)) enough stop =
    (on_word (r.cascade_by so_far) k.Merge (then_any (taken k.Merge) (λ _. made (adds so_far merge)))).run prefix rest count o (adds so_far w)
    (resaid (word k.Merge) merge (adds so_far) prefix count w s) enough refl
word_read mode so_far prefix rest count o w (inr (inr (inl s))) enough stop =
    (on_first (r.cascade_by so_far) k.Refresh (two_begun k.Refresh k.Expire (adds so_far refresh_expire)) (two_read k.Refresh k.Expire (adds so_far refresh_expire))).run prefix rest count o (adds so_far w)
    (resaid (sequence (word k.Refresh) (λ _. sequence form.dash (λ _. word k.Expire))) refresh_expire (adds so_far) prefix count w s) enough refl
word_read mode so_far prefix rest count o w (inr (inr (inr (inl s)))) enough stop =
    (on_word (r.cascade_by so_far) k.Expunge (then_any (taken k.Expunge) (λ _. made (adds so_far expunge)))).run prefix rest count o (adds so_far w)
    (resaid (word k.Expunge) expunge (adds so_far) prefix count w s) enough refl
word_read mode so_far prefix rest count o w (inr (inr (inr (inr (inl s))))) enough stop =
    (on_word (r.cascade_by so_far) k.Delete (then_any (taken k.Delete) (λ _. delete_read so_far))).run prefix rest count o (adds so_far w)
    (resaid (word k.Delete) delete (adds so_far) prefix count w s) enough stop
word_read mode so_far prefix rest count o w (inr (inr (inr (inr (inr (inl s)))))) enough stop =
    (on_first (r.cascade_by so_far) k.Delete (two_begun k.Delete k.Orphan (adds so_far delete_orphan))
    (widen (then_any (taken k.Delete) (λ _. orphan_read so_far)) (regrouped (word k.Delete) (λ _. sequence form.dash (λ _. word k.Orphan)) (λ _. says (adds so_far delete_orphan))))).run
    prefix rest count o (adds so_far w) (resaid (sequence (word k.Delete) (λ _. sequence form.dash (λ _. word k.Orphan))) delete_orphan (adds so_far) prefix count w s) enough refl
word_read mode so_far prefix rest count o w (inr (inr (inr (inr (inr (inr (inl s))))))) enough stop =
    (on_word (r.cascade_by so_far) k.All (then_any (taken k.All) (λ _. made (adds so_far all)))).run prefix rest count o (adds so_far w)
    (resaid (word k.All) all (adds so_far) prefix count w s) enough refl
word_read mode so_far prefix rest count o w (inr (inr (inr (inr (inr (inr (inr s))))))) enough stop =
    (on_word (r.cascade_by so_far) k.NoneWord (then_any (taken k.NoneWord) (λ _. made (adds so_far form.none)))).run prefix rest count o (adds so_far w)
    (resaid (word k.NoneWord) form.none (adds so_far) prefix count w s) enough refl

one_solid : (kd : Kind) (w v : Cascade) (tokens : List Token) (count : ℕ) → one_word kd w tokens count v → 1 ≤ length tokens
one_solid kd w v tokens count said =
    let solid : Solid (one_word kd w) = first_solid (word_solid kd) in
    solid.run tokens count v said

two_solid : (first second : Kind) (w v : Cascade) (tokens : List Token) (count : ℕ) → two_words first second w tokens count v → 1 ≤ length tokens
two_solid first second w v tokens count said =
    let solid : Solid (two_words first second w) = first_solid (first_solid (word_solid first)) in
    solid.run tokens count v said

word_solid_by : (tokens : List Token) (count : ℕ) (w : Cascade) → form.cascade_word tokens count w → 1 ≤ length tokens
word_solid_by tokens count w (inl s) = two_solid k.Save k.Update save_update w tokens count s
word_solid_by tokens count w (inr (inl s)) = one_solid k.Merge merge w tokens count s
word_solid_by tokens count w (inr (inr (inl s))) = two_solid k.Refresh k.Expire refresh_expire w tokens count s
word_solid_by tokens count w (inr (inr (inr (inl s)))) = one_solid k.Expunge expunge w tokens count s
word_solid_by tokens count w (inr (inr (inr (inr (inl s))))) = one_solid k.Delete delete w tokens count s
word_solid_by tokens count w (inr (inr (inr (inr (inr (inl s)))))) = two_solid k.Delete k.Orphan delete_orphan w tokens count s
word_solid_by tokens count w (inr (inr (inr (inr (inr (inr (inl s))))))) = one_solid k.All all w tokens count s
word_solid_by tokens count w (inr (inr (inr (inr (inr (inr (inr s))))))) = one_solid k.NoneWord form.none w tokens count s

cascade_word_solid : Solid form.cascade_word
cascade_word_solid = record { run = word_solid_by }

-- ---- words with commas between

-- what may follow a cascade
abbrev behind_cascade : Kind → Bool
behind_cascade k.LineEnd = true
behind_cascade k.PostUpdate = true
behind_cascade _ = false

cascade_no_dash : (y : Kind) → behind_cascade y ≡ true → no_dash y ≡ true
cascade_no_dash k.LineEnd e = refl
cascade_no_dash k.PostUpdate e = refl
cascade_no_dash _ e = absurd (false_true e)

cascade_no_comma : (y : Kind) → behind_cascade y ≡ true → same_kind y k.Comma ≡ false
unfolding same_kind
cascade_no_comma k.LineEnd e = refl
cascade_no_comma k.PostUpdate e = refl
cascade_no_comma _ e = absurd (false_true e)

module _ (mode : Mode) where
  last_by : (n : ℕ) (longer : Cascade) (rest : List Token) (o : ℕ) → same_kind (first_of rest).kind k.Comma ≡ false
      → Read mode (eat k.Comma >>= (λ more. if more then r.cascade_from n longer else pure longer)) rest rest 0 o longer
  unfolding sees after head next
  last_by n longer rest o is = record {
    left = o;
    budget = budget_none mode o;
    is = given (ap (λ b. (if b then r.cascade_from n longer else pure longer) (if b then record { ahead = drop 1 rest; operators = o } else record { ahead = rest; operators = o })) is);
  }

  more_by : (n : ℕ) (longer : Cascade) (t : Token) (ts rest : List Token) (count o : ℕ) (total : Cascade) → t.kind ≡ k.Comma → Read mode (r.cascade_from n longer) ts rest count o total
      → Read mode (eat k.Comma >>= (λ more. if more then r.cascade_from n longer else pure longer)) (t ∷ ts) rest count o total
  unfolding sees after head next
  more_by n longer t ts rest count o total is read = record {
    left = read.left;
    budget = read.budget;
    is = given_as (ap (λ b. (if b then r.cascade_from n longer else pure longer) (if b then record { ahead = ts; operators = o } else record { ahead = t ∷ ts; operators = o })) (alike is)) (given_behind read.is);
  }

  step : (n : ℕ) (so_far longer : Cascade) (fs ys rest : List Token) (l m o : ℕ) (total : Cascade) → (one : Read mode (r.cascade_word so_far) (fs ++ ys) ys l o longer)
      → Read mode (eat k.Comma >>= (λ more. if more then r.cascade_from n longer else pure longer)) ys rest m one.left total → Read mode (r.cascade_from (suc n) so_far) (fs ++ ys) rest (l + m) o total
  unfolding r.cascade_from
  step n so_far longer fs ys rest l m o total one two = record {
    left = two.left;
    budget = budget_more mode l m o one.left two.left one.budget two.budget;
    is = given_then fs ys (λ longer. eat k.Comma >>= (λ more. if more then r.cascade_from n longer else pure longer)) one.is two.is;
  }

  words_from : (n : ℕ) (ws : List Cascade) (so_far : Cascade) (prefix rest : List Token) (count o : ℕ) → length ws ≤ n → separated_list k.Comma form.cascade_word prefix count ws
      → Enough mode count o → behind_cascade (first_of rest).kind ≡ true → Read mode (r.cascade_from n so_far) (prefix ++ rest) rest count o (form.all_of so_far ws)
  words_from n [] so_far prefix rest count o fits said enough stop = absurd said
  words_from zero (w ∷ ws) so_far prefix rest count o fits said enough stop = absurd (omega arith)
  words_from (suc n) (w ∷ []) so_far prefix rest count o fits said enough stop =
      let one = word_read mode so_far prefix rest count o w said enough (cascade_no_dash (first_of rest).kind stop) in
      let counts : count + 0 ≡ count = omega arith in
      subst (λ m. Read mode (r.cascade_from (suc n) so_far) (prefix ++ rest) rest m o (adds so_far w)) counts
      (step n so_far (adds so_far w) prefix rest rest count 0 o (adds so_far w) one (last_by n (adds so_far w) rest one.left (cascade_no_comma (first_of rest).kind stop)))
  words_from (suc n) (w ∷ v ∷ ws) so_far prefix rest count o fits said enough stop =
      let p = said in
      let q = p.second in
      let u = q.first.0 in
      let zero_mark : q.rest_count ≡ p.rest_count = omega (arith, q.counted, q.first.3) in
      let enough_all : Enough mode (p.prefix_count + p.rest_count) o = subst (λ m. Enough mode m o) p.counted enough in
      let tail : p.rest ≡ u ∷ q.rest = q.joined ∙ ap (λ ts. ts ++ q.rest) q.first.1 in
      let tokens : p.prefix ++ (u ∷ (q.rest ++ rest)) ≡ prefix ++ rest =
      ap (λ ts. p.prefix ++ (ts ++ rest)) (sym tail) ∙ sym (append_assoc p.prefix p.rest rest) ∙ ap (λ ts. ts ++ rest) (sym p.joined) in
      let one : Read mode (r.cascade_word so_far) (p.prefix ++ (u ∷ (q.rest ++ rest))) (u ∷ (q.rest ++ rest)) p.prefix_count o (adds so_far w) =
      word_read mode so_far p.prefix (u ∷ (q.rest ++ rest)) p.prefix_count o w p.first (enough_first mode p.prefix_count p.rest_count o enough_all) (ap no_dash q.first.2) in
      let more_enough : Enough mode q.rest_count one.left =
      subst (λ m. Enough mode m one.left) (sym zero_mark) (enough_then mode p.prefix_count p.rest_count o one.left enough_all one.budget) in
      let less_words : length (v ∷ ws) ≤ n = omega arith in
      let rec : Read mode (r.cascade_from n (adds so_far w)) (q.rest ++ rest) rest q.rest_count one.left (form.all_of (adds so_far w) (v ∷ ws)) =
      words_from n (v ∷ ws) (adds so_far w) q.rest rest q.rest_count one.left less_words q.second more_enough stop in
      let two = more_by n (adds so_far w) u (q.rest ++ rest) rest q.rest_count one.left (form.all_of (adds so_far w) (v ∷ ws)) q.first.2 rec in
      let whole : Read mode (r.cascade_from (suc n) so_far) (p.prefix ++ (u ∷ (q.rest ++ rest))) rest (p.prefix_count + q.rest_count) o (form.all_of (adds so_far w) (v ∷ ws)) =
      step n so_far (adds so_far w) p.prefix (u ∷ (q.rest ++ rest)) rest p.prefix_count q.rest_count o (form.all_of (adds so_far w) (v ∷ ws)) one two in
      let counts : p.prefix_count + q.rest_count ≡ count = omega (arith, p.counted) in
      subst (λ ts. Read mode (r.cascade_from (suc n) so_far) ts rest count o (form.all_of (adds so_far w) (v ∷ ws))) tokens
      (subst (λ m. Read mode (r.cascade_from (suc n) so_far) (p.prefix ++ (u ∷ (q.rest ++ rest))) rest m o (form.all_of (adds so_far w) (v ∷ ws))) counts whole)

  cascade_run : (prefix rest : List Token) (count o : ℕ) (a : Cascade) → sequence (separated_list k.Comma form.cascade_word) (λ words. says (form.all_of form.none words)) prefix count a
      → Enough mode count o → behind_cascade (first_of rest).kind ≡ true → Read mode r.cascade (prefix ++ rest) rest count o a
  unfolding r.cascade
  cascade_run prefix rest count o a said enough stop =
      let m = mapped_of (separated_list k.Comma form.cascade_word) (form.all_of form.none) prefix count a said in
      let fits = items_fit k.Comma form.cascade_word cascade_word_solid m.value prefix count m.said in
      let long = length-append prefix rest in
      let read = words_from (length (prefix ++ rest)) m.value form.none prefix rest count o (omega arith) m.said enough stop in
      subst (λ x. Read mode r.cascade (prefix ++ rest) rest count o x) (sym m.is) (record { left = read.left; budget = read.budget; is = read.is })

cascade_read : {mode : Mode} → Complete mode behind_cascade r.cascade (sequence (separated_list k.Comma form.cascade_word) (λ words. says (form.all_of form.none words)))
cascade_read {mode = mode} = record { run = cascade_run mode }

-- ---- the lines

-- what may follow the columns that are used
abbrev behind_using : Kind → Bool
behind_using k.LineEnd = true
behind_using k.PostUpdate = true
behind_using k.Cascade = true
behind_using _ = false

cascade_no_cascade : (y : Kind) → behind_cascade y ≡ true → same_kind y k.Cascade ≡ false
unfolding same_kind
cascade_no_cascade k.LineEnd e = refl
cascade_no_cascade k.PostUpdate e = refl
cascade_no_cascade _ e = absurd (false_true e)

using_no_using : (y : Kind) → behind_using y ≡ true → same_kind y k.Using ≡ false
unfolding same_kind
using_no_using k.LineEnd e = refl
using_no_using k.PostUpdate e = refl
using_no_using k.Cascade e = refl
using_no_using _ e = absurd (false_true e)

cascade_using : (y : Kind) → behind_cascade y ≡ true → behind_using y ≡ true
cascade_using k.LineEnd e = refl
cascade_using k.PostUpdate e = refl
cascade_using _ e = absurd (false_true e)

end_no_post : (y : Kind) → is_end y ≡ true → same_kind y k.PostUpdate ≡ false
unfolding same_kind
end_no_post k.LineEnd e = refl
end_no_post _ e = absurd (false_true e)

end_cascade : (y : Kind) → is_end y ≡ true → behind_cascade y ≡ true
end_cascade k.LineEnd e = refl
end_cascade _ e = absurd (false_true e)

abbrev no_secondary : Kind → Bool
no_secondary k.Secondary = false
no_secondary _ = true

not_secondary : (y : Kind) → no_secondary y ≡ true → same_kind y k.Secondary ≡ false
unfolding same_kind
not_secondary k.Secondary e = absurd (false_true e)
not_secondary _ e = refl

using_read : {mode : Mode} → Complete mode behind_using (r.names_after k.Using) form.using_list
using_read = if_word k.Using [] (less names_read (λ y e. refl)) using_no_using

back_read : {mode : Mode} → Complete mode always r.back form.back
unfolding r.back
back_read =
    either (on_word r.back_by k.Back (then_any (taken k.Back) (λ _. made false))) (on_word r.back_by k.Backref (then_any (taken k.Backref) (λ _. made true)))

back_opens : Opens form.back always no_secondary
back_opens = either_opens (first_opens (word_opens k.Back refl)) (first_opens (word_opens k.Backref refl))

module _ {mode : Mode} (many : Bool) (secondary : Form (Option (List ℕ))) (post_update : Form Bool) (secondary_read : Complete mode no_secondary (r.secondary many) secondary)
    (post_read : Complete mode is_end (r.post_update many) post_update) (post_opens : Opens post_update is_end behind_cascade) where
  sides_read : Complete mode always (r.sides many) (form.sides secondary)
  unfolding r.sides
  sides_read =
      then_any named (λ called. then_any named (λ target. both secondary_read (λ through. then_any back_read (λ back. then_any named (λ partner. made _)))
      (λ through. first_opens back_opens)))

  relation_read : Complete mode is_end (r.relation many) (form.relation many secondary post_update)
  unfolding r.relation r.cascade_if_any
  relation_read =
      then_any sides_read (λ found. both using_read (λ columns. both (introduced k.Cascade cascade_read cascade_no_cascade) (λ words. both post_read (λ post. less (made _) (λ y e. refl))
      (λ post. made_opens _ (λ y e. e)))
      (λ words. then_opens is_end post_opens (λ post. made_opens _ (λ y e. e))))
      (λ columns. then_opens behind_cascade (maybe_opens (first_opens {h = λ _. sequence (separated_list k.Comma form.cascade_word) (λ words. says (form.all_of form.none words))} (word_opens k.Cascade refl)) cascade_using)
      (λ words. then_opens is_end post_opens (λ post. made_opens _ (λ y e. e)))))

no_secondary_read : {mode : Mode} → Complete mode no_secondary (r.secondary false) (says None)
unfolding r.secondary
no_secondary_read = less (made None) (λ y e. refl)

a_secondary_read : {mode : Mode} → Complete mode no_secondary (r.secondary true) (maybe (sequence (word k.Secondary) (λ _. basic.name)))
unfolding r.secondary
a_secondary_read = introduced k.Secondary (less named (λ y e. refl)) not_secondary

no_post_read : {mode : Mode} → Complete mode is_end (r.post_update true) (says false)
unfolding r.post_update
no_post_read = less (made false) (λ y e. refl)

a_post_read : {mode : Mode} → Complete mode is_end (r.post_update false) (whether (word k.PostUpdate))
unfolding r.post_update
a_post_read = eaten k.PostUpdate end_no_post

one_line_read : {mode : Mode} → Complete mode is_end (take_token >> r.relation false) form.one_line
one_line_read =
    then_any (taken k.One) (λ _. relation_read false (says None) (whether (word k.PostUpdate)) no_secondary_read a_post_read (whether_opens (word_opens k.PostUpdate refl) end_cascade))

many_line_read : {mode : Mode} → Complete mode is_end (take_token >> r.relation true) form.many_line
many_line_read =
    then_any (taken k.Many) (λ _. relation_read true (maybe (sequence (word k.Secondary) (λ _. basic.name))) (says false) a_secondary_read no_post_read (made_opens false end_cascade))

validate_read : {mode : Mode} → Complete mode is_end (take_token >> r.validate) form.validate_line
unfolding r.validate
validate_read =
    less (then_any (taken k.Validate) (λ _. then_any named (λ attribute. then_any (expected k.With) (λ _. then_any named (λ hook. made _))))) (λ y e. refl)

pub class_line_read : {mode : Mode} → Complete mode is_end r.class_line form.class_line
unfolding r.class_line
class_line_read =
    either (on_word r.class_line_by k.One one_line_read)
    (either (on_word r.class_line_by k.Many many_line_read)
    (either (on_word r.class_line_by k.Validate validate_read)
    (on_word r.class_line_by k.End (less (then_any (taken k.End) (λ _. made c.End)) (λ y e. refl)))))
