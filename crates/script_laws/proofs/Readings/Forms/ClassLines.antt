-- Lines of the block of a class are read as their forms say.
use Rattle.std.proofs.Common.{◌≡◌, ℕ, zero, suc, ◌+◌, Bool, true, false, ◌||◌, if◌then◌else◌, List, [], ◌∷◌, ◌++◌, drop, length, Option, None, Ok, Err, refl, ap, sym, subst, ◌∙◌, inl, inr}
use Rattle.class_types.specs.declared.declared.Cascade.{Cascade}
use Rattle.script_types.specs.declared.command.Command.TheVariants as c
use Rattle.script_lex.specs.declared.kind.Kind.{Kind}
use Rattle.script_lex.specs.declared.kind.Kind.TheVariants as k
use Rattle.script_lex.specs.declared.token.Token.{Token}
use Rattle.script_lex.specs.Lex.{same_kind}
use Rattle.script_tokens.proofs.Alike.{same}
use Rattle.script_tokens.specs.declared.fault.Fault.TheVariants.{At}
use Rattle.script_tokens.specs.Input.{Input, Outcome, ◌>>=◌, ◌>>◌, and_then, pure, expect, eat, take_token, head, kind, next, sees, after, first_of}
use Rattle.script_blocks.specs.Classes as r
use Rattle.script_laws.specs.Readings.Forms.Form.{Form, sequence, says, word, maybe, whether, separated_list}
use Rattle.script_laws.specs.Readings.Forms.Basics as basic
use Rattle.script_laws.specs.Readings.Forms.ClassLines as form
use Rattle.script_laws.proofs.Readings.Forms.Taking.{Mode, Took, Refused, Kept, Out, Whole, Sound, Inhabited}
use Rattle.script_laws.proofs.Readings.Forms.Steps.{whole_rest, whole_next, budget_more, begun_by, both, both_taken, both_refused, made, some_both, some_made, some_left, some_right, some_word, left_of, right_of, refused_here, refused_at, is_end, expected, taken_by, taken_at, behind_word, on_kind}
use Rattle.script_laws.proofs.Readings.Forms.Sequences.{then_value, then_says}
use Rattle.script_laws.proofs.Readings.Forms.Options.{if_word, introduced, eaten}
use Rattle.script_laws.proofs.Readings.Forms.Lists.{refused_first, refused_item, more_items, joined_three, some_list}
use Rattle.script_laws.proofs.Readings.Forms.Basics.{named, some_name, names_read}

-- ---- dashes

some_dash : Inhabited form.dash
some_dash = some_left (some_word k.Minus)

dash_taken : {m : Mode} (xs : List Token) (o : ℕ) (minus signed : Bool) → same_kind (first_of xs).kind k.Minus ≡ minus → same_kind (first_of xs).kind k.Signed ≡ signed
    → (minus || signed) ≡ true → Took m form.dash (record { ahead = xs; operators = o }) tt (record { ahead = drop 1 xs; operators = o })
dash_taken {m = m} xs o true signed is _ seen =
    let t : Took m (word k.Minus) (record { ahead = xs; operators = o }) tt (record { ahead = drop 1 xs; operators = o }) = taken_by k.Minus refl xs o (same is) in
    record { prefix = t.prefix; count = t.count; joined = t.joined; budget = t.budget; said = inl t.said }
dash_taken {m = m} xs o false true _ is seen =
    let t : Took m (word k.Signed) (record { ahead = xs; operators = o }) tt (record { ahead = drop 1 xs; operators = o }) = taken_by k.Signed refl xs o (same is) in
    record { prefix = t.prefix; count = t.count; joined = t.joined; budget = t.budget; said = inr t.said }
dash_taken xs o false false _ _ seen = absurd (false_true seen)
  where
    false_true : false ≡ true → ⊥
    false_true e = cc

dash_by : (m : Mode) (xs : List Token) (o : ℕ) (b : Bool) → (same_kind (first_of xs).kind k.Minus || same_kind (first_of xs).kind k.Signed) ≡ b
    → Kept m form.dash (record { ahead = xs; operators = o }) (if b then Ok (tt, record { ahead = drop 1 xs; operators = o }) else Err (At (first_of xs).at))
unfolding head
dash_by m xs o true seen = dash_taken xs o (same_kind (first_of xs).kind k.Minus) (same_kind (first_of xs).kind k.Signed) refl refl seen
dash_by m xs o false seen = refused_here _ (record { ahead = xs; operators = o }) some_dash

dash_read : {m : Mode} → Sound m r.dash form.dash
unfolding r.dash sees head next
dash_read = record { run = λ i whole. dash_by _ i.ahead i.operators (same_kind (first_of i.ahead).kind k.Minus || same_kind (first_of i.ahead).kind k.Signed) refl }

-- ---- words of a cascade

some_cascade_word : Inhabited form.cascade_word
some_cascade_word = some_right (some_left (some_both (some_word k.Merge) (λ _. some_made _)))

-- one word, joined with what was so far
WordKept : Mode → Cascade → Input → Outcome Cascade → Type 0
WordKept m so_far i (Ok p) = (w : Cascade) × (p.0 ≡ form.cascade_union w so_far) × Took m form.cascade_word i w p.1
WordKept m so_far i (Err e) = Refused m form.cascade_word i e

-- tokens that stand for a word, and the word
word_after : (m : Mode) (g : Form (Unit {0})) (w so_far : Cascade) → ((ts : List Token) (n : ℕ) → sequence g (λ _. says w) ts n w → form.cascade_word ts n w) → (i : Input)
    → (out : Outcome (Unit {0})) → Kept m g i out → WordKept m so_far i (and_then out (λ _. pure (form.cascade_union w so_far)))
unfolding WordKept
word_after m g w so_far up i (Ok p) t =
    (w, refl, record { prefix = t.prefix; count = t.count; joined = t.joined; budget = t.budget; said = up t.prefix t.count (then_says g w t.prefix t.count p.0 t.said) })
word_after m g w so_far up i (Err e) r =
    begun_by r (record {
      more = r.done.more;
      count = r.done.count;
      value = w;
      enough = r.done.enough;
      said = up (r.before ++ r.done.more) r.done.count (then_says g w (r.before ++ r.done.more) r.done.count r.done.value r.done.said);
    })

-- `first-second`
dashed_kept : (m : Mode) (first second : Kind) → is_end first ≡ false → is_end second ≡ false → (i : Input) → Whole i.ahead → kind i ≡ first
    → Kept m (sequence (word first) (λ _. sequence form.dash (λ _. word second))) i (and_then (take_token i) (λ _. r.dash >> expect second))
dashed_kept m first second one two i whole is =
    (behind_word first one (both dash_read (λ _. expected second two) (λ _. some_word second)) (some_both some_dash (λ _. some_word second)) i whole is).kept

abbrev pub save_update : Cascade
save_update = record form.none { save_update = true }

abbrev pub merge : Cascade
merge = record form.none { merge = true }

abbrev pub refresh_expire : Cascade
refresh_expire = record form.none { refresh_expire = true }

abbrev pub expunge : Cascade
expunge = record form.none { expunge = true }

abbrev pub delete : Cascade
delete = record form.none { delete = true }

abbrev pub delete_orphan : Cascade
delete_orphan = record form.none { delete_orphan = true }

abbrev pub all : Cascade
all = record { save_update = true; merge = true; refresh_expire = true; expunge = true; delete = true; delete_orphan = false }

orphan_by : (m : Mode) (so_far : Cascade) (i j : Input) → Whole j.ahead → Took m (word k.Delete) i tt j → (b : Bool)
    → (same_kind (first_of j.ahead).kind k.Minus || same_kind (first_of j.ahead).kind k.Signed) ≡ b
    → WordKept m so_far i ((if b then (expect k.Orphan >> pure (form.cascade_union delete_orphan so_far)) else pure (form.cascade_union delete so_far))
    (if b then record { ahead = drop 1 j.ahead; operators = j.operators } else j))
unfolding WordKept
orphan_by m so_far i j whole t true seen =
    let l : Input = record { ahead = drop 1 j.ahead; operators = j.operators } in
    let u : Took m form.dash j tt l =
    dash_taken j.ahead j.operators (same_kind (first_of j.ahead).kind k.Minus) (same_kind (first_of j.ahead).kind k.Signed) refl refl seen in
    word_after _ (sequence (word k.Delete) (λ _. sequence form.dash (λ _. word k.Orphan))) delete_orphan so_far (λ ts n s. inr (inr (inr (inr (inr (inl s)))))) i (expect k.Orphan l)
    (both_taken m (word k.Delete) (λ _. sequence form.dash (λ _. word k.Orphan)) i tt j t (expect k.Orphan l)
    (both_taken m form.dash (λ _. word k.Orphan) j tt l u (expect k.Orphan l) ((expected k.Orphan refl).run l (whole_next j.ahead whole))))
orphan_by m so_far i j whole t false seen = (
  delete,
  refl,
  record {
    prefix = t.prefix;
    count = t.count;
    joined = t.joined;
    budget = t.budget;
    said = inr (inr (inr (inr (inl (then_says (word k.Delete) delete t.prefix t.count tt t.said)))));
  },
)

word_by : (m : Mode) (so_far : Cascade) (kd : Kind) (i : Input) → Whole i.ahead → kind i ≡ kd → WordKept m so_far i (r.cascade_by so_far kd i)
unfolding WordKept r.eat_dash sees head next
word_by m so_far k.Save i whole is =
    word_after _ (sequence (word k.Save) (λ _. sequence form.dash (λ _. word k.Update))) save_update so_far (λ ts n s. inl s) i (and_then (take_token i) (λ _. r.dash >> expect k.Update))
    (dashed_kept _ k.Save k.Update refl refl i whole is)
word_by m so_far k.Merge i whole is = word_after _ (word k.Merge) merge so_far (λ ts n s. inr (inl s)) i (take_token i) (taken_at _ k.Merge refl i is)
word_by m so_far k.Refresh i whole is =
    word_after _ (sequence (word k.Refresh) (λ _. sequence form.dash (λ _. word k.Expire))) refresh_expire so_far (λ ts n s. inr (inr (inl s))) i
    (and_then (take_token i) (λ _. r.dash >> expect k.Expire)) (dashed_kept _ k.Refresh k.Expire refl refl i whole is)
word_by m so_far k.Expunge i whole is = word_after _ (word k.Expunge) expunge so_far (λ ts n s. inr (inr (inr (inl s)))) i (take_token i) (taken_at _ k.Expunge refl i is)
word_by m so_far k.Delete i whole is =
    orphan_by _ so_far i (record { ahead = drop 1 i.ahead; operators = i.operators }) (whole_next i.ahead whole) (taken_at _ k.Delete refl i is)
    (same_kind (first_of (drop 1 i.ahead)).kind k.Minus || same_kind (first_of (drop 1 i.ahead)).kind k.Signed) refl
word_by m so_far k.All i whole is = word_after _ (word k.All) all so_far (λ ts n s. inr (inr (inr (inr (inr (inr (inl s))))))) i (take_token i) (taken_at _ k.All refl i is)
word_by m so_far k.NoneWord i whole is =
    word_after _ (word k.NoneWord) form.none so_far (λ ts n s. inr (inr (inr (inr (inr (inr (inr s))))))) i (take_token i) (taken_at _ k.NoneWord refl i is)
word_by m so_far _ i whole is = refused_here _ i some_cascade_word

word_read : (m : Mode) (so_far : Cascade) (i : Input) → Whole i.ahead → WordKept m so_far i (r.cascade_word so_far i)
unfolding r.cascade_word
word_read m so_far i whole = word_by _ so_far (kind i) i whole refl

-- ---- words with commas between

WordsKept : Mode → Cascade → Input → Outcome Cascade → Type 0
WordsKept m so_far i (Ok p) = (words : List Cascade) × (p.0 ≡ form.all_of so_far words) × Took m (separated_list k.Comma form.cascade_word) i words p.1
WordsKept m so_far i (Err e) = Refused m (separated_list k.Comma form.cascade_word) i e

behind : (m : Mode) (so_far longer : Cascade) (i j l : Input) (w : Cascade) → longer ≡ form.cascade_union w so_far → Took m form.cascade_word i w j → Took m (word k.Comma) j tt l
    → (out : Outcome Cascade) → WordsKept m longer l out → WordsKept m so_far i out
unfolding WordsKept
behind m so_far longer i j l w is t u (Ok q) words =
    let more = words.0 in
    let v = words.2 in (
      w ∷ more,
      words.1 ∙ ap (λ x. form.all_of x more) is,
      record {
        prefix = t.prefix ++ (u.prefix ++ v.prefix);
        count = t.count + (u.count + v.count);
        joined = t.joined ∙ ap (λ ts. t.prefix ++ ts) (u.joined ∙ ap (λ ts. u.prefix ++ ts) v.joined) ∙ joined_three t.prefix u.prefix v.prefix q.1.ahead;
        budget = budget_more m t.count (u.count + v.count) i.operators j.operators q.1.operators t.budget
            (budget_more m u.count v.count j.operators l.operators q.1.operators u.budget v.budget);
        said = more_items k.Comma form.cascade_word t.prefix u.prefix v.prefix t.count u.count v.count w more t.said u.said v.said;
      },
    )
behind m so_far longer i j l w is t u (Err e) r = refused_item k.Comma w t u r

by_mark : (m : Mode) (n : ℕ) (so_far longer : Cascade) (i : Input) (w : Cascade) (xs : List Token) (o : ℕ) → longer ≡ form.cascade_union w so_far
    → Took m form.cascade_word i w (record { ahead = xs; operators = o }) → Whole xs → ((so_far : Cascade) (j : Input) → Whole j.ahead → WordsKept m so_far j (r.cascade_from n so_far j))
    → (b : Bool) → same_kind (first_of xs).kind k.Comma ≡ b
    → WordsKept m so_far i ((if b then r.cascade_from n longer else pure longer) (if b then record { ahead = drop 1 xs; operators = o } else record { ahead = xs; operators = o }))
unfolding WordsKept
by_mark m n so_far longer i w xs o is t whole rec true seen =
    let j : Input = record { ahead = xs; operators = o } in
    let l : Input = record { ahead = drop 1 xs; operators = o } in
    behind _ so_far longer i j l w is t (taken_by k.Comma refl xs o (same seen)) (r.cascade_from n longer l) (rec longer l (whole_next xs whole))
by_mark m n so_far longer i w xs o is t whole rec false seen =
    (w ∷ [], is, record { prefix = t.prefix; count = t.count; joined = t.joined; budget = t.budget; said = t.said })

by_word : (m : Mode) (n : ℕ) (so_far : Cascade) (i : Input) → Whole i.ahead → ((so_far : Cascade) (j : Input) → Whole j.ahead → WordsKept m so_far j (r.cascade_from n so_far j))
    → (out : Outcome Cascade) → WordKept m so_far i out
    → WordsKept m so_far i (and_then out (λ longer. eat k.Comma >>= (λ more. if more then r.cascade_from n longer else pure longer)))
unfolding WordKept WordsKept sees after head next
by_word m n so_far i whole rec (Ok p) word =
    let t = word.2 in
    by_mark _ n so_far p.0 i word.0 p.1.ahead p.1.operators word.1 t (whole_rest t.prefix p.1.ahead (subst Whole t.joined whole)) rec (same_kind (first_of p.1.ahead).kind k.Comma) refl
by_word m n so_far i whole rec (Err e) r = refused_first k.Comma r

words_by : (m : Mode) (n : ℕ) (so_far : Cascade) (i : Input) → Whole i.ahead → WordsKept m so_far i (r.cascade_from n so_far i)
unfolding WordsKept r.cascade_from head
words_by m zero so_far i whole = refused_here _ i (some_list k.Comma some_cascade_word)
words_by m (suc n) so_far i whole = by_word _ n so_far i whole (words_by _ n) (r.cascade_word so_far i) (word_read _ so_far i whole)

abbrev words_form : Form Cascade
words_form = sequence (separated_list k.Comma form.cascade_word) (λ words. says (form.all_of form.none words))

all_words : (m : Mode) (i : Input) (out : Outcome Cascade) → WordsKept m form.none i out → Kept m words_form i out
unfolding WordsKept
all_words m i (Ok p) words =
    let t = words.2 in
    subst (λ x. Took m words_form i x p.1) (sym words.1) (record {
      prefix = t.prefix;
      count = t.count;
      joined = t.joined;
      budget = t.budget;
      said = then_value (separated_list k.Comma form.cascade_word) (form.all_of form.none) t.prefix t.count words.0 t.said;
    })
all_words m i (Err e) r =
    both_refused m (separated_list k.Comma form.cascade_word) (λ words. says (form.all_of form.none words)) i e (λ words. some_made (form.all_of form.none words)) r

cascade_read : {m : Mode} → Sound m r.cascade words_form
unfolding r.cascade
cascade_read = record { run = λ i whole. all_words _ i (r.cascade_from (length i.ahead) form.none i) (words_by _ (length i.ahead) form.none i whole) }

-- ---- the lines

some_back : Inhabited form.back
some_back = some_left (some_both (some_word k.Back) (λ _. some_made false))

back_by : {m : Mode} (kd : Kind) (i : Input) → Whole i.ahead → kind i ≡ kd → Out m form.back i (r.back_by kd i)
back_by k.Back i whole is = left_of (behind_word k.Back refl (made false) (some_made false) i whole is)
back_by k.Backref i whole is = right_of (behind_word k.Backref refl (made true) (some_made true) i whole is)
back_by _ i whole is = refused_at some_back i

back_read : {m : Mode} → Sound m r.back form.back
unfolding r.back
back_read = on_kind r.back_by back_by

using_read : {m : Mode} → Sound m (r.names_after k.Using) form.using_list
using_read = if_word k.Using [] refl names_read (λ ts n a s. inl s) (inr (refl, refl, refl))

some_using : Inhabited form.using_list
some_using = some_right (some_made [])

cascade_if_any_read : {m : Mode} → Sound m r.cascade_if_any form.cascade
unfolding r.cascade_if_any
cascade_if_any_read = introduced k.Cascade refl cascade_read

some_maybe : {A : Type 0} (g : Form A) → Inhabited (maybe g)
some_maybe g = record { tokens = []; value = None; said = (refl, refl) }

some_whether : (g : Form (Unit {0})) → Inhabited (whether g)
some_whether g = record { tokens = []; value = false; said = (refl, refl) }

module _ {m : Mode} (many : Bool) (secondary : Form (Option (List ℕ))) (post_update : Form Bool)
    (secondary_read : Sound m (r.secondary many) secondary) (some_secondary : Inhabited secondary)
    (post_read : Sound m (r.post_update many) post_update) (some_post : Inhabited post_update) where
  sides_read : Sound m (r.sides many) (form.sides secondary)
  unfolding r.sides
  sides_read =
      both named (λ called. both named (λ target. both secondary_read (λ through. both back_read (λ back. both named (λ partner. made _) (λ partner. some_made _))
      (λ back. some_both some_name (λ partner. some_made _)))
      (λ through. some_both some_back (λ back. some_both some_name (λ partner. some_made _))))
      (λ target. some_both some_secondary (λ through. some_both some_back (λ back. some_both some_name (λ partner. some_made _)))))
      (λ called. some_both some_name (λ target. some_both some_secondary (λ through. some_both some_back (λ back. some_both some_name (λ partner. some_made _)))))

  some_sides : Inhabited (form.sides secondary)
  some_sides =
      some_both some_name (λ called. some_both some_name (λ target. some_both some_secondary (λ through. some_both some_back (λ back. some_both some_name (λ partner. some_made _)))))

  relation_read : Sound m (r.relation many) (form.relation many secondary post_update)
  unfolding r.relation
  relation_read =
      both sides_read (λ found. both using_read (λ columns. both cascade_if_any_read (λ words. both post_read (λ post. made _) (λ post. some_made _))
      (λ words. some_both some_post (λ post. some_made _)))
      (λ columns. some_both (some_maybe (sequence (word k.Cascade) (λ _. words_form))) (λ words. some_both some_post (λ post. some_made _))))
      (λ found. some_both some_using (λ columns. some_both (some_maybe (sequence (word k.Cascade) (λ _. words_form))) (λ words. some_both some_post (λ post. some_made _))))

  some_relation : Inhabited (form.relation many secondary post_update)
  some_relation =
      some_both some_sides (λ found. some_both some_using (λ columns. some_both (some_maybe (sequence (word k.Cascade) (λ _. words_form))) (λ words. some_both some_post (λ post. some_made _))))

no_secondary : {m : Mode} → Sound m (r.secondary false) (says None)
unfolding r.secondary
no_secondary = made None

a_secondary : {m : Mode} → Sound m (r.secondary true) (maybe (sequence (word k.Secondary) (λ _. basic.name)))
unfolding r.secondary
a_secondary = introduced k.Secondary refl named

no_post_update : {m : Mode} → Sound m (r.post_update true) (says false)
unfolding r.post_update
no_post_update = made false

a_post_update : {m : Mode} → Sound m (r.post_update false) (whether (word k.PostUpdate))
unfolding r.post_update
a_post_update = eaten k.PostUpdate refl

pub some_class_line : Inhabited form.class_line
some_class_line = some_right (some_right (some_right (some_both (some_word k.End) (λ _. some_made c.End))))

line_by : {m : Mode} (kd : Kind) (i : Input) → Whole i.ahead → kind i ≡ kd → Out m form.class_line i (r.class_line_by kd i)
unfolding r.validate
line_by k.End i whole is = right_of (right_of (right_of (behind_word k.End refl (made c.End) (some_made c.End) i whole is)))
line_by k.Validate i whole is =
    right_of (right_of (left_of (behind_word k.Validate refl
    (both named (λ attribute. both (expected k.With refl) (λ _. both named (λ hook. made _) (λ hook. some_made _)) (λ _. some_both some_name (λ hook. some_made _)))
    (λ attribute. some_both (some_word k.With) (λ _. some_both some_name (λ hook. some_made _))))
    (some_both some_name (λ attribute. some_both (some_word k.With) (λ _. some_both some_name (λ hook. some_made _)))) i whole is)))
line_by {m = m} k.One i whole is =
    left_of (behind_word k.One refl
    (relation_read false (says None) (whether (word k.PostUpdate)) no_secondary (some_made None) a_post_update (some_whether (word k.PostUpdate)))
    (some_relation {m = m} false (says None) (whether (word k.PostUpdate)) no_secondary (some_made None) a_post_update (some_whether (word k.PostUpdate))) i whole is)
line_by {m = m} k.Many i whole is =
    right_of (left_of (behind_word k.Many refl
    (relation_read true (maybe (sequence (word k.Secondary) (λ _. basic.name))) (says false) a_secondary (some_maybe (sequence (word k.Secondary) (λ _. basic.name))) no_post_update (some_made false))
    (some_relation {m = m} true (maybe (sequence (word k.Secondary) (λ _. basic.name))) (says false) a_secondary (some_maybe (sequence (word k.Secondary) (λ _. basic.name))) no_post_update (some_made false)) i whole is))
line_by _ i whole is = refused_at some_class_line i

pub class_line_read : {m : Mode} → Sound m r.class_line form.class_line
unfolding r.class_line
class_line_read = on_kind r.class_line_by line_by
