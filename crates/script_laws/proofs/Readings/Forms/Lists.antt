-- Items with a mark between are read as their form says.
use Rattle.std.proofs.Common.{◌≡◌, ℕ, zero, suc, ◌+◌, Bool, true, false, if◌then◌else◌, List, [], ◌∷◌, ◌++◌, drop, length, Ok, Err, refl, ap, sym, subst, ◌∙◌, append_assoc}
use Rattle.script_lex.specs.declared.kind.Kind.{Kind}
use Rattle.script_lex.specs.declared.token.Token.{Token}
use Rattle.script_lex.specs.Lex.{same_kind}
use Rattle.script_tokens.proofs.Alike.{same}
use Rattle.script_tokens.specs.declared.fault.Fault.{Fault}
use Rattle.script_tokens.specs.Input.{Input, Outcome, Reader, ◌>>=◌, and_then, pure, eat, head, next, sees, after, first_of, separated_from}
use Rattle.script_laws.specs.Readings.Forms.Form.{Form, sequence, says, word, separated_list}
use Rattle.script_laws.proofs.Readings.Forms.Taking.{Mode, Took, Refused, Kept, Whole, Sound, Inhabited}
use Rattle.script_laws.proofs.Readings.Forms.Sequences.{then_value}
use Rattle.script_laws.proofs.Readings.Forms.Steps.{whole_rest, whole_next, budget_more, enough_more, begun_by, both_refused, some_made, is_end, taken_by, refused_here}

pub some_list : {A : Type 0} (mark : Kind) {item : Form A} → Inhabited item → Inhabited (separated_list mark item)
some_list mark w = record { tokens = w.tokens; value = w.value ∷ []; said = w.said }

-- an item, a mark and more items
pub joined_three : (a b c d : List Token) → a ++ (b ++ (c ++ d)) ≡ (a ++ (b ++ c)) ++ d
joined_three a b c d = ap (λ ts. a ++ ts) (sym (append_assoc b c d)) ∙ sym (append_assoc a (b ++ c) d)

pub more_items : {A : Type 0} (mark : Kind) (item : Form A) (a b rest : List Token) (l m n : ℕ) (x : A) (more : List A) → item a l x → word mark b m tt
    → separated_list mark item rest n more → separated_list mark item (a ++ (b ++ rest)) (l + (m + n)) (x ∷ more)
more_items mark item a b rest l m n x [] one two three = absurd three
more_items mark item a b rest l m n x (y ∷ ys) one two three = record {
  prefix = a;
  rest = b ++ rest;
  prefix_count = l;
  rest_count = m + n;
  joined = refl;
  counted = refl;
  first = one;
  second = record { prefix = b; rest = rest; prefix_count = m; rest_count = n; joined = refl; counted = refl; first = two; second = three };
}

-- refused in the first item
pub refused_first : {A : Type 0} {c : Mode} (mark : Kind) {item : Form A} {i : Input} {e : Fault} → Refused c item i e → Refused c (separated_list mark item) i e
refused_first mark r =
    begun_by r (record { more = r.done.more; count = r.done.count; value = r.done.value ∷ []; enough = r.done.enough; said = r.done.said })

-- refused behind an item and a mark
pub refused_item : {A : Type 0} {c : Mode} (mark : Kind) {item : Form A} {i j m : Input} {e : Fault} (x : A) → Took c item i x j → Took c (word mark) j tt m
    → Refused c (separated_list mark item) m e → Refused c (separated_list mark item) i e
refused_item {c = c} mark {item = item} {i = i} {j = j} {m = m} x t u r = record {
  before = t.prefix ++ (u.prefix ++ r.before);
  behind = r.behind;
  joined = t.joined ∙ ap (λ ts. t.prefix ++ ts) (u.joined ∙ ap (λ ts. u.prefix ++ ts) r.joined) ∙ joined_three t.prefix u.prefix r.before r.behind;
  done = record {
    more = r.done.more;
    count = t.count + (u.count + r.done.count);
    value = x ∷ r.done.value;
    enough = enough_more c t.count (u.count + r.done.count) i.operators j.operators t.budget (enough_more c u.count r.done.count j.operators m.operators u.budget r.done.enough);
    said = subst (λ ts. separated_list mark item ts (t.count + (u.count + r.done.count)) (x ∷ r.done.value)) (joined_three t.prefix u.prefix r.before r.done.more)
        (more_items mark item t.prefix u.prefix (r.before ++ r.done.more) t.count u.count r.done.count x r.done.value t.said u.said r.done.said);
  };
  stands = r.stands;
}

-- the items that were read are behind those found before
Items : {A : Type 0} → Mode → Kind → Form A → List A → Input → Outcome (List A) → Type 0
Items {A} c mark item found i (Ok p) = (more : List A) × (p.0 ≡ found ++ more) × Took c (separated_list mark item) i more p.1
Items c mark item found i (Err e) = Refused c (separated_list mark item) i e

module _ {A : Type 0} (c : Mode) (mark : Kind) (not_end : is_end mark ≡ false) (item : Reader A) (form : Form A) where
  behind : (found : List A) (i j m : Input) (x : A) → Took c form i x j → Took c (word mark) j tt m → (out : Outcome (List A)) → Items c mark form (found ++ x ∷ []) m out
      → Items c mark form found i out
  unfolding Items
  behind found i j m x t u (Ok q) items =
      let more = items.0 in
      let v = items.2 in (
        x ∷ more,
        items.1 ∙ append_assoc found (x ∷ []) more,
        record {
          prefix = t.prefix ++ (u.prefix ++ v.prefix);
          count = t.count + (u.count + v.count);
          joined = t.joined ∙ ap (λ ts. t.prefix ++ ts) (u.joined ∙ ap (λ ts. u.prefix ++ ts) v.joined) ∙ joined_three t.prefix u.prefix v.prefix q.1.ahead;
          budget = budget_more c t.count (u.count + v.count) i.operators j.operators q.1.operators t.budget
              (budget_more c u.count v.count j.operators m.operators q.1.operators u.budget v.budget);
          said = more_items mark form t.prefix u.prefix v.prefix t.count u.count v.count x more t.said u.said v.said;
        },
      )
  behind found i j m x t u (Err e) r = refused_item mark x t u r

  by_mark : (n : ℕ) (found : List A) (i : Input) (x : A) (xs : List Token) (o : ℕ) → Took c form i x (record { ahead = xs; operators = o }) → Whole xs
      → ((found : List A) (j : Input) → Whole j.ahead → Items c mark form found j (separated_from mark item n found j))
      → (b : Bool) → same_kind (first_of xs).kind mark ≡ b
      → Items c mark form found i ((if b then separated_from mark item n (found ++ x ∷ []) else pure (found ++ x ∷ [])) (if b then record { ahead = drop 1 xs; operators = o } else record { ahead = xs; operators = o }))
  unfolding Items
  by_mark n found i x xs o t whole rec true is =
      let j : Input = record { ahead = xs; operators = o } in
      let m : Input = record { ahead = drop 1 xs; operators = o } in
      behind found i j m x t (taken_by mark not_end xs o (same is)) (separated_from mark item n (found ++ x ∷ []) m) (rec (found ++ x ∷ []) m (whole_next xs whole))
  by_mark n found i x xs o t whole rec false is =
      (x ∷ [], refl, record { prefix = t.prefix; count = t.count; joined = t.joined; budget = t.budget; said = t.said })

  by_item : (n : ℕ) (found : List A) (i : Input) → Whole i.ahead
      → ((found : List A) (j : Input) → Whole j.ahead → Items c mark form found j (separated_from mark item n found j))
      → (out : Outcome A) → Kept c form i out
      → Items c mark form found i (and_then out (λ x. eat mark >>= (λ more. if more then separated_from mark item n (found ++ x ∷ []) else pure (found ++ x ∷ []))))
  unfolding Items sees after head next
  by_item n found i whole rec (Ok p) t =
      by_mark n found i p.0 p.1.ahead p.1.operators t (whole_rest t.prefix p.1.ahead (subst Whole t.joined whole)) rec (same_kind (first_of p.1.ahead).kind mark) refl
  by_item n found i whole rec (Err e) r = refused_first mark r

  items_by : Sound c item form → Inhabited form → (n : ℕ) (found : List A) (i : Input) → Whole i.ahead → Items c mark form found i (separated_from mark item n found i)
  unfolding Items separated_from head
  items_by sp any zero found i whole = refused_here _ i (some_list mark any)
  items_by sp any (suc n) found i whole = by_item n found i whole (items_by sp any n) (item i) (sp.run i whole)

  all_of : (i : Input) (out : Outcome (List A)) → Items c mark form [] i out → Kept c (separated_list mark form) i out
  unfolding Items
  all_of i (Ok p) items = subst (λ all. Took c (separated_list mark form) i all p.1) (sym items.1) items.2
  all_of i (Err e) r = r

pub listed : {A : Type 0} {c : Mode} (mark : Kind) {item : Reader A} {form : Form A} → is_end mark ≡ false → Sound c item form → Inhabited form
    → Sound c (λ i. separated_from mark item (length i.ahead) [] i) (separated_list mark form)
listed {c = c} mark {item = item} {form = form} not_end sp any =
    record { run = λ i whole. all_of c mark not_end item form i (separated_from mark item (length i.ahead) [] i) (items_by c mark not_end item form sp any (length i.ahead) [] i whole) }

-- the items behind one that was found before
behind_one : {A : Type 0} (c : Mode) (mark : Kind) (form : Form A) (first : A) (i : Input) (out : Outcome (List A)) → Items c mark form (first ∷ []) i out
    → Kept c (sequence (separated_list mark form) (λ more. says (first ∷ more))) i out
unfolding Items
behind_one c mark form first i (Ok p) items =
    let t = items.2 in
    subst (λ all. Took c (sequence (separated_list mark form) (λ more. says (first ∷ more))) i all p.1) (sym items.1) (record {
      prefix = t.prefix;
      count = t.count;
      joined = t.joined;
      budget = t.budget;
      said = then_value (separated_list mark form) (λ more. first ∷ more) t.prefix t.count items.0 t.said;
    })
behind_one c mark form first i (Err e) r = both_refused c (separated_list mark form) (λ more. says (first ∷ more)) i e (λ more. some_made (first ∷ more)) r

pub listed_behind : {A : Type 0} {c : Mode} (mark : Kind) {item : Reader A} {form : Form A} → is_end mark ≡ false → Sound c item form → Inhabited form → (first : A)
    → Sound c (λ i. separated_from mark item (length i.ahead) (first ∷ []) i) (sequence (separated_list mark form) (λ more. says (first ∷ more)))
listed_behind {c = c} mark {item = item} {form = form} not_end sp any first = record {
  run = λ i whole.
      behind_one c mark form first i (separated_from mark item (length i.ahead) (first ∷ []) i)
      (items_by c mark not_end item form sp any (length i.ahead) (first ∷ []) i whole);
}
