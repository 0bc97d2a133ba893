-- Any number of items are read as their form says.
use Rattle.std.proofs.Common.{◌≡◌, ℕ, zero, suc, ◌+◌, List, [], ◌∷◌, ◌++◌, length, Option, Some, None, Ok, Err, refl, ap, sym, subst, ◌∙◌, append_assoc, append-nil, arith}
use Rattle.script_lex.specs.declared.token.Token.{Token}
use Rattle.script_tokens.specs.declared.fault.Fault.{Fault}
use Rattle.script_tokens.specs.Input.{Input, Outcome, Reader, and_then}
use Rattle.script_tokens.specs.Many.{many_by, many_from}
use Rattle.script_laws.specs.Readings.Forms.Form.{Form, maybe}
use Rattle.script_laws.specs.Readings.Forms.Expressions.{many}
use Rattle.script_laws.proofs.Readings.Forms.Taking.{Mode, Took, Refused, Kept, Whole, Sound}
use Rattle.script_laws.proofs.Readings.Forms.Steps.{whole_rest, budget_none, budget_more, enough_more, begun_by}
use Rattle.script_laws.proofs.Readings.Following.{Follows}

-- the items that were read are behind those found before
Items : {A : Type 0} → Mode → Form A → List A → Input → Outcome (List A) → Type 0
Items {A} c item found i (Ok p) = (more : List A) × (p.0 ≡ found ++ more) × Took c (many item) i more p.1
Items c item found i (Err e) = Refused c (many item) i e

module _ {A : Type 0} (c : Mode) (item : Form A) where
  one_more : (a b : List Token) (m n : ℕ) (x : A) (more : List A) → item a m x → many item b n more → many item (a ++ b) (m + n) (x ∷ more)
  one_more a b m n x more one two = record { prefix = a; rest = b; prefix_count = m; rest_count = n; joined = refl; counted = refl; first = one; second = two }

  behind : (found : List A) (i j : Input) (x : A) → Took c item i x j → (out : Outcome (List A)) → Items c item (found ++ x ∷ []) j out → Items c item found i out
  unfolding Items
  behind found i j x t (Ok q) items =
      let more = items.0 in
      let v = items.2 in (
        x ∷ more,
        items.1 ∙ append_assoc found (x ∷ []) more,
        record {
          prefix = t.prefix ++ v.prefix;
          count = t.count + v.count;
          joined = t.joined ∙ ap (λ ts. t.prefix ++ ts) v.joined ∙ sym (append_assoc t.prefix v.prefix q.1.ahead);
          budget = budget_more c t.count v.count i.operators j.operators q.1.operators t.budget v.budget;
          said = one_more t.prefix v.prefix t.count v.count x more t.said v.said;
        },
      )
  behind found i j x t (Err e) r = record {
    before = t.prefix ++ r.before;
    behind = r.behind;
    joined = t.joined ∙ ap (λ ts. t.prefix ++ ts) r.joined ∙ sym (append_assoc t.prefix r.before r.behind);
    done = record {
      more = r.done.more;
      count = t.count + r.done.count;
      value = x ∷ r.done.value;
      enough = enough_more c t.count r.done.count i.operators j.operators t.budget r.done.enough;
      said = subst (λ ts. many item ts (t.count + r.done.count) (x ∷ r.done.value)) (sym (append_assoc t.prefix r.before r.done.more))
          (one_more t.prefix (r.before ++ r.done.more) t.count r.done.count x r.done.value t.said r.done.said);
    };
    stands = r.stands;
  }

  list_of : Option A → List A
  list_of None = []
  list_of (Some x) = x ∷ []

  said_of : (ts : List Token) (n : ℕ) (o : Option A) → maybe item ts n o → many item ts n (list_of o)
  unfolding list_of
  said_of ts n None s = s
  said_of ts n (Some x) s = record { prefix = ts; rest = []; prefix_count = n; rest_count = 0; joined = sym (append-nil ts); counted = omega arith; first = s; second = (refl, refl) }

  -- the item that is begun may be the last
  begun : (i : Input) (e : Fault) → Refused c (maybe item) i e → Refused c (many item) i e
  begun i e r =
      begun_by r (record {
        more = r.done.more;
        count = r.done.count;
        value = list_of r.done.value;
        enough = r.done.enough;
        said = said_of (r.before ++ r.done.more) r.done.count r.done.value r.done.said;
      })

  module _ (turn : Reader (Option A)) where
    taken : (n : ℕ) (found : List A) (i : Input) → Whole i.ahead → ((found : List A) (j : Input) → Whole j.ahead → Items c item found j (many_from turn n found j))
        → (o : Option A) (j : Input) → Took c (maybe item) i o j → Items c item found i (many_by (many_from turn n) found o j)
    unfolding Items
    taken n found i whole rec None j t = ([], sym (append-nil found), record { prefix = t.prefix; count = t.count; joined = t.joined; budget = t.budget; said = t.said })
    taken n found i whole rec (Some x) j t =
        behind found i j x (record { prefix = t.prefix; count = t.count; joined = t.joined; budget = t.budget; said = t.said }) (many_from turn n (found ++ x ∷ []) j)
        (rec (found ++ x ∷ []) j (whole_rest t.prefix j.ahead (subst Whole t.joined whole)))

    by_turn : (n : ℕ) (found : List A) (i : Input) → Whole i.ahead → ((found : List A) (j : Input) → Whole j.ahead → Items c item found j (many_from turn n found j))
        → (out : Outcome (Option A)) → Kept c (maybe item) i out → Items c item found i (and_then out (many_by (many_from turn n) found))
    unfolding Items
    by_turn n found i whole rec (Ok p) t = taken n found i whole rec p.0 p.1 t
    by_turn n found i whole rec (Err e) r = begun i e r

    items_by : Sound c turn (maybe item) → (n : ℕ) (found : List A) (i : Input) → Whole i.ahead → Items c item found i (many_from turn n found i)
    unfolding Items many_from
    items_by st zero found i whole = ([], sym (append-nil found), record { prefix = []; count = 0; joined = refl; budget = budget_none c i.operators; said = (refl, refl) })
    items_by st (suc n) found i whole = by_turn n found i whole (items_by st n) (turn i) (st.run i whole)

  all_of : (i : Input) (out : Outcome (List A)) → Items c item [] i out → Kept c (many item) i out
  unfolding Items
  all_of i (Ok p) items = subst (λ all. Took c (many item) i all p.1) (sym items.1) items.2
  all_of i (Err e) r = r

pub all_read : {A : Type 0} {c : Mode} {turn : Reader (Option A)} {item : Form A} → Follows c turn (maybe item) → Follows c (λ i. many_from turn (length i.ahead) [] i) (many item)
all_read {c = c} {turn = turn} {item = item} one = record {
  sound = record { run = λ i whole. all_of c item i (many_from turn (length i.ahead) [] i) (items_by c item turn one.sound (length i.ahead) [] i whole) };
  some = record { tokens = []; value = []; said = (refl, refl) };
}
