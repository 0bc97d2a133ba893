-- The steps of a select over multiplied rows: what is kept of them, and what they give, is what is kept of the rows and what these give,
-- with the first refusal met.
use Rattle.std.proofs.Common.{◌≡◌, ◌<◌, arith, Bool, true, false, cond, List, [], ◌∷◌, ◌++◌, map, length, Ok, Err, refl, sym, ap, ◌∙◌, append_assoc, append-nil}
use Rattle.std.specs.List.{AllByRecursion, flat_map}
use Rattle.std.proofs.lemmas.List.Concat.{flat_map-append}
use Rattle.base_core.specs.declared.value.Value.{Value}
use Rattle.sql_semantics.specs.Checked.{Checked, ◌>>=◌}
use Rattle.sql_semantics.specs.Truth.{passes}
use Rattle.sql_semantics.specs.Rows.{kept_from, mapped_from}
use Rattle.loading_laws.specs.Wide.Parts.{is_true}
use Rattle.loading_laws.proofs.Wide.Wider.{alike_then, regrouped}

-- what is asked twice is asked once
once : {A B : Type 0} (told : Checked A) (g : A → A → Checked B) → (told >>= λ v. told >>= λ w. g v w) ≡ (told >>= λ v. g v v)
once (Ok v) g = refl
once (Err e) g = refl

-- ---- what an answer has, if there is one

abbrev pub HasAnswer : {A : Type 0} → (A → Type 0) → Checked A → Type 0
HasAnswer P (Ok x) = P x
HasAnswer P (Err e) = Unit {0}

pub alike_where : {A B : Type 0} (P : A → Type 0) (told : Checked A) (f g : A → Checked B) → HasAnswer P told → ((x : A) → P x → f x ≡ g x) → (told >>= f) ≡ (told >>= g)
alike_where P (Ok x) f g has same = same x has
alike_where P (Err e) f g has same = refl

pub has_then : {A B : Type 0} (P : A → Type 0) (Q : B → Type 0) (told : Checked A) (f : A → Checked B) → HasAnswer P told → ((x : A) → P x → HasAnswer Q (f x)) → HasAnswer Q (told >>= f)
has_then P Q (Ok x) f has more = more x has
has_then P Q (Err e) f has more = tt

all_more : {A : Type 0} (P : A → Type 0) (b : Bool) (done : List A) (x : A) → AllByRecursion P done → P x → AllByRecursion P (cond b (done ++ x ∷ []) done)
all_more P true [] x h p = (p, tt)
all_more P true (y ∷ done) x h p = (h.0, all_more P true done x h.1 p)
all_more P false done x h p = h

-- what is kept has what follows from what all have, and from the test
pub kept_have : {A : Type 0} (P Q : A → Type 0) (test : A → Checked Value) → ((x : A) → P x → is_true (test x) ≡ true → Q x) → (done rows : List A) → AllByRecursion Q done → AllByRecursion P rows
    → HasAnswer (AllByRecursion Q) (kept_from test done rows)
kept_have P Q test gives done [] h g = h
kept_have {A = A} P Q test gives done (x ∷ rows) h g = by (test x) refl (λ now k. kept_have P Q test gives now rows k g.1)
  where
    kept_by : (v : Value) (b : Bool) → passes v ≡ b → test x ≡ Ok v → AllByRecursion Q (cond b (done ++ x ∷ []) done)
    kept_by v true is told = all_more Q true done x h (gives x g.0 (ap is_true told ∙ is))
    kept_by v false is told = h

    by : (told : Checked Value) → test x ≡ told → ((now : List A) → AllByRecursion Q now → HasAnswer (AllByRecursion Q) (kept_from test now rows))
        → HasAnswer (AllByRecursion Q) (told >>= λ v. kept_from test (cond (passes v) (done ++ x ∷ []) done) rows)
    by (Ok v) is more = more (cond (passes v) (done ++ x ∷ []) done) (kept_by v (passes v) refl is)
    by (Err e) is more = tt

pub mapped_have : {A B : Type 0} (P : A → Type 0) (Q : B → Type 0) (f : A → Checked B) → ((x : A) → P x → HasAnswer Q (f x)) → (done : List B) (xs : List A) → AllByRecursion Q done → AllByRecursion P xs → HasAnswer (AllByRecursion Q) (mapped_from f done xs)
mapped_have P Q f gives done [] h g = h
mapped_have P Q f gives done (x ∷ xs) h g =
    has_then Q (AllByRecursion Q) (f x) (λ y. mapped_from f (done ++ y ∷ []) xs) (gives x g.0) (λ y q. mapped_have P Q f gives (done ++ y ∷ []) xs (all_more Q true done y h q) g.1)

-- ---- rows that are made of others

pub kept_made : {A B : Type 0} (make : A → B) (test : B → Checked Value) (other : A → Checked Value) (P : A → Type 0) → ((x : A) → P x → test (make x) ≡ other x) → (done rows : List A) → AllByRecursion P rows
    → kept_from test (map make done) (map make rows) ≡ (kept_from other done rows >>= λ kept. Ok (map make kept))
kept_made make test other P same done [] h = refl
kept_made {A = A} {B = B} make test other P same done (x ∷ rows) h =
    ap (λ (told : Checked Value). told >>= λ v. kept_from test (cond (passes v) (map make done ++ make x ∷ []) (map make done)) (map make rows)) (same x h.0)
    ∙ alike_then (other x) _ _ (λ v. ap (λ (d : List B). kept_from test d (map make rows)) (one_more (passes v)) ∙ kept_made make test other P same (cond (passes v) (done ++ x ∷ []) done) rows h.1)
    ∙ sym (regrouped (other x) (λ v. kept_from other (cond (passes v) (done ++ x ∷ []) done) rows) (λ kept. Ok (map make kept)))
  where
    map_end : (xs : List A) (y : A) → map make xs ++ make y ∷ [] ≡ map make (xs ++ y ∷ [])
    map_end [] y = refl
    map_end (z ∷ xs) y = ap (λ (l : List B). make z ∷ l) (map_end xs y)

    one_more : (b : Bool) → cond b (map make done ++ make x ∷ []) (map make done) ≡ map make (cond b (done ++ x ∷ []) done)
    one_more true = map_end done x
    one_more false = refl

-- ---- rows that are multiplied

-- under the keys of each row all that it gives
abbrev pub shown_all : {A B C K : Type 0} → (A → List B) → (B → C) → List (K × A) → List (K × C)
shown_all partners show rows = flat_map (λ o. map (λ x. (o.0, x)) (map show (partners o.1))) rows

module _ {A B : Type 0} (partners : A → List B) where
  module _ (test : A → Checked Value) (wide : B → Checked Value) where
    -- a row gives some, and the test of each is the test of the row
    pub record Tests (a : A) : Type 0 where
      pub some : 0 < length (partners a)
      pub each : AllByRecursion (λ b. wide b ≡ test a) (partners a)

    joined_again : (v : Value) (done : List B) (b : B) (bs : List B) → cond (passes v) (cond (passes v) (done ++ b ∷ []) done ++ bs) (cond (passes v) (done ++ b ∷ []) done) ≡ cond (passes v) (done ++ b ∷ bs) done
    joined_again v done b bs = by (passes v)
      where
        by : (c : Bool) → cond c (cond c (done ++ b ∷ []) done ++ bs) (cond c (done ++ b ∷ []) done) ≡ cond c (done ++ b ∷ bs) done
        by true = append_assoc done (b ∷ []) bs
        by false = refl

    kept_part : (r : Checked Value) (b : B) (bs : List B) → AllByRecursion (λ x. wide x ≡ r) (b ∷ bs) → (done rest : List B)
        → kept_from wide done ((b ∷ bs) ++ rest) ≡ (r >>= λ v. kept_from wide (cond (passes v) (done ++ b ∷ bs) done) rest)
    kept_part r b [] h done rest = ap (λ (q : Checked Value). q >>= λ v. kept_from wide (cond (passes v) (done ++ b ∷ []) done) rest) h.0
    kept_part r b (c ∷ bs) h done rest =
        ap (λ (q : Checked Value). q >>= λ v. kept_from wide (cond (passes v) (done ++ b ∷ []) done) ((c ∷ bs) ++ rest)) h.0
        ∙ alike_then r _ _ (λ v. kept_part r c bs h.1 (cond (passes v) (done ++ b ∷ []) done) rest)
        ∙ once r (λ v w. kept_from wide (cond (passes w) (cond (passes v) (done ++ b ∷ []) done ++ c ∷ bs) (cond (passes v) (done ++ b ∷ []) done)) rest)
        ∙ alike_then r _ _ (λ v. ap (λ d. kept_from wide d rest) (joined_again v done b (c ∷ bs)))

    kept_some : (r : Checked Value) (bs : List B) → 0 < length bs → AllByRecursion (λ x. wide x ≡ r) bs → (done rest : List B)
        → kept_from wide done (bs ++ rest) ≡ (r >>= λ v. kept_from wide (cond (passes v) (done ++ bs) done) rest)
    kept_some r [] some h done rest = absurd (omega (arith, some))
    kept_some r (b ∷ bs) some h done rest = kept_part r b bs h done rest

    one_more : (b : Bool) (done : List A) (a : A) → cond b (flat_map partners done ++ partners a) (flat_map partners done) ≡ flat_map partners (cond b (done ++ a ∷ []) done)
    one_more true done a = ap (λ (l : List B). flat_map partners done ++ l) (sym (append-nil (partners a))) ∙ sym (flat_map-append partners done (a ∷ []))
    one_more false done a = refl

    pub kept_multiplied : (done rows : List A) → AllByRecursion Tests rows → kept_from wide (flat_map partners done) (flat_map partners rows) ≡ (kept_from test done rows >>= λ kept. Ok (flat_map partners kept))
    kept_multiplied done [] h = refl
    kept_multiplied done (a ∷ rows) h =
        kept_some (test a) (partners a) h.0.some h.0.each (flat_map partners done) (flat_map partners rows)
        ∙ alike_then (test a) _ _ (λ v. ap (λ d. kept_from wide d (flat_map partners rows)) (one_more (passes v) done a) ∙ kept_multiplied (cond (passes v) (done ++ a ∷ []) done) rows h.1)
        ∙ sym (regrouped (test a) (λ v. kept_from test (cond (passes v) (done ++ a ∷ []) done) rows) (λ kept. Ok (flat_map partners kept)))

  -- ---- what they give under keys

  module _ {K C : Type 0} (keys : A → Checked K) (show : B → C) (out : B → Checked (K × C)) where
    abbrev keyed : K → C → Checked (K × C)
    keyed ks row = Ok (ks, row)

    abbrev raw : K → A → Checked (K × A)
    raw ks a = Ok (ks, a)

    pub record Ranks (a : A) : Type 0 where
      pub some : 0 < length (partners a)
      pub each : AllByRecursion (λ b. out b ≡ (keys a >>= λ ks. keyed ks (show b))) (partners a)

    abbrev shown_under : K → List B → List (K × C)
    shown_under ks bs = map (λ x. (ks, x)) (map show bs)

    ranked_part : (r : Checked K) (b : B) (bs : List B) → AllByRecursion (λ x. out x ≡ (r >>= λ ks. keyed ks (show x))) (b ∷ bs) → (done : List (K × C)) (rest : List B)
        → mapped_from out done ((b ∷ bs) ++ rest) ≡ (r >>= λ ks. mapped_from out (done ++ shown_under ks (b ∷ bs)) rest)
    ranked_part r b [] h done rest =
        ap (λ (q : Checked (K × C)). q >>= λ y. mapped_from out (done ++ y ∷ []) rest) h.0 ∙ regrouped r (λ ks. keyed ks (show b)) (λ y. mapped_from out (done ++ y ∷ []) rest)
    ranked_part r b (c ∷ bs) h done rest =
        ap (λ (q : Checked (K × C)). q >>= λ y. mapped_from out (done ++ y ∷ []) ((c ∷ bs) ++ rest)) h.0
        ∙ regrouped r (λ ks. keyed ks (show b)) (λ y. mapped_from out (done ++ y ∷ []) ((c ∷ bs) ++ rest))
        ∙ alike_then r _ _ (λ ks. ranked_part r c bs h.1 (done ++ (ks, show b) ∷ []) rest)
        ∙ once r (λ ks ls. mapped_from out ((done ++ (ks, show b) ∷ []) ++ shown_under ls (c ∷ bs)) rest)
        ∙ alike_then r _ _ (λ ks. ap (λ d. mapped_from out d rest) (append_assoc done ((ks, show b) ∷ []) (shown_under ks (c ∷ bs))))

    ranked_some : (r : Checked K) (bs : List B) → 0 < length bs → AllByRecursion (λ x. out x ≡ (r >>= λ ks. keyed ks (show x))) bs → (done : List (K × C)) (rest : List B)
        → mapped_from out done (bs ++ rest) ≡ (r >>= λ ks. mapped_from out (done ++ shown_under ks bs) rest)
    ranked_some r [] some h done rest = absurd (omega (arith, some))
    ranked_some r (b ∷ bs) some h done rest = ranked_part r b bs h done rest

    abbrev all_under : List (K × A) → List (K × C)
    all_under = shown_all partners show

    pub ranked_multiplied : (done : List (K × A)) (rows : List A) → AllByRecursion Ranks rows
        → mapped_from out (all_under done) (flat_map partners rows) ≡ (mapped_from (λ a. keys a >>= λ ks. raw ks a) done rows >>= λ outs. Ok (all_under outs))
    ranked_multiplied done [] h = refl
    ranked_multiplied done (a ∷ rows) h =
        ranked_some (keys a) (partners a) h.0.some h.0.each (all_under done) (flat_map partners rows)
        ∙ alike_then (keys a) _ _ (λ ks. ap (λ d. mapped_from out d (flat_map partners rows))
        (ap (λ (l : List (K × C)). all_under done ++ l) (sym (append-nil (shown_under ks (partners a))))
        ∙ sym (flat_map-append (λ (o : K × A). map (λ x. (o.0, x)) (map show (partners o.1))) done ((ks, a) ∷ [])))
        ∙ ranked_multiplied (done ++ (ks, a) ∷ []) rows h.1)
        ∙ sym (regrouped (keys a) (λ ks. mapped_from (λ a. keys a >>= λ ks. raw ks a) (done ++ (ks, a) ∷ []) rows) (λ outs. Ok (all_under outs)))
        ∙ ap (λ (q : Checked (List (K × A))). q >>= λ outs. Ok (all_under outs)) (sym (regrouped (keys a) (λ ks. raw ks a) (λ y. mapped_from (λ a. keys a >>= λ ks. raw ks a) (done ++ y ∷ []) rows)))
