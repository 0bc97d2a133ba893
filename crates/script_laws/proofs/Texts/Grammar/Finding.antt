-- Words are found where they stand.
use Rattle.std.proofs.Common.{◌≡◌, ℕ, ◌++◌, ◌==◌, Bool, true, false, cond, List, [], ◌∷◌, Option, Some, None, codes, refl, sym, ap, subst, ◌∙◌, unwrap_or}
use Rattle.std.proofs.lemmas.Bool.{eq-eqb, eqb-true, and_parts}
use Rattle.base_core.specs.declared.dialect.Dialect.{Dialect}
use Rattle.base_core.specs.declared.dialect.Dialect.TheVariants.{Sqlite, Postgresql, Mysql}
use Rattle.sql_text.specs.Words.{null_word, in_word, empty_word, between_word}
use Rattle.script_laws.specs.Texts.Grammar.Trees.{Test, Equal, NotEqual, Less, LessEqual, Greater, GreaterEqual, Like, Ilike, Distinct, Sign, Plus, Minus, Beside}
use Rattle.script_laws.specs.Texts.Grammar.Words.{test_word, sign_word}
use Rattle.script_laws.specs.Texts.Grammar.Reads.{Level, Either, Both, Opposite, Tested, Added, Multiplied, Signed, Operand, tighter}
use Rattle.script_laws.proofs.Texts.Grammar.Reader.{after, find, tails, Tail, ends, nulls, empties, lists, ranges, signs, stops, is_none}

-- ---- words

pub after_self : (word rest : List ℕ) → after word (word ++ rest) ≡ Some rest
after_self [] rest = refl
after_self (c ∷ cs) rest = ap (λ b. cond b (after cs (cs ++ rest)) None) (eq-eqb c c refl) ∙ after_self cs rest

-- no word that begins with this byte begins the text
abbrev pub Lacks : ℕ → List ℕ → Type 0
Lacks c text = (word : List ℕ) → after (c ∷ word) text ≡ None

pub lacks : (c d : ℕ) (text : List ℕ) → (c == d) ≡ false → Lacks c (d ∷ text)
lacks c d text other word = ap (λ b. cond b (after word text) None) other

-- a byte of one kind is none of another
pub other_byte : (is : ℕ → Bool) (c d : ℕ) → is c ≡ false → is d ≡ true → (c == d) ≡ false
other_byte is c d out within = by (c == d) refl
  where
    by : (b : Bool) → (c == d) ≡ b → (c == d) ≡ false
    by false same = same
    by true same = absurd (true_false (sym within ∙ (ap is (sym (eqb-true c d same)) ∙ out)))
      where
        true_false : true ≡ false → ⊥
        true_false e = cc

pub none_is : {A : Type 0} (o : Option A) → is_none o ≡ true → o ≡ None
none_is None e = refl
none_is (Some a) e = absurd (cc)

-- a word that is known
pub by_word : (P : List ℕ → Type 0) (w word : List ℕ) → Some w ≡ Some word → P w → P word
by_word P w word same p = subst P (ap (λ (o : Option (List ℕ)). unwrap_or o []) same) p

pub no_word : {A : Type 0} (word : List ℕ) → ◌≡◌ {A = Option (List ℕ)} None (Some word) → A
no_word word same = absurd (cc)

-- ---- what stands behind a sum

-- the word is found with what is behind it, and no sum goes on with it
abbrev pub IsFound : Dialect → Tail → List ℕ → List ℕ → Type 0
IsFound q tail word rest = (find (tails q) (word ++ rest) ≡ Some (tail, rest)) × (stops q Added (word ++ rest) ≡ true)

distinct_found : (q : Dialect) (negated : Bool) (word rest : List ℕ) → test_word q (Distinct negated) ≡ Some word → Lacks 78 rest → IsFound q (ends (Distinct negated)) word rest
unfolding tails stops signs
distinct_found Sqlite false word rest is free = by_word (λ w. IsFound Sqlite (ends (Distinct false)) w rest) _ word is (rw (free (codes "ULL")) refl, refl)
distinct_found Sqlite true word rest is free =
    by_word (λ w. IsFound Sqlite (ends (Distinct true)) w rest) _ word is (rw (free (codes "OT NULL"), free (codes "ULL"), free (codes "OT ")) refl, refl)
distinct_found Postgresql false word rest is free = by_word (λ w. IsFound Postgresql (ends (Distinct false)) w rest) _ word is (refl, refl)
distinct_found Postgresql true word rest is free = by_word (λ w. IsFound Postgresql (ends (Distinct true)) w rest) _ word is (refl, refl)
distinct_found Mysql false word rest is free = no_word word is
distinct_found Mysql true word rest is free = by_word (λ w. IsFound Mysql (ends (Distinct true)) w rest) _ word is (refl, refl)

ilike_found : (q : Dialect) (negated : Bool) (word rest : List ℕ) → test_word q (Ilike negated) ≡ Some word → IsFound q (ends (Ilike negated)) word rest
unfolding tails stops signs
ilike_found Sqlite negated word rest is = no_word word is
ilike_found Postgresql false word rest is = by_word (λ w. IsFound Postgresql (ends (Ilike false)) w rest) _ word is (refl, refl)
ilike_found Postgresql true word rest is = by_word (λ w. IsFound Postgresql (ends (Ilike true)) w rest) _ word is (refl, refl)
ilike_found Mysql negated word rest is = no_word word is

-- what holds in each dialect
pub in_each : (P : Dialect → Type 0) → P Sqlite → P Postgresql → P Mysql → (q : Dialect) → P q
in_each P a b c Sqlite = a
in_each P a b c Postgresql = b
in_each P a b c Mysql = c

pub test_found : (q : Dialect) (by : Test) (word rest : List ℕ) → test_word q by ≡ Some word → Lacks 78 rest → IsFound q (ends by) word rest
unfolding tails stops signs
test_found q Equal word rest is free = by_word (λ w. IsFound q (ends Equal) w rest) _ word is (in_each (λ d. IsFound d (ends Equal) (codes " = ") rest) (refl, refl) (refl, refl) (refl, refl) q)
test_found q NotEqual word rest is free = by_word (λ w. IsFound q (ends NotEqual) w rest) _ word is (in_each (λ d. IsFound d (ends NotEqual) (codes " != ") rest) (refl, refl) (refl, refl) (refl, refl) q)
test_found q Less word rest is free = by_word (λ w. IsFound q (ends Less) w rest) _ word is (in_each (λ d. IsFound d (ends Less) (codes " < ") rest) (refl, refl) (refl, refl) (refl, refl) q)
test_found q LessEqual word rest is free = by_word (λ w. IsFound q (ends LessEqual) w rest) _ word is (in_each (λ d. IsFound d (ends LessEqual) (codes " <= ") rest) (refl, refl) (refl, refl) (refl, refl) q)
test_found q Greater word rest is free = by_word (λ w. IsFound q (ends Greater) w rest) _ word is (in_each (λ d. IsFound d (ends Greater) (codes " > ") rest) (refl, refl) (refl, refl) (refl, refl) q)
test_found q GreaterEqual word rest is free = by_word (λ w. IsFound q (ends GreaterEqual) w rest) _ word is (in_each (λ d. IsFound d (ends GreaterEqual) (codes " >= ") rest) (refl, refl) (refl, refl) (refl, refl) q)
test_found q (Like false) word rest is free = by_word (λ w. IsFound q (ends (Like false)) w rest) _ word is (in_each (λ d. IsFound d (ends (Like false)) (codes " LIKE ") rest) (refl, refl) (refl, refl) (refl, refl) q)
test_found q (Like true) word rest is free = by_word (λ w. IsFound q (ends (Like true)) w rest) _ word is (in_each (λ d. IsFound d (ends (Like true)) (codes " NOT LIKE ") rest) (refl, refl) (refl, refl) (refl, refl) q)
test_found q (Ilike negated) word rest is free = ilike_found q negated word rest is
test_found q (Distinct negated) word rest is free = distinct_found q negated word rest is free

pub nulls_found : (q : Dialect) (negated : Bool) (rest : List ℕ) → IsFound q (nulls negated) (null_word negated) rest
unfolding tails stops signs
nulls_found q false rest = in_each (λ d. IsFound d (nulls false) (null_word false) rest) (refl, refl) (refl, refl) (refl, refl) q
nulls_found q true rest = in_each (λ d. IsFound d (nulls true) (null_word true) rest) (refl, refl) (refl, refl) (refl, refl) q

pub empties_found : (q : Dialect) (negated : Bool) (rest : List ℕ) → IsFound q (empties negated) (empty_word negated) rest
unfolding tails stops signs
empties_found q false rest = in_each (λ d. IsFound d (empties false) (empty_word false) rest) (refl, refl) (refl, refl) (refl, refl) q
empties_found q true rest = in_each (λ d. IsFound d (empties true) (empty_word true) rest) (refl, refl) (refl, refl) (refl, refl) q

pub lists_found : (q : Dialect) (negated : Bool) (rest : List ℕ) → Lacks 78 rest → IsFound q (lists negated) (in_word negated) rest
unfolding tails stops signs
lists_found q false rest free = in_each (λ d. IsFound d (lists false) (in_word false) rest) (rw (free (codes "ULL) AND 1 != 1")) refl, refl) (rw (free (codes "ULL) AND 1 != 1")) refl, refl) (rw (free (codes "ULL) AND 1 != 1")) refl, refl) q
lists_found q true rest free = in_each (λ d. IsFound d (lists true) (in_word true) rest) (rw (free (codes "ULL) OR 1 = 1")) refl, refl) (rw (free (codes "ULL) OR 1 = 1")) refl, refl) (rw (free (codes "ULL) OR 1 = 1")) refl, refl) q

pub ranges_found : (q : Dialect) (negated : Bool) (rest : List ℕ) → IsFound q (ranges negated) (between_word negated) rest
unfolding tails stops signs
ranges_found q false rest = in_each (λ d. IsFound d (ranges false) (between_word false) rest) (refl, refl) (refl, refl) (refl, refl) q
ranges_found q true rest = in_each (λ d. IsFound d (ranges true) (between_word true) rest) (refl, refl) (refl, refl) (refl, refl) q

-- ---- signs

-- the sign is found with what is behind it, and no product goes on with it
abbrev pub IsSign : Dialect → Sign → List ℕ → List ℕ → Type 0
IsSign q by word rest = (find (signs q) (word ++ rest) ≡ Some (by, rest)) × (stops q Multiplied (word ++ rest) ≡ true)

pub sign_found : (q : Dialect) (by : Sign) (word rest : List ℕ) → sign_word q by ≡ Some word → IsSign q by word rest
unfolding stops signs
sign_found q Plus word rest is = by_word (λ w. IsSign q Plus w rest) _ word is (refl, refl)
sign_found q Minus word rest is = by_word (λ w. IsSign q Minus w rest) _ word is (refl, refl)
sign_found Sqlite Beside word rest is = by_word (λ w. IsSign Sqlite Beside w rest) _ word is (refl, refl)
sign_found Postgresql Beside word rest is = by_word (λ w. IsSign Postgresql Beside w rest) _ word is (refl, refl)
sign_found Mysql Beside word rest is = no_word word is

-- ---- what goes on with no looser level goes on with no tighter one

pub stops_tighter : (q : Dialect) (l : Level) (rest : List ℕ) → stops q l rest ≡ true → stops q (tighter l) rest ≡ true
unfolding stops
stops_tighter q Operand rest h = h
stops_tighter q Signed rest h = h
stops_tighter q Multiplied rest h = (and_parts _ _ h).0
stops_tighter q Added rest h = (and_parts _ _ h).0
stops_tighter q Tested rest h = (and_parts _ _ h).0
stops_tighter q Opposite rest h = h
stops_tighter q Both rest h = (and_parts _ _ h).0
stops_tighter q Either rest h = (and_parts _ _ h).0

pub no_product : (q : Dialect) (rest : List ℕ) → stops q Multiplied rest ≡ true → after (codes " * ") rest ≡ None
unfolding stops
no_product q rest h = none_is _ (and_parts _ _ h).1

pub no_sign : (q : Dialect) (rest : List ℕ) → stops q Added rest ≡ true → find (signs q) rest ≡ None
unfolding stops
no_sign q rest h = none_is _ (and_parts _ _ h).1

pub no_tail : (q : Dialect) (rest : List ℕ) → stops q Tested rest ≡ true → find (tails q) rest ≡ None
unfolding stops
no_tail q rest h = none_is _ (and_parts _ _ h).1

pub no_and : (q : Dialect) (rest : List ℕ) → stops q Both rest ≡ true → after (codes " AND ") rest ≡ None
unfolding stops
no_and q rest h = none_is _ (and_parts _ _ h).1

pub no_or : (q : Dialect) (rest : List ℕ) → stops q Either rest ≡ true → after (codes " OR ") rest ≡ None
unfolding stops
no_or q rest h = none_is _ (and_parts _ _ h).1

-- ---- words that end a text of a level

pub sum_and : (q : Dialect) (rest : List ℕ) → stops q Added (codes " AND " ++ rest) ≡ true
unfolding stops signs tails
sum_and q rest = in_each (λ d. stops d Added (codes " AND " ++ rest) ≡ true) refl refl refl q

pub opposite_and : (q : Dialect) (rest : List ℕ) → stops q Opposite (codes " AND " ++ rest) ≡ true
unfolding stops signs tails
opposite_and q rest = in_each (λ d. stops d Opposite (codes " AND " ++ rest) ≡ true) refl refl refl q

pub both_or : (q : Dialect) (rest : List ℕ) → stops q Both (codes " OR " ++ rest) ≡ true
unfolding stops signs tails
both_or q rest = in_each (λ d. stops d Both (codes " OR " ++ rest) ≡ true) refl refl refl q

pub either_comma : (q : Dialect) (rest : List ℕ) → stops q Either (codes ", " ++ rest) ≡ true
unfolding stops signs tails
either_comma q rest = in_each (λ d. stops d Either (codes ", " ++ rest) ≡ true) refl refl refl q

pub either_close : (q : Dialect) (rest : List ℕ) → stops q Either (codes ")" ++ rest) ≡ true
unfolding stops signs tails
either_close q rest = in_each (λ d. stops d Either (codes ")" ++ rest) ≡ true) refl refl refl q

pub tested_close : (q : Dialect) (rest : List ℕ) → stops q Tested (codes ")" ++ rest) ≡ true
unfolding stops signs tails
tested_close q rest = in_each (λ d. stops d Tested (codes ")" ++ rest) ≡ true) refl refl refl q

pub ended : (q : Dialect) (l : Level) → stops q l [] ≡ true
unfolding stops signs tails
ended q Either = in_each (λ d. stops d Either [] ≡ true) refl refl refl q
ended q Both = in_each (λ d. stops d Both [] ≡ true) refl refl refl q
ended q Opposite = in_each (λ d. stops d Opposite [] ≡ true) refl refl refl q
ended q Tested = in_each (λ d. stops d Tested [] ≡ true) refl refl refl q
ended q Added = in_each (λ d. stops d Added [] ≡ true) refl refl refl q
ended q Multiplied = in_each (λ d. stops d Multiplied [] ≡ true) refl refl refl q
ended q Signed = in_each (λ d. stops d Signed [] ≡ true) refl refl refl q
ended q Operand = in_each (λ d. stops d Operand [] ≡ true) refl refl refl q
