-- A limit and an offset are told by their text and values.
use Rattle.std.proofs.Common.{◌≡◌, ℕ, ◌++◌, List, [], ◌∷◌, Option, Some, None, codes, refl, sym, ap, ◌∙◌, append-nil}
use Rattle.base_core.specs.declared.value.Value.{Value}
use Rattle.base_core.specs.declared.dialect.Dialect.{Dialect}
use Rattle.base_core.specs.declared.dialect.Dialect.TheVariants.{Sqlite, Postgresql, Mysql}
use Rattle.script_laws.specs.Texts.Grammar.Reads.{IsMark}
use Rattle.script_laws.proofs.Texts.Grammar.Reader.{after, mark_in}
use Rattle.script_laws.proofs.Texts.Grammar.Naming.{mark_read}
use Rattle.script_laws.specs.Texts.Forms.Clauses.{Cut, no_cut, limit_alone, sqlite_offset, postgresql_offset, mysql_offset, sqlite_both, postgresql_both, mysql_both}

abbrev Numbers : Type 0
Numbers = Option Value × Option Value

-- by the values, where something stands behind the first mark; MySQL has the offset first
more_by : Dialect → List Value → Numbers
more_by q [] = (None, None)
more_by q (v ∷ []) = (None, Some v)
more_by Sqlite (v ∷ w ∷ values) = (Some v, Some w)
more_by Postgresql (v ∷ w ∷ values) = (Some v, Some w)
more_by Mysql (v ∷ w ∷ values) = (Some w, Some v)

-- by what is behind the first mark; an offset alone has another word in the place of the limit's mark
numbers_by : Dialect → List Value → Option (List ℕ) → Numbers
numbers_by q [] rest = (None, None)
numbers_by q (v ∷ values) None = (None, Some v)
numbers_by q (v ∷ values) (Some []) = (Some v, None)
numbers_by q (v ∷ values) (Some (c ∷ cs)) = more_by q (v ∷ values)

behind_limit : Dialect → List Value → Option (List ℕ) → Numbers
behind_limit q values None = (None, None)
behind_limit q values (Some rest) = numbers_by q values (mark_in q rest)

numbers : Dialect → List ℕ → List Value → Numbers
numbers q text values = behind_limit q values (after (codes " LIMIT ") text)

-- a mark that ends a text
mark_last : {q : Dialect} {a : List ℕ} → IsMark q a → mark_in q a ≡ Some []
mark_last {q} {a} m = ap (mark_in q) (sym (append-nil a)) ∙ mark_read m []

cut_read : {q : Dialect} {a : List ℕ} {v : List Value} {x : Numbers} → Cut q a v x → numbers q a v ≡ x
unfolding numbers behind_limit numbers_by more_by mark_in
cut_read no_cut = refl
cut_read {q} (limit_alone l m) = ap (numbers_by q (l ∷ [])) (mark_last m)
cut_read (sqlite_offset o m) = refl
cut_read (postgresql_offset o m) = refl
cut_read (mysql_offset o m) = ap (numbers_by Mysql (o ∷ [])) (mark_read m (codes ", 18446744073709551615"))
cut_read (sqlite_both {b = b} l o m n) = ap (numbers_by Sqlite (l ∷ o ∷ [])) (mark_read m (codes " OFFSET " ++ b))
cut_read (postgresql_both {b = b} l o m n) = ap (numbers_by Postgresql (l ∷ o ∷ [])) (mark_read m (codes " OFFSET " ++ b))
cut_read (mysql_both {b = b} l o m n) = ap (numbers_by Mysql (o ∷ l ∷ [])) (mark_read m (codes ", " ++ b))

pub cuts_agree : {q : Dialect} {a b : List ℕ} {v w : List Value} {x y : Numbers} → Cut q a v x → Cut q b w y → a ≡ b → v ≡ w → x ≡ y
cuts_agree {q} {a} {b} {v} {w} r s texts values = sym (cut_read r) ∙ (ap (λ (text : List ℕ). numbers q text v) texts ∙ (ap (numbers q b) values ∙ cut_read s))

-- what may stand in the place of a cut
pub cut_behind : {q : Dialect} {a : List ℕ} {v : List Value} {x : Numbers} (P : List ℕ → Type 0) → Cut q a v x → P [] → ((text : List ℕ) → P (codes " LIMIT " ++ text)) → P a
cut_behind P no_cut p w = p
cut_behind P (limit_alone {a = a} l m) p w = w a
cut_behind P (sqlite_offset {a = a} o m) p w = w (codes "-1 OFFSET " ++ a)
cut_behind P (postgresql_offset {a = a} o m) p w = w (codes "ALL OFFSET " ++ a)
cut_behind P (mysql_offset {a = a} o m) p w = w (a ++ codes ", 18446744073709551615")
cut_behind P (sqlite_both {a = a} {b = b} l o m n) p w = w (a ++ (codes " OFFSET " ++ b))
cut_behind P (postgresql_both {a = a} {b = b} l o m n) p w = w (a ++ (codes " OFFSET " ++ b))
cut_behind P (mysql_both {a = a} {b = b} l o m n) p w = w (a ++ (codes ", " ++ b))
