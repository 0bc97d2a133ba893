-- What is written of pieces depends on no value.
use Rattle.std.proofs.Common.{◌≡◌, ℕ, List, [], ◌∷◌, ◌++◌, map, refl, sym, ap, ◌∙◌}
use Rattle.std.proofs.lemmas.List.{map-append}
use Rattle.base_core.specs.declared.value.Value.TheVariants as cell
use Rattle.base_core.specs.declared.dialect.Dialect.{Dialect}
use Rattle.sql_text.specs.Written.{Piece, words, name, value, Written, nothing_written, put_piece, put_all, with_leading_separators, with_separators}

-- ---- texts

-- a piece without its value
abbrev pub bare : Piece → Piece
bare (words text) = words text
bare (name text) = name text
bare (value base v) = value base cell.Null

-- what was written, without the values
abbrev pub shown : Written → Written
shown w = record { dialect = w.dialect; text = w.text; bases = w.bases; names = w.names; values = [] }

one_shown : (w : Written) (p : Piece) → shown (put_piece w p) ≡ shown (put_piece (shown w) (bare p))
unfolding put_piece
one_shown w (words text) = refl
one_shown w (name text) = refl
one_shown w (value base v) = refl

same_put : (w : Written) (p : Piece) → shown (put_piece w p) ≡ shown (put_piece (shown w) p)
unfolding put_piece
same_put w (words text) = refl
same_put w (name text) = refl
same_put w (value base v) = refl

from_shown : (w : Written) (ps : List Piece) → shown (put_all w ps) ≡ shown (put_all (shown w) ps)
unfolding put_all
from_shown w [] = refl
from_shown w (p ∷ ps) = from_shown (put_piece w p) ps ∙ (ap (λ (u : Written). shown (put_all u ps)) (same_put w p) ∙ sym (from_shown (put_piece (shown w) p) ps))

shown_bare : (w : Written) (ps : List Piece) → shown (put_all w ps) ≡ shown (put_all (shown w) (map bare ps))
unfolding put_all
shown_bare w [] = refl
shown_bare w (p ∷ ps) = shown_bare (put_piece w p) ps ∙ (ap (λ (u : Written). shown (put_all u (map bare ps))) (one_shown w p) ∙ sym (from_shown (put_piece (shown w) (bare p)) (map bare ps)))

-- ---- lists of pieces

-- the pieces differ only in values
abbrev pub Alike : List Piece → List Piece → Type 0
Alike ps qs = map bare ps ≡ map bare qs

-- pieces that differ only in values have one text
pub one_text : (dialect : Dialect) (ps qs : List Piece) → Alike ps qs → (put_all (nothing_written dialect) ps).text ≡ (put_all (nothing_written dialect) qs).text
one_text dialect ps qs alike =
    ap (λ (w : Written). w.text) (shown_bare (nothing_written dialect) ps ∙ (ap (λ (rs : List Piece). shown (put_all (nothing_written dialect) rs)) alike ∙ sym (shown_bare (nothing_written dialect) qs)))

pub both : (ps qs rs ss : List Piece) → Alike ps qs → Alike rs ss → Alike (ps ++ rs) (qs ++ ss)
both ps qs rs ss a b = map-append bare ps rs ∙ (ap (λ (xs : List Piece). xs ++ map bare rs) a ∙ (ap (λ (xs : List Piece). map bare qs ++ xs) b ∙ sym (map-append bare qs ss)))

pub behind : (p : Piece) (ps qs : List Piece) → Alike ps qs → Alike (p ∷ ps) (p ∷ qs)
behind p ps qs a = ap (λ (xs : List Piece). bare p ∷ xs) a

-- items that are alike, each at its place
abbrev pub AllAlike : {A : Type 0} → (A → List Piece) → (A → A) → List A → Type 0
AllAlike pieces change [] = Unit {0}
AllAlike pieces change (x ∷ xs) = Alike (pieces x) (pieces (change x)) × AllAlike pieces change xs

module _ {A : Type 0} (pieces : A → List Piece) (change : A → A) where
  pub all_alike : ((x : A) → Alike (pieces x) (pieces (change x))) → (xs : List A) → AllAlike pieces change xs
  all_alike each [] = tt
  all_alike each (x ∷ xs) = (each x, all_alike each xs)

  led_alike : (separator : List ℕ) (xs : List A) → AllAlike pieces change xs → Alike (with_leading_separators separator pieces xs) (with_leading_separators separator pieces (map change xs))
  led_alike separator [] alike = refl
  led_alike separator (x ∷ xs) alike =
      behind (words separator) (pieces x ++ with_leading_separators separator pieces xs) (pieces (change x) ++ with_leading_separators separator pieces (map change xs))
      (both (pieces x) (pieces (change x)) (with_leading_separators separator pieces xs) (with_leading_separators separator pieces (map change xs)) alike.0 (led_alike separator xs alike.1))

  pub joined_alike : (separator : List ℕ) (xs : List A) → AllAlike pieces change xs → Alike (with_separators separator pieces xs) (with_separators separator pieces (map change xs))
  joined_alike separator [] alike = refl
  joined_alike separator (x ∷ xs) alike = both (pieces x) (pieces (change x)) (with_leading_separators separator pieces xs) (with_leading_separators separator pieces (map change xs)) alike.0 (led_alike separator xs alike.1)
