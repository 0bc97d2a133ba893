-- What is written piece by piece is written at once.
use Rattle.std.proofs.Common.{◌≡◌, ℕ, List, [], ◌∷◌, ◌++◌, refl, ◌∙◌}
use Rattle.sql_text.specs.Written.{Piece, words, name, value, Written, put_piece, put_all}

pub put_append : (w : Written) (ps qs : List Piece) → put_all w (ps ++ qs) ≡ put_all (put_all w ps) qs
unfolding put_all
put_append w [] qs = refl
put_append w (p ∷ ps) qs = put_append (put_piece w p) ps qs

pub dialect_put : (w : Written) (p : Piece) → (put_piece w p).dialect ≡ w.dialect
unfolding put_piece
dialect_put w (words text) = refl
dialect_put w (name text) = refl
dialect_put w (value base v) = refl

-- the dialect stays
pub same_dialect : (w : Written) (ps : List Piece) → (put_all w ps).dialect ≡ w.dialect
unfolding put_all
same_dialect w [] = refl
same_dialect w (p ∷ ps) = same_dialect (put_piece w p) ps ∙ dialect_put w p
