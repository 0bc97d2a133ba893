-- Operands, products and sums.
use Rattle.std.proofs.Common.{◌≡◌, ℕ, suc, ◌+◌, ◌-◌, ◌≤◌, ◌++◌, List, [], Some, None, codes, refl, ap, subst, ◌∙◌, append_assoc, arith}
use Rattle.base_core.specs.declared.value.Value.{Value}
use Rattle.base_core.specs.declared.dialect.Dialect.{Dialect}
use Rattle.script_laws.specs.Texts.Grammar.Trees.{Sign, Sql, negative, sum, product}
use Rattle.script_laws.specs.Texts.Grammar.Words.{sign_word}
use Rattle.script_laws.specs.Texts.Grammar.Reads.{Added, Multiplied, Signed, Operand}
use Rattle.script_laws.proofs.Texts.Grammar.Reader.{after, find, signs, Out, next, read, stops, signed_by, products_by, sums_by}
use Rattle.script_laws.proofs.Texts.Grammar.Finding.{sign_found, stops_tighter, no_product, no_sign}
use Rattle.script_laws.proofs.Texts.Grammar.Naming.{Begins}
use Rattle.script_laws.proofs.Texts.Grammar.Found.{Found, Chain, starts_signed, begins_wider, begins_so, lacks_byte, made, one_deeper, rearranged}

module _ (q : Dialect) where
  -- ---- 7

  pub signed_found : {a : List ℕ} {v : List Value} {x : Sql} → Found q Operand a v x → Found q Signed a v x
  signed_found {a} {v} {x} f =
      made (begins_wider Signed f.begins) f.bound
      (λ j g rest left s. ap (signed_by (read q j) (a ++ rest) (v ++ left)) (lacks_byte f.begins 45 refl rest []) ∙ f.gives j g rest left (stops_tighter q Signed rest s))

  pub negative_found : {a : List ℕ} {v : List Value} {x : Sql} → Found q Operand a v x → Found q Signed (codes "-" ++ a) v (negative x)
  negative_found {a} {v} {x} f =
      made (begins_so _ 45 a refl) f.bound
      (λ j g rest left s. ap (λ (o : Out Sql). next o (λ y past over. Some (negative y, past, over))) (f.gives j g rest left (stops_tighter q Signed rest s)))

  -- ---- 6

  pub first_product : {a : List ℕ} {v : List Value} {x : Sql} → Found q Signed a v x → Chain q Multiplied a v x
  unfolding read
  first_product {a} {v} {x} f = record {
    turns = 1;
    bound = f.bound;
    gives = λ j k is h rest left s.
        subst (λ n. (read q n).tree Multiplied (a ++ rest) (v ++ left) ≡ (read q k).products x rest left) (one_more j k is)
        (ap (λ (o : Out Sql). next o (λ y. (read q k).products y)) (f.gives k h rest left s));
  }
    where
      one_more : (j k : ℕ) → j ≡ 1 + k → suc k ≡ j
      one_more j k is = omega (arith, is)

  pub next_product : {a b : List ℕ} {v w : List Value} {x y : Sql} → Chain q Multiplied a v x → Found q Signed b w y
      → Chain q Multiplied (a ++ (codes " * " ++ b)) (v ++ w) (product x y)
  unfolding read stops
  next_product {a} {b} {v} {w} {x} {y} c f = record {
    turns = suc c.turns;
    bound = c.bound + f.bound;
    gives = λ j k is h rest left s.
        rearranged ((read q j).tree Multiplied) a (codes " * " ++ b) rest v w left
        ∙ (c.gives j (suc k) (omega (arith, is)) (omega (arith, h)) (codes " * " ++ (b ++ rest)) (w ++ left) refl
        ∙ ap (λ (o : Out Sql). next o (λ z. (read q k).products (product x z))) (f.gives k (omega (arith, h)) rest left s));
  }

  products_end : (x : Sql) (k : ℕ) → 1 ≤ k → (rest : List ℕ) (left : List Value) → after (codes " * ") rest ≡ None → (read q k).products x rest left ≡ Some (x, rest, left)
  unfolding read
  products_end x k h rest left none =
      one_deeper (λ n. (read q n).products x rest left ≡ Some (x, rest, left)) 0 k h (λ j g. ap (products_by (read q j) x rest left) none)

  pub product_found : {a : List ℕ} {v : List Value} {x : Sql} → Begins starts_signed a → Chain q Multiplied a v x → Found q Multiplied a v x
  product_found {a} {v} {x} begins c = record {
    begins = begins;
    bound = suc (c.turns + c.bound);
    gives = λ k h rest left s.
        c.gives k (k - c.turns) (omega (arith, h)) (omega (arith, h)) rest left (stops_tighter q Multiplied rest s)
        ∙ products_end x (k - c.turns) (omega (arith, h)) rest left (no_product q rest s);
  }

  -- ---- 5

  pub first_sum : {a : List ℕ} {v : List Value} {x : Sql} → Found q Multiplied a v x → Chain q Added a v x
  unfolding read
  first_sum {a} {v} {x} f = record {
    turns = 1;
    bound = f.bound;
    gives = λ j k is h rest left s.
        subst (λ n. (read q n).tree Added (a ++ rest) (v ++ left) ≡ (read q k).sums x rest left) (one_more j k is)
        (ap (λ (o : Out Sql). next o (λ y. (read q k).sums y)) (f.gives k h rest left s));
  }
    where
      one_more : (j k : ℕ) → j ≡ 1 + k → suc k ≡ j
      one_more j k is = omega (arith, is)

  pub next_sum : {a b word : List ℕ} {v w : List Value} {x y : Sql} (by : Sign) → sign_word q by ≡ Some word → Chain q Added a v x → Found q Multiplied b w y
      → Chain q Added (a ++ (word ++ b)) (v ++ w) (sum by x y)
  unfolding read
  next_sum {a} {b} {word} {v} {w} {x} {y} by is_word c f = record {
    turns = suc c.turns;
    bound = c.bound + f.bound;
    gives = λ j k is h rest left s.
        let sign = sign_found q by word (b ++ rest) is_word in
        rearranged ((read q j).tree Added) a (word ++ b) rest v w left
        ∙ (ap (λ (text : List ℕ). (read q j).tree Added (a ++ text) (v ++ (w ++ left))) (append_assoc word b rest)
        ∙ (c.gives j (suc k) (omega (arith, is)) (omega (arith, h)) (word ++ (b ++ rest)) (w ++ left) sign.1
        ∙ (ap (sums_by (read q k) x (word ++ (b ++ rest)) (w ++ left)) sign.0
        ∙ ap (λ (o : Out Sql). next o (λ z. (read q k).sums (sum by x z))) (f.gives k (omega (arith, h)) rest left s))));
  }

  sums_end : (x : Sql) (k : ℕ) → 1 ≤ k → (rest : List ℕ) (left : List Value) → find (signs q) rest ≡ None → (read q k).sums x rest left ≡ Some (x, rest, left)
  unfolding read
  sums_end x k h rest left none =
      one_deeper (λ n. (read q n).sums x rest left ≡ Some (x, rest, left)) 0 k h (λ j g. ap (sums_by (read q j) x rest left) none)

  pub sum_found : {a : List ℕ} {v : List Value} {x : Sql} → Begins starts_signed a → Chain q Added a v x → Found q Added a v x
  sum_found {a} {v} {x} begins c = record {
    begins = begins;
    bound = suc (c.turns + c.bound);
    gives = λ k h rest left s.
        c.gives k (k - c.turns) (omega (arith, h)) (omega (arith, h)) rest left (stops_tighter q Added rest s)
        ∙ sums_end x (k - c.turns) (omega (arith, h)) rest left (no_sign q rest s);
  }
