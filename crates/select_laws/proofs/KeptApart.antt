-- The normal form has aggregates and columns apart from each `exists` where the expression has.
use Rattle.std.proofs.Common.{◌≡◌, ℕ, Bool, true, false, refl, ap}
use Rattle.std.proofs.Math.Bool.{or-true}
use Rattle.expr_types.specs.declared.expr.Expr.{Expr}
use Rattle.expr_types.specs.declared.expr.Origin.{Origin}
use Rattle.expr_types.specs.Normal.{normal}
use Rattle.select_laws.specs.Apart.{apart_level, group_apart, may_be, stands_apart}
use Rattle.select_laws.proofs.KeptFolds.{Keeps, KeepsTest, every_keeps, kept}

abbrev bound : Bool → Origin → Bool
bound free origin = false

apart_test : (outer : ℕ) → KeepsTest Bool (may_be outer)
apart_test outer = record {
  ands = λ s xs. or-true s;
  ors = λ s xs. or-true s;
  nots = λ s a. or-true s;
  likes = λ s g a b. or-true s;
  ilikes = λ s g a b. or-true s;
  lowers = λ s a. or-true s;
  compares = λ s op a b. refl;
  nulls = λ s g a. refl;
  lists = λ s g a vs. refl;
  ranges = λ s g a low high. refl;
  distincts = λ s g a b. refl;
  exist = λ s g o a. refl;
}

-- no level that the normal form changes is an aggregate
apart_keeps : (outer : ℕ) → Keeps (Bool → Bool) (apart_level outer)
apart_keeps outer =
    let every = every_keeps Bool bound (may_be outer) (apart_test outer) in
    record {
      ands = every.ands;
      ors = every.ors;
      nots = every.nots;
      compares = every.compares;
      nulls = every.nulls;
      likes = every.likes;
      ilikes = every.ilikes;
      lists = every.lists;
      ranges = every.ranges;
      distincts = every.distincts;
      exist = every.exist;
      lowers = every.lowers;
    }

pub apart_kept : (e : Expr) (outer : ℕ) → group_apart outer (normal e) ≡ group_apart outer e
unfolding stands_apart
apart_kept e outer = ap (λ (f : Bool → Bool). f true) (kept (Bool → Bool) (apart_level outer) (apart_keeps outer) e)
