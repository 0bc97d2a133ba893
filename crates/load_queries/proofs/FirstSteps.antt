-- Objects that are kept where each comes first.
use Rattle.std.proofs.Common.{◌≡◌, Bool, true, false, List, [], ◌∷◌, ◌++◌, fold, Result, Ok, Err, IfOk, if◌then◌else◌, sym, ap, subst, ◌∙◌}
use Rattle.std.specs.List.{All, AllByRecursion}
use Rattle.std.proofs.lemmas.List.Elements.{All-from_recursion, recursion_from_All}
use Rattle.base_core.proofs.Lists.{every_append}
use Rattle.base_core.specs.declared.ids.ObjId.{ObjId}
use Rattle.base_core.specs.declared.refusal.Refusal.{Refusal}
use Rattle.object_arena.specs.Graph.{is_among}
use Rattle.object_parts.specs.Lists.{firsts, with_first}

first_every : (P : ObjId → Type 0) (kept : List ObjId) (object : ObjId) → AllByRecursion P kept → P object → AllByRecursion P (with_first kept object)
first_every P kept object all one = by (is_among kept object)
  where
    by : (b : Bool) → AllByRecursion P (if b then kept else (kept ++ object ∷ []))
    by true = all
    by false = every_append P kept (object ∷ []) all (one, tt)

fold_every : (P : ObjId → Type 0) (kept objects : List ObjId) → AllByRecursion P kept → AllByRecursion P objects → AllByRecursion P (fold with_first kept objects)
fold_every P kept [] all more = all
fold_every P kept (object ∷ objects) all more = fold_every P (with_first kept object) objects (first_every P kept object all more.0) more.1

-- what is said of objects is said of them where each comes first
pub firsts_all : (P : ObjId → Type 0) (objects : List ObjId) → All P objects → All P (firsts objects)
unfolding firsts
firsts_all P objects all = All-from_recursion P (fold with_first [] objects) (fold_every P [] objects tt (recursion_from_All P objects all))

pub firsts_told : (P : ObjId → Type 0) (objects shown : List ObjId) (r : Result (List ObjId) Refusal) → shown ≡ objects → All P objects → IfOk r (λ kept. kept ≡ firsts shown) → IfOk r (All P)
firsts_told P objects shown (Ok kept) seen all is = subst (All P) (sym (is ∙ ap firsts seen)) (firsts_all P objects all)
firsts_told P objects shown (Err e) seen all is = tt
