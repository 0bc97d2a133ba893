-- What is known of the tables that a keeper tells is not lost after a call.
use Rattle.std.proofs.Common.{◌≡◌, ℕ, Bool, false, Option, None, Some, IfSome, Ok, Err, MatchBool, sym, subst}
use Rattle.base_core.specs.declared.refusal.Refusal.{Refusal}
use Rattle.keeper_core.specs.Programs.{Run, ends_early}
use Rattle.keeper_core.specs.Moment.{AsTold, IsCutOff, IsRun, Moment, Ran, Runs, Told}
use Rattle.keeper_core.specs.Store.{Store}
use Rattle.keeper_core.specs.Keeping.{IsCoherent, IsCoherentTold}

-- the store that is told, where one is, has this property
abbrev pub Holds : (Store → Type 0) → Option (Told Store) → Type 0
Holds P told = IfSome told (λ t. P t.world)

-- who told nothing tells nothing
silent : (P : Type 0) (old new : Bool) (depth : ℕ) (told : Told Store) → old ≡ false → new ≡ old → IsCoherentTold new depth (Some told) → P
silent P old new depth told none same here = absurd (cc (none, same, here.0))

whole : {A X : Type 0} (P : Store → Type 0) (v : X → A) (m : Store → Run Store A) (x : X) (old new : Option (Told Store)) (told tells : Bool) (before now : ℕ)
    → ((w : Store) → P w → P (m w).after) → IsCoherentTold told before old → IsCoherentTold tells now new → tells ≡ told
    → Holds P old → AsTold v m old (Ok x) new → Holds P new
whole P v m x None None told tells before now keeps was is same held p = tt
whole P v m x None (Some n) told tells before now keeps was is same held p = silent (P n.world) told tells now n was same is
whole P v m x (Some t) None told tells before now keeps was is same held p = absurd p
whole P v m x (Some t) (Some n) told tells before now keeps was is same held p = subst P (sym p.world) (keeps t.world held)

-- a call that answered keeps what its program keeps
pub holds_answered : {K A X : Type 0} (moment : K → Moment Store) (P : Store → Type 0) {v : X → A} {m : Store → Run Store A} {old new : K} {x : X} → ((w : Store) → P w → P (m w).after)
    → IsCoherent (moment old) → IsCoherent (moment new) → Holds P (moment old).told → Runs moment v m old (Ok x) new → Holds P (moment new).told
holds_answered moment P {v = v} {m = m} {old = old} {new = new} {x = x} keeps was is held (Ran p) =
    whole P v m x (moment old).told (moment new).told (moment old).tells (moment new).tells (moment old).depth (moment new).depth keeps was is p.keeps.tells held p.told

refused : {A X : Type 0} (P : Store → Type 0) (v : X → A) (m : Store → Run Store A) (e : Refusal) (old new : Option (Told Store)) (told tells : Bool) (before now : ℕ)
    → ends_early e ≡ false → ((w : Store) → P w → P (m w).after) → IsCoherentTold told before old → IsCoherentTold tells now new → tells ≡ told
    → Holds P old → AsTold {X = X} v m old (Err e) new → Holds P new
refused P v m e None None told tells before now own keeps was is same held p = tt
refused P v m e None (Some n) told tells before now own keeps was is same held p = silent (P n.world) told tells now n was same is
refused P v m e (Some t) None told tells before now own keeps was is same held p = absurd p
refused P v m e (Some t) (Some n) told tells before now own keeps was is same held p =
    let run : IsRun (m t.world) t.log (Err e) n = subst (λ b. MatchBool b (IsCutOff (m t.world) t.log n) (IsRun (m t.world) t.log (Err e) n)) own p in
    subst P (sym run.world) (keeps t.world held)

-- and so does one that was refused
pub holds_refused : {K A X : Type 0} (moment : K → Moment Store) (P : Store → Type 0) {v : X → A} {m : Store → Run Store A} {old new : K} {e : Refusal} → ends_early e ≡ false → ((w : Store) → P w → P (m w).after)
    → IsCoherent (moment old) → IsCoherent (moment new) → Holds P (moment old).told → Runs moment v m old (Err e) new → Holds P (moment new).told
holds_refused {X = X} moment P {v = v} {m = m} {old = old} {new = new} {e = e} own keeps was is held (Ran p) =
    refused {X = X} P v m e (moment old).told (moment new).told (moment old).tells (moment new).tells (moment old).depth (moment new).depth own keeps was is p.keeps.tells held p.told
