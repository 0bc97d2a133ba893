use Rattle.std.proofs.Common.{◌≡◌, ◌∙◌, true, false, refl, ap, arith, rules, sym, subst}
use Rattle.std.specs.List.{position, zip}
use Rattle.object_arena.specs.Graph.{Graph, object_at, root_at}
use Rattle.object_arena.specs.Identity.{find_identity, holds}
use Rattle.object_arena.specs.Index.{is_holder}
use Rattle.object_arena.proofs.HolderLemmas.{holds_some}
use Rattle.object_arena.proofs.IndexLemmas.{found_holder, found_none, found_out, holder_is}
use Rattle.object_arena.proofs.arena.Arena.find_identity.Goals as goal

pub returns-in-None-clause-found : goal.returns-in-None-clause-found
returns-in-None-clause-found c =
    let whole : c.self.inside.index.complete ≡ true = first_of (search rules, grind arith) in
    found_none c.self.inside.objects.items c.self.inside.roots.items c.self.inside.index.entries.maps.items c.self.inside.index.complete c.args.root c.args.key.now (position (holds c.args.root c.args.key.now) (zip c.self.inside.objects.items c.self.inside.roots.items))
    whole c.self.invariant (sym c.in-None.ensures) refl
    ∙ ap (λ (g : Graph). find_identity g c.args.root c.args.key.now) c.self.view_is

pub returns-else-is_holder-clause-found : goal.returns-else-is_holder-clause-found
returns-else-is_holder-clause-found c =
    let whole : c.self.inside.index.complete ≡ true = first_of (search rules, grind arith) in
    found_out c.self.inside.objects.items c.self.inside.roots.items c.self.inside.index.entries.maps.items c.self.inside.index.complete c.args.root c.args.key.now c.in-Some.object (position (holds c.args.root c.args.key.now) (zip c.self.inside.objects.items c.self.inside.roots.items))
    whole c.self.invariant (sym c.in-Some.ensures)
    (subst (λ (g : Graph). is_holder g c.args.root c.args.key.now c.in-Some.object ≡ false) (sym c.self.view_is) (sym c.is_holder.ensures ∙ c.if-is_holder.false)) refl
    ∙ ap (λ (g : Graph). find_identity g c.args.root c.args.key.now) c.self.view_is

pub returns-then-is_holder-clause-found : goal.returns-then-is_holder-clause-found
returns-then-is_holder-clause-found c =
    found_holder c.self.inside.objects.items c.self.inside.roots.items c.args.root c.args.key.now c.in-Some.object (position (holds c.args.root c.args.key.now) (zip c.self.inside.objects.items c.self.inside.roots.items)) c.self.invariant.graph refl
    (subst (λ (g : Graph). is_holder g c.args.root c.args.key.now c.in-Some.object ≡ true) (sym c.self.view_is) (sym c.is_holder.ensures ∙ c.if-is_holder.true))
    ∙ ap (λ (g : Graph). find_identity g c.args.root c.args.key.now) c.self.view_is

pub returns-then-is_holder-clause-made : goal.returns-then-is_holder-clause-made
returns-then-is_holder-clause-made c = (holder_is c.args.self.now c.args.root c.args.key.now c.in-Some.object (sym c.is_holder.ensures ∙ c.if-is_holder.true)).0

pub returns-then-is_holder-clause-holds : goal.returns-then-is_holder-clause-holds
returns-then-is_holder-clause-holds c = (holder_is c.args.self.now c.args.root c.args.key.now c.in-Some.object (sym c.is_holder.ensures ∙ c.if-is_holder.true)).1

pub returns-then-is_holder-clause-identified : goal.returns-then-is_holder-clause-identified
returns-then-is_holder-clause-identified c =
    holds_some c.args.root (root_at c.args.self.now c.in-Some.object) c.args.key.now (object_at c.args.self.now c.in-Some.object) (returns-then-is_holder-clause-holds c)
