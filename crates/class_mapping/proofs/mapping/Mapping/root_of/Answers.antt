use Rattle.std.proofs.Common.{rules, ℕ, ◌≡◌, ◌∙◌, ap, sym, subst}
use Rattle.base_core.specs.declared.ids.ClassId.{ClassId}
use Rattle.class_mapping.specs.Configured.{IsConfigured}
use Rattle.class_mapping.specs.Mapped.{root_of}
use Rattle.class_mapping.proofs.RootLemmas.{IsRootOver, root_seen}
use Rattle.class_mapping.proofs.mapping.Mapping.root_of.Goals as goal

pub returns-clause-declared : goal.returns-clause-declared
returns-clause-declared c =
    let is : c.class_or.result ≡ root_of c.args.self.now c.args.class = search rules in
    let root = root_seen c.self.inside.schema c.self.inside.classes c.args.self.now c.args.class c.self.view_is c.self.invariant.declared.lined c.self.invariant.declared.lines c.requires in
    (subst (IsRootOver c.args.self.now) (sym is) root).declared

pub returns-clause-alone : goal.returns-clause-alone
returns-clause-alone c =
    let is : c.class_or.result ≡ root_of c.args.self.now c.args.class = search rules in
    let root = root_seen c.self.inside.schema c.self.inside.classes c.args.self.now c.args.class c.self.view_is c.self.invariant.declared.lined c.self.invariant.declared.lines c.requires in
    (subst (IsRootOver c.args.self.now) (sym is) root).alone

pub returns-clause-rooted : goal.returns-clause-rooted
returns-clause-rooted c other under =
    let is : c.class_or.result ≡ root_of c.args.self.now c.args.class = search rules in
    let configured = subst IsConfigured c.self.view_is c.self.invariant.configured in
    ap (λ (n : ℕ). let root : ClassId = (record { 0 = n }) in root) (configured.hierarchies.paired.rooted other c.args.class under) ∙ sym is
