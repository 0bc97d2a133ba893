use Rattle.std.proofs.Common.{sym}
use Rattle.load_ends.specs.Ends.{FitsClass}
use Rattle.load_ends.proofs.KeySteps.{first_all, is_put, not_wanted, wanted_given}
use Rattle.load_ends.proofs.keys.push_wanted.Goals as goal

pub target_key-requires-clause-child : goal.target_key-requires-clause-child
target_key-requires-clause-child c = c.requires.owner.made

pub target_key-requires-clause-place : goal.target_key-requires-clause-place
target_key-requires-clause-place c = c.requires.owner.within

pub target_key-requires-clause-relation : goal.target_key-requires-clause-relation
target_key-requires-clause-relation c = sym c.requires.owner.is

pub returns-then-not-is_wanted-clause-keys : goal.returns-then-not-is_wanted-clause-keys
returns-then-not-is_wanted-clause-keys c =
    not_wanted c.args.mapping.now c.args.relation.now c.args.arena.now c.args.keys.now c.args.owner c.in_ok-key.key c.is_wanted.result c.in_ok-key.ensures.key c.is_wanted.ensures c.if-not-is_wanted.true

pub returns-clause-keys : goal.returns-clause-keys
returns-clause-keys c =
    is_put c.args.mapping.now c.args.relation.now c.args.arena.now c.args.keys.now c.keep_first.new.keys c.args.owner c.in_ok-key.key c.is_wanted.result c.keep_first.result c.in_ok-key.ensures.key c.is_wanted.ensures c.if-not-is_wanted.false
    c.keep_first.ensures.keys

pub returns-clause-fits : goal.returns-clause-fits
returns-clause-fits c = λ all.
    first_all (FitsClass c.args.mapping.now c.args.relation.now.target) c.args.keys.now c.keep_first.new.keys c.in_ok-key.key c.keep_first.result
    (c.in_ok-key.ensures.fits (wanted_given c.args.mapping.now c.args.relation.now.target c.args.arena.now c.in_ok-key.key c.is_wanted.result c.is_wanted.ensures c.if-not-is_wanted.false)) c.keep_first.ensures.keys all
