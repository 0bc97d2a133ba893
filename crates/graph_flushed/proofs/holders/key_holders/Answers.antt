use Rattle.std.proofs.Common.{◌≡◌, ℕ, ◌+◌, ◌-◌, ◌<◌, None, ◌∙◌, length, sym, arith}
use Rattle.std.proofs.lemmas.List.{get_or_default}
use Rattle.graph_flushed.proofs.HolderSteps.{all_entered, none_entered, one_entered}
use Rattle.graph_flushed.proofs.holders.key_holders.Goals as goal

pub loop-behind-init : goal.loop-behind-init
loop-behind-init c = none_entered c.new-holders.result.maps.items c.args.keys.now c.args.arena.now.roots c.new-holders.ensures

pub loop-behind-preserved : goal.loop-behind-preserved
loop-behind-preserved c =
    let place : ℕ = c.count-count.result - 1 - c.loop-behind.behind in
    let count : c.count-count.result ≡ length c.args.keys.now = c.count-count.ensures.count ∙ sym c.requires in
    let number : place + 1 + c.loop-behind.behind ≡ length c.args.keys.now = omega (arith, count, c.loop-behind-test.true) in
    let within : place < length c.args.keys.now = omega (arith, number) in
    one_entered c.loop-behind.holders.maps.items c.enter.new.holders.maps.items c.args.keys.now c.args.arena.now.roots c.loop-behind.behind place c.index-keys-place.result
    (c.count-count.ensures.graph.rooted ∙ sym c.requires) number (c.index-keys-place.is ∙ get_or_default c.args.keys.now place c.index-keys-place.result None within) c.in_ok-enter.ensures c.loop-behind.invariant

pub returns : goal.returns
returns c =
    let count : c.count-count.result ≡ length c.args.keys.now = c.count-count.ensures.count ∙ sym c.requires in
    all_entered c.loop-behind.holders.maps.items c.args.keys.now c.args.arena.now.roots c.loop-behind.behind (omega (arith, count)) c.loop-behind.invariant
