use Rattle.std.proofs.Common.{◌≡◌, suc, ◌+◌, ◌-◌, ◌<◌, true, false, [], ◌∷◌, ◌++◌, IfOk, sym, ap, ◌∙◌, subst, arith}
use Rattle.row_order.specs.Places.{cycle_from, from_row, is_among, next_blocker, trail}
use Rattle.row_order.proofs.Ranges.{trail_found, trail_passed}
use Rattle.row_order.proofs.places.cycle_from.Goals as goal

pub loop-step-init : goal.loop-step-init
loop-step-init g c =
    let size = g.W.Waits.size c.args.rows.now in
    let next = next_blocker (g.W.Waits.waits c.args.rows.now) size c.args.placed.now in
    let all : suc size - 0 ≡ suc size = omega arith in (
      c.requires.least,
      ap (λ steps. trail next steps c.new-path.result.items c.args.least) all ∙ ap (λ path. trail next (suc size) path c.args.least) c.new-path.ensures.items,
    )

pub returns-then-is_among : goal.returns-then-is_among
unfolding cycle_from
returns-then-is_among g c =
    let waits = g.W.Waits.waits c.args.rows.now in
    let size = g.W.Waits.size c.args.rows.now in
    let path = c.loop-step.path.items in
    let row = c.loop-step.row in
    let within : c.loop-step._step < suc size = omega (arith, c.loop-step-test.true, c.size-step-end.ensures) in
    let found : is_among path row ≡ true = ap (λ rows. is_among rows row) (sym c.as_slice.ensures.value) ∙ sym c.is_among.ensures ∙ c.if-is_among.true in
    subst (λ rows. IfOk c.from_row.result (λ told. told.items ≡ rows))
    (ap (from_row row) c.as_slice-then-is_among.ensures.value
    ∙ sym (trail_found (next_blocker waits size c.args.placed.now) (suc size) c.loop-step._step path row within found)
    ∙ c.loop-step.invariant.1
    ∙ ap (λ placed. trail (next_blocker waits size placed) (suc size) [] c.args.least) c.requires.ordered) c.from_row.ensures

pub loop-step-preserved : goal.loop-step-preserved
loop-step-preserved g c =
    let size = g.W.Waits.size c.args.rows.now in
    let next = next_blocker (g.W.Waits.waits c.args.rows.now) size c.args.placed.now in
    let path = c.loop-step.path.items in
    let row = c.loop-step.row in
    let within : c.loop-step._step < suc size = omega (arith, c.loop-step-test.true, c.size-step-end.ensures) in
    let passed : is_among path row ≡ false = ap (λ rows. is_among rows row) (sym c.as_slice.ensures.value) ∙ sym c.is_among.ensures ∙ c.if-is_among.false in (
      c.next_blocker-row.ensures.within,
      ap (λ rows. trail next (suc size - (c.loop-step._step + 1)) rows c.next_blocker-row.result) c.in_ok-push.ensures.items
          ∙ ap (λ other. trail next (suc size - (c.loop-step._step + 1)) (path ++ row ∷ []) other) c.next_blocker-row.ensures.blocker
          ∙ trail_passed next (suc size) c.loop-step._step path row within passed
          ∙ c.loop-step.invariant.1,
    )
