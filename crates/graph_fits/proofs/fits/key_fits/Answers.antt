use Rattle.std.proofs.Common.{◌≡◌, ◌∙◌, length, arith, sym}
use Rattle.graph_fits.proofs.KeyLemmas.{keyed}
use Rattle.graph_fits.proofs.fits.key_fits.Goals as goal

pub returns-then-keys-len : goal.returns-then-keys-len
returns-then-keys-len c = λ h.
    let long : length c.key_attributes-keys.result.now ≡ length c.args.key.now = omega (arith, c.if-keys-len.true, c.len.ensures) in
    keyed c.args.mapping.now c.args.class c.attributes-attributes.result.now c.key_attributes-keys.result.now c.as_slice.result.now c.args.key.now
    c.attributes-attributes.ensures c.key_attributes-keys.ensures.keys c.as_slice.ensures long (sym c.values_fit.ensures ∙ h)
