-- `records::element` meets its contract, field by field.
use mathlib.Core.Path.{◌≡◌, ◌∙◌}
use lib.IntN.{ℤ}
use mir.Facts.{to_z-of_z}
use mir.Syntax.{w64}
use mir.Val.{SFits, to_z, of_z}
use Rattle.model.specs.Acceptance.{element_of}
use Rattle.records.proofs.element.Goals as goal

-- a field's value goes through its bits
back : {z field : ℤ} → SFits w64 z → z ≡ field → to_z w64 (of_z w64 z) ≡ field
back f e = to_z-of_z f ∙ e

pub returns : goal.returns
unfolding element_of
returns c =
    let x = back (record { sfits = c.wide_at.type_inv }) c.wide_at.ensures in
    let y = back (record { sfits = c.wide_at-2.type_inv }) c.wide_at-2.ensures in
    let u = back (record { sfits = c.wide_at-3.type_inv }) c.wide_at-3.ensures in
    let v = back (record { sfits = c.wide_at-4.type_inv }) c.wide_at-4.ensures in
    let r = back (record { sfits = c.wide_at-5.type_inv }) c.wide_at-5.ensures in
    let k = c.kind_in.ensures in
    let l = c.u32_at.ensures in
    rw (x, y, u, v, r, k, l)
