-- `nearest::sides::to_point` meets its contract: the differences are below 2^29, and the offset is along the direction, of the difference turned to the right.
use mathlib.Core.List.{[], ◌∷◌}
use mathlib.Core.Path.{◌≡◌, ◌∙◌, ap, ap₂}
use Prim.Native.Nat.{◌^◌}
use native.Mathlib.Nat.{le_of_lt}
use lib.IntN.{ℤ, pos, ◌+ℤ◌, ◌-ℤ◌, ◌*ℤ◌}
use mir.Facts.{to_z-of_z}
use mir.Syntax.{w64}
use Rattle.integers.proofs.Machine.{Env, env, machine, fits_machine, by_machine, abs_machine}
use Rattle.integers.proofs.Held.{held}
use Rattle.model.specs.declared.Point.{Point}
use Rattle.model.specs.Rounding.{ONE, near}
use Rattle.model.specs.Acceptance.{frame}
use Rattle.model.specs.Judged.{residual_of, offset_of, minus}
use Rattle.rounding.specs.Rounded.{Summable}
use Rattle.elements.specs.declared.Placement.{Placement}
use Rattle.elements.specs.Extent.{widest_position, Placeable}
use Rattle.plane.specs.Frame.{InFrame}
use Rattle.nearest.specs.Sides.{sides_of}
use Rattle.nearest.proofs.sides.to_point.Goals as goal

module _ (at : Placement) (q : Point) (placeable : Placeable at) (inside : InFrame q) where
  abbrev Γ : Env
  Γ =
      env (q.x ∷ q.y ∷ at.x ∷ at.y ∷ at.tx ∷ at.ty ∷ []) (frame ∷ frame ∷ widest_position ∷ widest_position ∷ 2 ^ 31 ∷ 2 ^ 31 ∷ [])
      (inside.x, (inside.y, (placeable.x, (placeable.y, (le_of_lt placeable.tx, (le_of_lt placeable.ty, tt))))))

  -- the differences as the machine has them
  abbrev dx : ℤ
  dx = held (held q.x -ℤ held at.x)

  abbrev dy : ℤ
  dy = held (held q.y -ℤ held at.y)

  residual_asks : Summable (held at.tx) dx (held at.ty) dy
  residual_asks =
      record {
        first = abs_machine Γ (held at.tx) (search machine depth 20) tt;
        along = abs_machine Γ dx (search machine depth 20) tt;
        second = abs_machine Γ (held at.ty) (search machine depth 20) tt;
        aside = abs_machine Γ dy (search machine depth 20) tt;
      }

  offset_asks : Summable (held at.tx) dy (held at.ty) (held (pos 0 -ℤ dx))
  offset_asks =
      record {
        first = residual_asks.first;
        along = residual_asks.aside;
        second = residual_asks.second;
        aside = abs_machine Γ (held (pos 0 -ℤ dx)) (search machine depth 20) tt;
      }

  residual_is : held at.tx *ℤ dx +ℤ held at.ty *ℤ dy ≡ at.tx *ℤ (q.x -ℤ at.x) +ℤ at.ty *ℤ (q.y -ℤ at.y)
  residual_is = by_machine Γ (search machine depth 20) (search machine depth 20) tt

  offset_is : held at.tx *ℤ dy +ℤ held at.ty *ℤ held (pos 0 -ℤ dx) ≡ at.tx *ℤ (q.y -ℤ at.y) -ℤ at.ty *ℤ (q.x -ℤ at.x)
  offset_is = by_machine Γ (search machine depth 20 fits 5000) (search machine depth 20) tt

pub overflow_sub-dx : goal.overflow_sub-dx
overflow_sub-dx c = fits_machine (Γ c.args.at c.args.q c.requires.placeable c.requires.in_frame) (search machine depth 20) tt

pub overflow_sub-dy : goal.overflow_sub-dy
overflow_sub-dy c = fits_machine (Γ c.args.at c.args.q c.requires.placeable c.requires.in_frame) (search machine depth 20) tt

pub near_sum-requires : goal.near_sum-requires
near_sum-requires c = residual_asks c.args.at c.args.q c.requires.placeable c.requires.in_frame

pub overflow_sub-dx-2 : goal.overflow_sub-dx-2
overflow_sub-dx-2 c = fits_machine (Γ c.args.at c.args.q c.requires.placeable c.requires.in_frame) (search machine depth 20) tt

pub near_sum-requires-2 : goal.near_sum-requires-2
near_sum-requires-2 c = offset_asks c.args.at c.args.q c.requires.placeable c.requires.in_frame

pub returns : goal.returns
unfolding sides_of residual_of offset_of minus
returns c =
    let at = c.args.at in
    let q = c.args.q in
    ap₂ (λ (a b : ℤ). record { residual = a; offset = b })
    (to_z-of_z {w = w64} (record { sfits = c.near_sum.type_inv }) ∙ c.near_sum.ensures ∙ ap (λ (z : ℤ). near z ONE) (residual_is at q c.requires.placeable c.requires.in_frame))
    (to_z-of_z {w = w64} (record { sfits = c.near_sum-2.type_inv }) ∙ c.near_sum-2.ensures ∙ ap (λ (z : ℤ). near z ONE) (offset_is at q c.requires.placeable c.requires.in_frame))
