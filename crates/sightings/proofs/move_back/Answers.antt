-- `sightings::move_back` meets its contract: the tests of the two points, then the move under the negated direction.
use Prim.Native.Nat.{◌*◌, ◌≤◌}
use mathlib.Core.Path.{◌≡◌, sym, ap, ap₂, ◌∙◌}
use native.Mathlib.Omega.{arith}
use borrow.Author.Rules.{rules}
use lib.IntN.{ℤ, nat_abs, neg_ℤ}
use mir.Facts.{to_z-of_z}
use mir.Syntax.{w64}
use Rattle.integers.specs.Signs.{with_sign}
use Rattle.integers.proofs.Abs.{nat_abs_neg}
use Rattle.integers.proofs.Held.{held, held_small, held_as}
use Rattle.model.specs.declared.Move.TheVariants.{By}
use Rattle.model.specs.Rounding.{ONE}
use Rattle.model.specs.Acceptance.{in_frame}
use Rattle.model.specs.Answers.{forward_of, left_of}
use Rattle.sightings.proofs.MoveAnswers.{own_outside, target_outside, moves_back, back_stakeable}
use Rattle.sightings.proofs.move_back.Goals.{After-in_frame, After-in_frame-2, After-with_sign-2}
use Rattle.sightings.proofs.move_back.Goals as goal

-- ---- the direction, negated

-- a component with the sign of 1, through 64 bits
negated : (z : ℤ) {r : ℤ} → nat_abs z ≤ 2 * ONE → r ≡ with_sign 1 (held z) → held r ≡ neg_ℤ z
unfolding with_sign
negated z h e = held_as (e ∙ ap neg_ℤ (held_small z (omega (arith, h)))) (omega (arith, nat_abs_neg z))

-- ---- what each test says, of the numbers as they came

own_tested : (c : After-in_frame) → let p = c.args.own in in_frame p.x p.y ≡ c.in_frame.result
own_tested c = sym (c.in_frame.ensures ∙ ap₂ in_frame (to_z-of_z {w = w64} (search rules)) (to_z-of_z {w = w64} (search rules)))

target_tested : (c : After-in_frame-2) → let p = c.args.target in in_frame p.x p.y ≡ c.in_frame-2.result
target_tested c = sym (c.in_frame-2.ensures ∙ ap₂ in_frame (to_z-of_z {w = w64} (search rules)) (to_z-of_z {w = w64} (search rules)))

-- ---- the heading, as it passes through 64 bits

module _ (c : After-with_sign-2) where
  back_x : held c.with_sign.result ≡ neg_ℤ c.args.tx
  back_x = negated c.args.tx c.requires.first c.with_sign.ensures

  back_y : held c.with_sign-2.result ≡ neg_ℤ c.args.ty
  back_y = negated c.args.ty c.requires.second c.with_sign-2.ensures

-- ---- the needs

pub returns-then-not-in_frame : goal.returns-then-not-in_frame
returns-then-not-in_frame c = sym (own_outside _ _ _ _ (own_tested (goal.at.returns-then-not-in_frame c).After-in_frame ∙ c.if-not-in_frame.true))

pub returns-then-not-in_frame-2 : goal.returns-then-not-in_frame-2
returns-then-not-in_frame-2 c =
    let at = goal.at.returns-then-not-in_frame-2 c in
    let f = own_tested at.After-in_frame ∙ c.if-not-in_frame.false in
    sym (target_outside _ _ _ _ f (target_tested at.After-in_frame-2 ∙ c.if-not-in_frame-2.true))

pub move_by-requires : goal.move_by-requires
move_by-requires c =
    let at = goal.at.move_by-requires c in
    let f = own_tested at.After-in_frame ∙ c.if-not-in_frame.false in
    let g = target_tested at.After-in_frame-2 ∙ c.if-not-in_frame-2.false in
    rw (back_x at.After-with_sign-2, back_y at.After-with_sign-2) (back_stakeable _ _ _ _ f c.requires g)

pub returns : goal.returns
returns c =
    let a = c.args in
    let at = goal.at.returns c in
    let f = own_tested at.After-in_frame ∙ c.if-not-in_frame.false in
    let g = target_tested at.After-in_frame-2 ∙ c.if-not-in_frame-2.false in
    c.move_by.ensures
    ∙ ap₂ (λ (x y : ℤ). By (forward_of a.own a.target x y) (left_of a.own a.target x y)) (back_x at.After-with_sign-2) (back_y at.After-with_sign-2)
    ∙ sym (moves_back _ _ _ _ f g)
