-- The stake-out's answers in the order of its rules: 11 for the stake's own point, 11 for its target, 7 for the heading, then the move.
use mathlib.Core.Bool.{Bool, true, false}
use mathlib.Core.Path.{◌≡◌, refl, sym, ◌∙◌}
use native.Mathlib.Omega.{arith}
use Prim.Native.Nat.{◌*◌, ◌≤◌}
use borrow.Author.Tests.{leb-true}
use lib.IntN.{ℤ, pos, nat_abs, neg_ℤ, ◌+ℤ◌, ◌-ℤ◌, ◌*ℤ◌}
use Rattle.integers.proofs.Abs.{nat_abs_neg, nat_abs--}
use Rattle.integers.proofs.Order.{clash}
use Rattle.model.specs.declared.Point.{Point}
use Rattle.model.specs.declared.Move.TheVariants.{By, Refused}
use Rattle.model.specs.Refusals.{verdict, or_refused, refusal, number}
use Rattle.model.specs.Acceptance.{frame, unit_square, unit_slack, in_frame, is_unit}
use Rattle.model.specs.Rounding.{ONE, near}
use Rattle.model.specs.Judged.{minus}
use Rattle.model.specs.Answers.{answer_if, answer_after, forward_of, left_of, move_rules, move_question, stake_out}
use Rattle.plane.proofs.Frame.{framed}
use Rattle.rounding.proofs.Sizes.{near_turn}
use Rattle.elements.proofs.Extent.{unit_within, unit_within'}
use Rattle.stakes.specs.StakeRanges.{Stakeable}

module _ (own target : Point) (c s : ℤ) where
  pub own_outside : in_frame own.x own.y ≡ false → stake_out own target c s ≡ Refused (record { number = 11; place = 0 })
  unfolding answer_after answer_if move_question move_rules verdict or_refused refusal number
  own_outside h = rw h

  module _ (f : in_frame own.x own.y ≡ true) where
    pub target_outside : in_frame target.x target.y ≡ false → stake_out own target c s ≡ Refused (record { number = 11; place = 0 })
    unfolding answer_after answer_if move_question move_rules verdict or_refused refusal number
    target_outside h = rw (f, h)

    module _ (g : in_frame target.x target.y ≡ true) where
      pub no_unit : is_unit c s ≡ false → stake_out own target c s ≡ Refused (record { number = 7; place = 0 })
      unfolding answer_after answer_if move_question move_rules verdict or_refused refusal number
      no_unit h = rw (f, g, h)

      pub moves : is_unit c s ≡ true → stake_out own target c s ≡ By (forward_of own target c s) (left_of own target c s)
      unfolding answer_after answer_if move_question move_rules verdict or_refused refusal number
      moves h = rw (f, g, h)

      pub stakeable : is_unit c s ≡ true → Stakeable own target c s
      unfolding is_unit
      stakeable h =
          let u : nat_abs (c *ℤ c +ℤ s *ℤ s -ℤ pos unit_square) ≤ unit_slack = leb-true _ _ h in
          record { from = framed own f; to = framed target g; first = omega (arith, unit_within c s u); second = omega (arith, unit_within' c s u) }

apart : (a b : ℤ) → nat_abs a ≤ frame → nat_abs b ≤ frame → nat_abs (a -ℤ b) ≤ 2 * frame
apart a b h k = omega (arith, nat_abs-- a b)

-- a move along either axis is below 2^31: the products of a component and a difference are at most 800,000,000 times ONE
pub moved_small : (own target : Point) (c s : ℤ) {forward left : ℤ} → Stakeable own target c s → By (forward_of own target c s) (left_of own target c s) ≡ By forward left → (nat_abs forward ≤ 8 * frame) × (nat_abs left ≤ 8 * frame)
unfolding forward_of left_of minus
moved_small own target c s {forward} {left} k e =
    let dx = target.x -ℤ own.x in
    let dy = target.y -ℤ own.y in
    let x = apart target.x own.x k.to.x k.from.x in
    let y = apart target.y own.y k.to.y k.from.y in
    let f : forward ≡ near (c *ℤ dx +ℤ s *ℤ dy) ONE = cc in
    let l : left ≡ near (neg_ℤ s *ℤ dx +ℤ c *ℤ dy) ONE = cc in
    let m : nat_abs (neg_ℤ s) ≤ 2 * ONE = omega (arith, nat_abs_neg s, k.second) in
    (rw f (near_turn 2 c dx s dy k.first k.second x y).1, rw l (near_turn 2 (neg_ℤ s) dx c dy m k.first x y).1)

-- what is answered fits an i32
pub move_small : (own target : Point) (c s : ℤ) {forward left : ℤ} → stake_out own target c s ≡ By forward left → (nat_abs forward ≤ 8 * frame) × (nat_abs left ≤ 8 * frame)
move_small own target c s {forward} {left} e = go (in_frame own.x own.y) refl (in_frame target.x target.y) refl (is_unit c s) refl
  where
    go : (f : Bool) → in_frame own.x own.y ≡ f → (g : Bool) → in_frame target.x target.y ≡ g → (u : Bool) → is_unit c s ≡ u → (nat_abs forward ≤ 8 * frame) × (nat_abs left ≤ 8 * frame)
    go false h g i u j = let r = own_outside own target c s h in clash cc
    go true h false i u j = let r = target_outside own target c s h i in clash cc
    go true h true i false j = let r = no_unit own target c s h i j in clash cc
    go true h true i true j = moved_small own target c s (stakeable own target c s h i j) (sym (moves own target c s h i j) ∙ e)
