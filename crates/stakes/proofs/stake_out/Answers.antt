-- `stakes::stake_out` meets its contract: the tests in the order of the rules, then the move.
use mathlib.Core.List.{[]}
use mathlib.Core.Path.{◌≡◌, sym, ap₂, ◌∙◌}
use borrow.Author.Rules.{rules}
use lib.IntN.{ℤ}
use mir.Facts.{to_z-of_z}
use mir.Syntax.{w64}
use Rattle.model.specs.declared.Move.TheVariants.{By}
use Rattle.model.specs.Acceptance.{in_frame, is_unit}
use Rattle.model.specs.Answers.{forward_of, left_of}
use Rattle.model.proofs.Answers.{told, move_tells}
use Rattle.stakes.proofs.StakeAnswers.{own_outside, target_outside, no_unit, moves, stakeable}
use Rattle.stakes.proofs.stake_out.Goals.{After-in_frame, After-in_frame-2, After-is_unit}
use Rattle.stakes.proofs.stake_out.Goals as goal

-- ---- what each test says, of the numbers as they came

own_tested : (c : After-in_frame) → let p = c.args.own in in_frame p.x p.y ≡ c.in_frame.result
own_tested c = sym (c.in_frame.ensures ∙ ap₂ in_frame (to_z-of_z {w = w64} (search rules)) (to_z-of_z {w = w64} (search rules)))

target_tested : (c : After-in_frame-2) → let p = c.args.target in in_frame p.x p.y ≡ c.in_frame-2.result
target_tested c = sym (c.in_frame-2.ensures ∙ ap₂ in_frame (to_z-of_z {w = w64} (search rules)) (to_z-of_z {w = w64} (search rules)))

unit_tested : (c : After-is_unit) → is_unit c.args.c c.args.s ≡ c.is_unit.result
unit_tested c = sym (c.is_unit.ensures ∙ ap₂ is_unit (to_z-of_z c.ranges.c) (to_z-of_z c.ranges.s))

pub returns-then-not-in_frame : goal.returns-then-not-in_frame
returns-then-not-in_frame c =
    let a = c.args in
    let at = goal.at.returns-then-not-in_frame c in
    let x = told (move_tells _ _ _ _) [] (sym (own_outside a.own a.target a.c a.s (own_tested at.After-in_frame ∙ c.if-not-in_frame.true))) in
    record { value = x.0; paper = x.1 }

pub returns-then-not-in_frame-2 : goal.returns-then-not-in_frame-2
returns-then-not-in_frame-2 c =
    let a = c.args in
    let at = goal.at.returns-then-not-in_frame-2 c in
    let x = told (move_tells _ _ _ _) [] (sym (target_outside a.own a.target a.c a.s (own_tested at.After-in_frame ∙ c.if-not-in_frame.false) (target_tested at.After-in_frame-2 ∙ c.if-not-in_frame-2.true))) in
    record { value = x.0; paper = x.1 }

pub returns-then-not-is_unit : goal.returns-then-not-is_unit
returns-then-not-is_unit c =
    let a = c.args in
    let at = goal.at.returns-then-not-is_unit c in
    let f = own_tested at.After-in_frame ∙ c.if-not-in_frame.false in
    let g = target_tested at.After-in_frame-2 ∙ c.if-not-in_frame-2.false in
    let x = told (move_tells _ _ _ _) [] (sym (no_unit a.own a.target a.c a.s f g (unit_tested at.After-is_unit ∙ c.if-not-is_unit.true))) in
    record { value = x.0; paper = x.1 }

pub move_by-requires : goal.move_by-requires
move_by-requires c =
    let a = c.args in
    let at = goal.at.move_by-requires c in
    let f = own_tested at.After-in_frame ∙ c.if-not-in_frame.false in
    let g = target_tested at.After-in_frame-2 ∙ c.if-not-in_frame-2.false in
    let u = unit_tested at.After-is_unit ∙ c.if-not-is_unit.false in
    rw (to_z-of_z c.ranges.c, to_z-of_z c.ranges.s) (stakeable a.own a.target a.c a.s f g u)

pub returns : goal.returns
returns c =
    let a = c.args in
    let at = goal.at.returns c in
    let f = own_tested at.After-in_frame ∙ c.if-not-in_frame.false in
    let g = target_tested at.After-in_frame-2 ∙ c.if-not-in_frame-2.false in
    let u = unit_tested at.After-is_unit ∙ c.if-not-is_unit.false in
    let x =
    told
    (move_tells _ _ _ _)
    []
    (c.move_by.ensures
    ∙ ap₂ (λ (x y : ℤ). By (forward_of a.own a.target x y) (left_of a.own a.target x y)) (to_z-of_z c.ranges.c) (to_z-of_z c.ranges.s)
    ∙ sym (moves a.own a.target a.c a.s f g u)) in
    record { value = x.0; paper = x.1 }
