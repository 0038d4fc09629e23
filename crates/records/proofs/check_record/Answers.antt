-- `records::check_record` meets its contract: the refusals in the order of the record's rules, each after the tests before it have passed.
use Prim.Native.Nat.{ℕ}
use mathlib.Core.Bool.{true}
use mathlib.Core.List.{List}
use mathlib.Core.Path.{◌≡◌, sym, ap₂, ◌∙◌}
use mir.Facts.{to_z-of_z}
use mir.Syntax.{w64}
use Rattle.model.specs.declared.KindByte.TheVariants.{Known}
use Rattle.model.specs.declared.Kind.{Kind}
use Rattle.model.specs.declared.Outcome.{Outcome}
use Rattle.model.specs.declared.Outcome.TheVariants.{Done}
use Rattle.model.specs.Kinds.{decide}
use Rattle.model.specs.Records.{byte_at}
use Rattle.model.specs.Refusals.{verdict, or_refused, refusal, number, damaged_record, field_out_of_range, not_unit}
use Rattle.model.specs.Acceptance.{is_damaged, is_later, reserved_zero, ranges_good, is_unit, element_of, record_rules}
use Rattle.model.proofs.Answers.{told_outcome}
use Rattle.records.proofs.check_record.Goals.{After-is_unit, After-ranges_good, Else-not-reserved_zero, In-Known}
use Rattle.records.proofs.check_record.Goals as goal

-- the outcome of a record whose kind is known
abbrev after_kind : List ℕ → ℕ → Outcome
after_kind this r =
    let e = element_of this in
    or_refused (reserved_zero this) damaged_record r (or_refused (ranges_good e) field_out_of_range r (or_refused (is_unit e.c e.s) not_unit r Done))

known_kind : (this : List ℕ) (r : ℕ) (k : Kind) → decide (byte_at this 0) ≡ Known k → verdict (record_rules this r) ≡ after_kind this r
unfolding verdict record_rules or_refused is_damaged is_later
known_kind this r k e = rw e

-- ---- what each test says, at the place after it

known : (c : In-Known) → let a = c.args in verdict (record_rules a.rec.now a.r) ≡ after_kind a.rec.now a.r
known c = known_kind _ _ _ (sym c.kind_of.ensures ∙ c.in-Known.is)

reserved : (c : Else-not-reserved_zero) → reserved_zero c.args.rec.now ≡ true
reserved c = sym c.reserved_zero.ensures ∙ c.if-not-reserved_zero.false

ranges_tested : (c : After-ranges_good) → ranges_good (element_of c.args.rec.now) ≡ c.ranges_good.result
ranges_tested c = rw (← c.element-e.ensures) (sym c.ranges_good.ensures)

unit_tested : (c : After-is_unit) → let e = c.element-e.result in is_unit e.c e.s ≡ c.is_unit.result
unit_tested c =
    let e = c.element-e.result in
    let told = c.struct_told-2-1.given in
    let x = to_z-of_z {w = w64} {z = e.c} (record { sfits = told.1.1.1.1.0.1 }) in
    let y = to_z-of_z {w = w64} {z = e.s} (record { sfits = told.1.1.1.1.1.0.1 }) in
    sym (c.is_unit.ensures ∙ ap₂ is_unit x y)

pub returns-in-Damaged : goal.returns-in-Damaged
unfolding verdict record_rules or_refused refusal number is_damaged is_later
returns-in-Damaged c = let told = told_outcome _ (rw (← c.kind_of.ensures, c.in-Damaged.is) c.refused.ensures.value) in record { value = told.0; paper = told.1 }

pub returns-in-Later : goal.returns-in-Later
unfolding verdict record_rules or_refused refusal number is_damaged is_later
returns-in-Later c = let told = told_outcome _ (rw (← c.kind_of.ensures, c.in-Later.is) c.refused-in-Later.ensures.value) in record { value = told.0; paper = told.1 }

pub returns-then-not-reserved_zero : goal.returns-then-not-reserved_zero
unfolding or_refused refusal number
returns-then-not-reserved_zero c =
    let told = let t = c in
    told_outcome _ (rw (known (goal.at.returns-then-not-reserved_zero c).In-Known, ← t.reserved_zero.ensures, t.if-not-reserved_zero.true) c.refused-then-not-reserved_zero.ensures.value) in record { value = told.0; paper = told.1 }

pub returns-then-not-ranges_good : goal.returns-then-not-ranges_good
unfolding or_refused refusal number
returns-then-not-ranges_good c =
    let told = let r = c.before.before in
    let e = r.before.before in
    told_outcome _ (rw (known (goal.at.returns-then-not-ranges_good c).In-Known, reserved (goal.at.returns-then-not-ranges_good c).Else-not-reserved_zero, ranges_tested (goal.at.returns-then-not-ranges_good c).After-ranges_good, c.if-not-ranges_good.true) c.refused-then-not-ranges_good.ensures.value) in record { value = told.0; paper = told.1 }

pub returns-then-not-is_unit : goal.returns-then-not-is_unit
unfolding or_refused refusal number
returns-then-not-is_unit c =
    let told = let u = c.before.before in
    let r = u.before.before.before.before in
    let e = r.before.before in
    told_outcome _ (rw (known (goal.at.returns-then-not-is_unit c).In-Known, reserved (goal.at.returns-then-not-is_unit c).Else-not-reserved_zero, ranges_tested (goal.at.returns-then-not-is_unit c).After-ranges_good, u.if-not-ranges_good.false, ← r.element-e.ensures, unit_tested (goal.at.returns-then-not-is_unit c).After-is_unit, c.if-not-is_unit.true)
    c.refused-then-not-is_unit.ensures.value) in record { value = told.0; paper = told.1 }

pub returns : goal.returns
unfolding or_refused refusal number
returns c =
    let told = let u = c.before in
    let r = u.before.before.before.before in
    let e = r.before.before in
    told_outcome _ (rw (known (goal.at.returns c).In-Known, reserved (goal.at.returns c).Else-not-reserved_zero, ranges_tested (goal.at.returns c).After-ranges_good, u.if-not-ranges_good.false, ← r.element-e.ensures, unit_tested (goal.at.returns c).After-is_unit, c.if-not-is_unit.false)) in record { value = told.0; paper = told.1 }
