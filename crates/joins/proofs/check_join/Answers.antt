-- `joins::check_join` meets its contract: the gap is judged before the kink.
use mathlib.Core.Path.{◌≡◌, sym, ap₂, ◌∙◌}
use Rattle.model.specs.Refusals.{verdict, or_refused, refusal, number}
use Rattle.model.specs.Acceptance.{widest_gap, widest_kink, close_by}
use Rattle.joins.specs.Joins.{position_in, direction_in, placed_rules}
use Rattle.joins.proofs.check_join.Goals.{After-close_by-continues, After-close_by-meets}
use Rattle.joins.proofs.check_join.Goals as goal

pub close_by-meets-requires : goal.close_by-meets-requires
close_by-meets-requires c =
    let p = c.requires.small_placement in
    let q = c.requires.small_placement_2 in
    rw (c.position_in.ensures, c.position_in-2.ensures) (record { small_point = record { x = p.x; y = p.y }; small_point_2 = record { x = q.x; y = q.y } })

pub close_by-continues-requires : goal.close_by-continues-requires
close_by-continues-requires c =
    let p = c.requires.small_placement in
    let q = c.requires.small_placement_2 in
    rw (c.direction_in.ensures, c.direction_in-2.ensures) (record { small_point = record { x = p.tx; y = p.ty }; small_point_2 = record { x = q.tx; y = q.ty } })

-- what the two tests say of the placements
gap_tested : (c : After-close_by-meets) → let a = c.args in close_by widest_gap (position_in a.last) (position_in a.first) ≡ c.close_by-meets.result
gap_tested c = sym (c.close_by-meets.ensures ∙ ap₂ (close_by widest_gap) c.position_in.ensures c.position_in-2.ensures)

kink_tested : (c : After-close_by-continues) → let a = c.args in close_by widest_kink (direction_in a.last) (direction_in a.first) ≡ c.close_by-continues.result
kink_tested c = sym (c.close_by-continues.ensures ∙ ap₂ (close_by widest_kink) c.direction_in.ensures c.direction_in-2.ensures)

pub returns-then-not-meets : goal.returns-then-not-meets
unfolding verdict placed_rules or_refused refusal number
returns-then-not-meets c = rw (gap_tested (goal.at.returns-then-not-meets c).After-close_by-meets, c.if-not-meets.true) c.refused.ensures.value

pub returns-then-not-continues : goal.returns-then-not-continues
unfolding verdict placed_rules or_refused refusal number
returns-then-not-continues c =
    let at = goal.at.returns-then-not-continues c in
    rw (gap_tested at.After-close_by-meets, c.if-not-meets.false, kink_tested at.After-close_by-continues, c.if-not-continues.true) c.refused-then-not-continues.ensures.value

pub returns : goal.returns
unfolding verdict placed_rules or_refused refusal number
returns c =
    let at = goal.at.returns c in
    rw (gap_tested at.After-close_by-meets, c.if-not-meets.false, kink_tested at.After-close_by-continues, c.if-not-continues.false)
