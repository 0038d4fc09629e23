-- An accepted element's numbers: what the rules of ranges and direction say of them, as facts.
use Prim.Native.Nat.{ℕ, ◌*◌, ◌≤◌, ◌^◌}
use mathlib.Core.Bool.{◌&&◌}
use mathlib.Core.List.{List}
use mathlib.Core.Path.{◌≡◌, sym, subst}
use native.Mathlib.Omega.{arith}
use lib.Dec.{T, leb, leb→le, eqb→eq}
use lib.IntN.{pos, nat_abs, ◌+ℤ◌, ◌-ℤ◌, ◌*ℤ◌}
use mir.Facts.{and_yes}
use Rattle.model.specs.declared.Shape.{Shape}
use Rattle.model.specs.declared.Shape.TheVariants.{Straight, Circular, Clothoid}
use Rattle.model.specs.declared.Element.{Element}
use Rattle.model.specs.Kinds.{shape_of}
use Rattle.model.specs.Series.{whole_length}
use Rattle.model.specs.Acceptance.{longest_element, widest, frame, unit_slack, length_good, radius_good, in_frame, ranges_good, is_unit, element_of, record_rules}
use Rattle.model.specs.Accepted.{Accepted}
use Rattle.model.specs.declared.Outcome.TheVariants.{Done}
use Rattle.model.specs.Refusals.{verdict}
use Rattle.model.proofs.Verdict.{AllHold, none, more, done→all}

unfoldable pub RadiusFits : Shape → ℕ → ℕ → Type 0
RadiusFits Straight l r = r ≡ 0
RadiusFits Circular l r = (2 * l ≤ r) × (r ≤ widest)
RadiusFits Clothoid l r = (l ≤ r) × (r ≤ widest)

pub record Numbers (e : Element) : Type 0 where
  pub shortest : 1 ≤ e.length
  pub longest : whole_length e ≤ longest_element
  pub whole : 1 ≤ whole_length e
  pub radius : RadiusFits (shape_of e.kind) (whole_length e) (nat_abs e.radius)
  pub anchor_x : nat_abs e.x ≤ frame
  pub anchor_y : nat_abs e.y ≤ frame
  pub unit : nat_abs (e.c *ℤ e.c +ℤ e.s *ℤ e.s -ℤ pos (2 ^ 60)) ≤ unit_slack

between : (a b c d : ℕ) → T (leb a b && leb c d) → (a ≤ b) × (c ≤ d)
between a b c d t = let g = and_yes (leb a b) (leb c d) t in (leb→le a b g.0, leb→le c d g.1)

radius_fits : (k : Shape) (l r : ℕ) → T (radius_good k l r) → RadiusFits k l r
unfolding radius_good RadiusFits
radius_fits Straight l r t = eqb→eq r 0 t
radius_fits Circular l r t = between (2 * l) r r widest t
radius_fits Clothoid l r t = between l r r widest t

pub numbers : {e : Element} → Accepted e → Numbers e
unfolding ranges_good is_unit length_good in_frame
numbers {e} a =
    let g = and_yes (length_good e.length && radius_good (shape_of e.kind) (whole_length e) (nat_abs e.radius)) (in_frame e.x e.y) (subst T (sym a.ranges) tt) in
    let h = and_yes (length_good e.length) (radius_good (shape_of e.kind) (whole_length e) (nat_abs e.radius)) g.0 in
    let l = between 1 e.length e.length longest_element h.0 in
    let f = between (nat_abs e.x) frame (nat_abs e.y) frame g.1 in
    record {
      shortest = l.0;
      longest = l.1;
      whole = omega (arith, l.0);
      radius = radius_fits (shape_of e.kind) (whole_length e) (nat_abs e.radius) h.1;
      anchor_x = f.0;
      anchor_y = f.1;
      unit = leb→le (nat_abs (e.c *ℤ e.c +ℤ e.s *ℤ e.s -ℤ pos (2 ^ 60))) unit_slack (subst T (sym a.unit) tt);
    }

-- ---- a record that its rules accept

record_accepted' : (this : List ℕ) (r : ℕ) → AllHold (record_rules this r) → Accepted (element_of this)
unfolding record_rules
record_accepted' this r (more a (more b (more c (more d (more e none))))) = record { ranges = d; unit = e }

pub record_accepted : (this : List ℕ) (r : ℕ) → verdict (record_rules this r) ≡ Done → Accepted (element_of this)
record_accepted this r h = record_accepted' this r (done→all (record_rules this r) h)
