-- A sum over stations, one by one.
use mathlib.Core.Bool.{cond}
use mathlib.Core.Path.{◌≡◌, sym, ◌∙◌, subst}
use Prim.Native.Nat.{ℕ, suc, ◌+◌, ◌-◌, ◌*◌, ◌≤◌, ◌<◌}
use native.Mathlib.Decide.{dec_lt}
use native.Mathlib.Omega.{arith}
use lib.Dec.{ltb}
use lib.IntN.{ℤ, pos, nat_abs, ◌+ℤ◌, ◌*ℤ◌, +ℤ_assoc, +ℤ_idl, +ℤ_idr}
use borrow.Author.Tests.{lt-ltb, le-ltb}
use Rattle.integers.proofs.Abs.{nat_abs-+}
use Rattle.integers.proofs.Order.{order, sum, multiple, parts}
use Rattle.model.specs.declared.Element.{Element}
use Rattle.model.specs.Series.{position_on}
use Rattle.model.specs.Accepted.{Accepted}
use Rattle.elements.proofs.Extent.{extent}
use Rattle.element_probe.specs.Sums.{mixed, next_on, sum_from}

-- `left` of the stations are to come, the next at s
pub record Added (e : Element) (count : ℕ) (total : ℤ) (s left : ℕ) : Type 0 where
  pub within : left ≤ count
  pub on : s ≤ e.length
  pub small : nat_abs total ≤ 787500000 * (count - left)
  pub whole : total +ℤ sum_from e left s ≡ sum_from e count 0

pub none_yet : (e : Element) (count : ℕ) → Added e count (pos 0) 0 count
none_yet e count = record { within = omega arith; on = omega arith; small = omega arith; whole = +ℤ_idl (sum_from e count 0) }

next_within : (length s : ℕ) → next_on length s ≤ length
unfolding next_on
next_within length s = go (dec_lt s length)
  where
    go : Dec (s < length) → cond (ltb s length) (s + 1) 0 ≤ length
    go (yes h) = rw (lt-ltb s length h) (omega arith)
    go (no h) = rw (le-ltb s length (omega arith)) (omega arith)

mixed_small : {e : Element} → Accepted e → {s : ℕ} → s ≤ e.length → nat_abs (mixed (position_on e s)) ≤ 787500000
unfolding mixed
mixed_small {e} a {s} h =
    let n = extent a h in
    let x = (position_on e s).x in
    let y = (position_on e s).y in
    omega (order, n.x, n.y, parts x, parts y, multiple 2 y, sum x (pos 2 *ℤ y), parts (x +ℤ pos 2 *ℤ y))

grown : {count left : ℕ} (a b : ℤ) → suc left ≤ count → nat_abs a ≤ 787500000 * (count - suc left) → nat_abs b ≤ 787500000 → nat_abs (a +ℤ b) ≤ 787500000 * (count - left)
grown {count} {left} a b h k l =
    let e : count - left ≡ suc (count - suc left) = omega arith in
    omega (arith, e, nat_abs-+ a b, k, l)

one_more_lem : {e : Element} → Accepted e → {count : ℕ} {total : ℤ} {s left : ℕ} → Added e count total s (suc left) → Added e count (total +ℤ mixed (position_on e s)) (next_on e.length s) left
unfolding sum_from
one_more_lem {e} k {count} {total} {s} {left} a =
    let m = mixed (position_on e s) in
    record {
      within = omega (arith, a.within);
      on = next_within e.length s;
      small = grown total m a.within a.small (mixed_small k a.on);
      whole = +ℤ_assoc total m (sum_from e left (next_on e.length s)) ∙ a.whole;
    }

pub all_added : {e : Element} {count : ℕ} {total : ℤ} {s : ℕ} → Added e count total s 0 → total ≡ sum_from e count 0
unfolding sum_from
all_added {total = total} a = sym (+ℤ_idr total) ∙ a.whole

-- one turn of the loop, with what it stores
pub one_added : {e : Element} → Accepted e → {count : ℕ} {total : ℤ} {s left : ℕ} → Added e count total s left → 0 < left → {z : ℤ} {n : ℕ} → z ≡ total +ℤ mixed (position_on e s) → n ≡ next_on e.length s → Added e count z n (left - 1)
one_added {e} k {count} {total} {s} {left} a h {z} {n} f g =
    let l : left ≡ suc (left - 1) = omega arith in
    subst (λ (y : ℤ). Added e count y n (left - 1)) (sym f)
    (subst (λ (m : ℕ). Added e count (total +ℤ mixed (position_on e s)) m (left - 1)) (sym g) (one_more_lem k (subst (λ (m : ℕ). Added e count total s m) l a)))
