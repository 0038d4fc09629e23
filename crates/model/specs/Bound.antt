-- docs/RULES.md, chapter 3; document 01, "Position on an element", from the words "Bound, stated over whole numbers": the three-term sums as fractions, and what it is to lie within 2 grains of one.
use Rattle.std.specs.Prelude.{ℕ, ◌*◌, ◌≤◌, ◌^◌, ℤ, pos, nat_abs, ◌+ℤ◌, ◌-ℤ◌, ◌*ℤ◌}
use Rattle.std.proofs.Math.IntN.{pow, one}
use Rattle.model.specs.declared.Shape.{Shape}
use Rattle.model.specs.declared.Shape.TheVariants.{Straight, Circular, Clothoid}
use Rattle.model.specs.declared.Element.{Element}
use Rattle.model.specs.Kinds.{shape_of}
use Rattle.model.specs.Series.{Fraction, fraction, length_at, turn_at, unsigned_at}

-- "each lie within 2 grains of the exact fraction", "stated over whole numbers with the sum's denominator multiplied out"
unfoldable pub Within2 : ℤ → Fraction → Type 0
Within2 u f = nat_abs (pos f.denominator *ℤ u -ℤ f.numerator) ≤ 2 * f.denominator

-- 1 − φ²/a + φ⁴/b at φ = m/q: the numerator over a·b·q⁴
unfoldable pub three_terms : ℕ → ℕ → ℤ → ℕ → ℤ
unfolding pow one
three_terms a b m q = pos (a * b * q ^ 4) -ℤ pos (b * q ^ 2) *ℤ pow m 2 +ℤ pos a *ℤ pow m 4

-- 100z(1 − φ²/a + φ⁴/b)
unfoldable pub along_sum : ℕ → ℕ → ℕ → ℤ → ℕ → Fraction
unfolding three_terms
along_sum a b z m q = fraction (pos (100 * z) *ℤ three_terms a b m q) (a * b * q ^ 4)

-- 100zφ(1 − φ²/a + φ⁴/b)/k
unfoldable pub aside_sum : ℕ → ℕ → ℕ → ℕ → ℤ → ℕ → Fraction
unfolding three_terms
aside_sum k a b z m q = fraction (pos (100 * z) *ℤ m *ℤ three_terms a b m q) (k * (a * b * q ^ 5))

-- "arc ..: u 100s(1 − φ²/6 + φ⁴/120)", "spiral ..: U 100l(1 − τ²/10 + τ⁴/216)"; on a line u is 100s.
unfoldable pub exact_along : Shape → ℕ → Fraction → Fraction
unfolding along_sum
exact_along Straight l φ = fraction (pos (100 * l)) 1
exact_along Circular l φ = along_sum 6 120 l φ.numerator φ.denominator
exact_along Clothoid l τ = along_sum 10 216 l τ.numerator τ.denominator

-- "v 50sφ(1 − φ²/12 + φ⁴/360)", "V 100lτ(1 − τ²/14 + τ⁴/440)/3"; on a line v is 0.
unfoldable pub exact_aside : Shape → ℕ → Fraction → Fraction
unfolding aside_sum
exact_aside Straight l φ = fraction (pos 0) 1
exact_aside Circular l φ = aside_sum 2 12 360 l φ.numerator φ.denominator
exact_aside Clothoid l τ = aside_sum 3 14 440 l τ.numerator τ.denominator

-- the exact sums at s mm from an element's start
unfoldable pub exact_along_at : Element → ℕ → Fraction
unfolding exact_along shape_of length_at turn_at
exact_along_at e s = exact_along (shape_of e.kind) (length_at e s) (turn_at e s)

unfoldable pub exact_aside_at : Element → ℕ → Fraction
unfolding exact_aside shape_of length_at turn_at
exact_aside_at e s = exact_aside (shape_of e.kind) (length_at e s) (turn_at e s)

-- the bound there: "u and v (on a spiral U and V)"
pub record Bounded (e : Element) (s : ℕ) : Type 0 where
  pub along : Within2 (unsigned_at e s).along (exact_along_at e s)
  pub aside : Within2 (unsigned_at e s).aside (exact_aside_at e s)
