-- docs/RULES.md, chapter 4; document 01, "Station, offset, inverse, stake-out": stations, and what lies at one.
use Rattle.std.specs.Prelude.{ℕ, ◌+◌, ◌-◌, Bool, true, false, ◌&&◌, List, [], ◌∷◌, leb, ltb, ℤ, pos, nat_abs, ◌-ℤ◌}
use Rattle.std.specs.Int.Signed.{non_neg}
use Rattle.integers.specs.Plane.{squared}
use Rattle.model.specs.declared.Kind.TheVariants.{Line}
use Rattle.model.specs.declared.Element.{Element}
use Rattle.model.specs.declared.Point.{Point}
use Rattle.model.specs.Series.{position_on, tangent_on}

-- "The alignment's stations run from 0 to T, the sum of lengths."
unfoldable pub total : List Element → ℕ
total [] = 0
total (e ∷ es) = e.length + total es

-- a whole number that is a station, for 15: "station .. out of range"
unfoldable pub is_station : List Element → ℤ → Bool
unfolding total
is_station es s = non_neg s && leb (nat_abs s) (total es)

-- where a station lies: its element, with its number counted from 0, and "s .. the mm from the element's start"
pub record AtElement : Type 0 where
  pub number : ℕ
  pub element : Element
  pub s : ℕ

abbrev pub at_element : ℕ → Element → ℕ → AtElement
at_element i e s = record { number = i; element = e; s = s }

-- what stands for an element where there is none: no accepted alignment is empty
abbrev pub no_element : Element
no_element = record { kind = Line; length = 0; x = pos 0; y = pos 0; c = pos 0; s = pos 0; radius = pos 0 }

unfoldable pub at_if : Bool → AtElement → AtElement → AtElement
at_if true a b = a
at_if false a b = b

-- "A station at a join belongs to the later element (source document 000: 0 ≤ l < L); T belongs to the last.": of elements of which the first has the number i
unfoldable pub at_from : ℕ → List Element → ℕ → AtElement
unfolding at_if
at_from i [] s = at_element i no_element s
at_from i (e ∷ []) s = at_element i e s
at_from i (e ∷ f ∷ es) s =
    let later = at_from (i + 1) (f ∷ es) (s - e.length) in
    at_if (ltb s e.length) (at_element i e s) later

unfoldable pub at_station : List Element → ℕ → AtElement
unfolding at_from
at_station es s = at_from 0 es s

-- "the position (X, Y) at station s"
unfoldable pub position_at : List Element → ℕ → Point
unfolding at_station position_on
position_at es s = let at = at_station es s in position_on at.element at.s

-- (Tx, Ty) there
unfoldable pub tangent_at : List Element → ℕ → Point
unfolding at_station tangent_on
tangent_at es s = let at = at_station es s in tangent_on at.element at.s

-- "the squared distance" of two points
unfoldable pub distance_sq : Point → Point → ℕ
unfolding squared
distance_sq p q = squared (p.x -ℤ q.x) (p.y -ℤ q.y)

-- "D(s) is the squared distance from the point P to the position (X, Y) at station s."
unfoldable pub D : List Element → Point → ℕ → ℕ
unfolding distance_sq position_at
D es p s = let q = position_at es s in distance_sq p q
