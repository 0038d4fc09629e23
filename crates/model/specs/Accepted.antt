-- docs/RULES.md, rules 2.9 to 2.12 and 2.15. An accepted element and an accepted alignment: what a crest that is not refused has, and what functions ask.
use Rattle.std.specs.Prelude.{◌≤◌, true, List, [], ◌∷◌, ◌≡◌, length}
use Rattle.model.specs.declared.Element.{Element}
use Rattle.model.specs.Records.{most_records}
use Rattle.model.specs.Acceptance.{ranges_good, is_unit}

-- An element whose record is refused with neither 6 nor 7.
pub record Accepted (e : Element) : Type 0 where
  pub ranges : ranges_good e ≡ true
  pub unit : is_unit e.c e.s ≡ true

unfoldable pub AllAccepted : List Element → Type 0
AllAccepted [] = Unit {0}
AllAccepted (e ∷ es) = Accepted e × AllAccepted es

-- "A crest alignment is 1 to 60 elements": so many, each accepted as above; its joins are not asked about.
pub record AlignmentAccepted (es : List Element) : Type 0 where
  pub some : 1 ≤ length es
  pub most : length es ≤ most_records
  pub each : AllAccepted es
