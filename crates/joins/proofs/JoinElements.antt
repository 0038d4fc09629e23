-- Where an element begins and ends, and the joins of a crest that are left to check.
use Prim.Native.Nat.{ℕ, ◌+◌, ◌-◌, ◌≤◌, ◌<◌}
use mathlib.Core.List.{List}
use mathlib.Core.Path.{◌≡◌, ap, ◌∙◌}
use native.Mathlib.Nat.{lt_of_le_of_lt}
use native.Mathlib.Omega.{arith}
use Rattle.model.specs.declared.Element.{Element}
use Rattle.model.specs.Refusals.{Rule}
use Rattle.model.specs.Series.{position_on, tangent_on}
use Rattle.model.specs.Acceptance.{meets, continues, join_rules, element_at}
use Rattle.model.specs.Accepted.{Accepted}
use Rattle.elements.specs.declared.Placement.{Placement}
use Rattle.elements.specs.declared.Prepared.{Prepared}
use Rattle.elements.specs.Prepared.{prepared_of}
use Rattle.elements.specs.Reached.{placement_of}
use Rattle.elements.proofs.Extent.{extent}
use Rattle.model.proofs.InSteps.{Left}
use Rattle.sources.specs.declared.Form.{Form}
use Rattle.sources.specs.Sources.{records_in, count_in}
use Rattle.sources.proofs.RecordsRead.{element_in, RecordsRead}
use Rattle.joins.specs.Joins.{SmallPlacement, placed_rules}

-- ---- the ends of an element

abbrev pub placement_on : Element → ℕ → Placement
placement_on e s = placement_of (position_on e s) (tangent_on e s)

pub prepared_placed : (e : Element) {p : Prepared} {q : Placement} (s : ℕ) → p ≡ prepared_of e → q ≡ placement_on p.element s → q ≡ placement_on e s
unfolding prepared_of
prepared_placed e s h k = k ∙ ap (λ (x : Prepared). placement_on x.element s) h

pub prepared_length : (e : Element) {p : Prepared} → p ≡ prepared_of e → p.element.length ≡ e.length
unfolding prepared_of
prepared_length e h = ap (λ (x : Prepared). x.element.length) h

pub small_placed : {e : Element} → Accepted e → {s : ℕ} → s ≤ e.length → SmallPlacement (placement_on e s)
small_placed a h =
    let x = extent a h in
    record { x = lt_of_le_of_lt x.x (omega arith); y = lt_of_le_of_lt x.y (omega arith); tx = x.tx; ty = x.ty }

-- ---- the joins one after the other

-- the join after record r of record bytes
abbrev pub join_at : List ℕ → ℕ → List Rule
join_at bytes r = join_rules (element_at bytes r) (element_at bytes (r + 1)) r

-- the joins before r refuse nothing, and `last` is where the element of record r ends
pub record Joined (form : Form) (crest amendment : List ℕ) (count : ℕ) (last : Placement) (r : ℕ) : Type 0 where
  pub reading : RecordsRead form crest amendment count
  pub within : r < count
  pub end : last ≡ placement_on (element_in form crest amendment r) (element_in form crest amendment r).length
  pub left : Left (join_at (records_in form crest amendment)) (count_in form crest amendment - 1) r

-- the join after record r, from where its element ends and where the next begins
pub join_here : {form : Form} {crest amendment : List ℕ} {count r : ℕ} {last first : Placement} → Joined form crest amendment count last r → first ≡ placement_on (element_in form crest amendment (r + 1)) 0 → join_at (records_in form crest amendment) r ≡ placed_rules last first r
unfolding join_rules placed_rules meets continues
join_here j f = rw (j.end, f)
