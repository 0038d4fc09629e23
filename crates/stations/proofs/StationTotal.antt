-- T of accepted elements, and where each of them ends, in a loop that reads a crest record by record.
use Prim.Native.Nat.{ℕ, suc, ◌+◌, ◌*◌, ◌≤◌, ◌<◌}
use mathlib.Core.List.{List, [], ◌∷◌}
use mathlib.Core.Path.{◌≡◌}
use native.Mathlib.Omega.{arith}
use lib.ListN.{length, take}
use Rattle.model.specs.declared.Element.{Element}
use Rattle.model.specs.Stations.{total}
use Rattle.model.specs.Acceptance.{longest_alignment, longest_element}
use Rattle.model.specs.Accepted.{AllAccepted}
use Rattle.model.proofs.Accepted.{numbers}
use Rattle.walk_laws.proofs.Own.{total_at}
use Rattle.sources.specs.declared.Form.{Form}
use Rattle.sources.specs.Sources.{elements_in}
use Rattle.sources.proofs.RecordsRead.{RecordsRead, element_in, read_at, read_length, read_count}

-- "1 to 500,000" mm each
pub total_within : (es : List Element) → AllAccepted es → total es ≤ longest_element * length es
unfolding total AllAccepted
total_within [] h = omega arith
total_within (e ∷ es) h = omega (arith, (numbers h.0).longest, total_within es h.1)

module _ {form : Form} {crest amendment : List ℕ} {count : ℕ} (r : RecordsRead form crest amendment count) where
  pub read_total : total (elements_in form crest amendment) ≤ longest_alignment
  read_total = omega (arith, total_within (elements_in form crest amendment) r.source.alignment.each, read_length r, (read_count r).1)

  -- where element i ends
  pub read_ends : (i : ℕ) → i < count →
      (total (take (suc i) (elements_in form crest amendment)) ≡ total (take i (elements_in form crest amendment)) + (element_in form crest amendment i).length)
      × (total (take i (elements_in form crest amendment)) + (element_in form crest amendment i).length ≤ longest_alignment)
  read_ends i h =
      let t = total_at (elements_in form crest amendment) i (element_in form crest amendment i) (read_at r i h) in
      (t.0, omega (arith, t.1, read_total))
