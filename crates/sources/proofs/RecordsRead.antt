-- A loop that reads an accepted crest record by record: what it knows at each turn.
use Prim.Native.Nat.{ℕ, suc, ◌≤◌, ◌<◌}
use mathlib.Core.List.{List, ◌∷◌}
use mathlib.Core.Path.{◌≡◌, ◌∙◌, sym}
use native.Mathlib.Omega.{arith}
use lib.ListN.{length, drop}
use Rattle.model.specs.declared.Element.{Element}
use Rattle.model.specs.Acceptance.{element_at}
use Rattle.model.specs.Accepted.{Accepted}
use Rattle.sources.specs.declared.Form.{Form}
use Rattle.sources.specs.Sources.{records_in, count_in, elements_in, Readable, SourceAccepted}
use Rattle.sources.proofs.Elements.{elements_length, elements_at, each_accepted}
use Rattle.sources.proofs.FormRecords.{records_counted}

-- the element of record i
abbrev pub element_in : Form → List ℕ → List ℕ → ℕ → Element
element_in form crest amendment i = element_at (records_in form crest amendment) i

pub record RecordsRead (form : Form) (crest amendment : List ℕ) (count : ℕ) : Type 0 where
  pub source : SourceAccepted form crest amendment
  pub all : count ≡ count_in form crest amendment

module _ {form : Form} {crest amendment : List ℕ} {count : ℕ} (r : RecordsRead form crest amendment count) where
  pub read_length : length (elements_in form crest amendment) ≡ count
  read_length = elements_length (records_in form crest amendment) ∙ sym r.all

  pub read_count : (1 ≤ count) × (count ≤ 60)
  read_count = let n = records_counted form crest amendment r.source.readable in (omega (arith, n.0, r.all), omega (arith, n.1, r.all))

  -- what the way to record i asks
  pub read_asks : (i : ℕ) → i < count → Readable form crest amendment × (i < count_in form crest amendment)
  read_asks i h = (r.source.readable, omega (arith, h, r.all))

  pub read_at : (i : ℕ) → i < count → drop i (elements_in form crest amendment) ≡ element_in form crest amendment i ∷ drop (suc i) (elements_in form crest amendment)
  read_at i h = elements_at (records_in form crest amendment) i (omega (arith, h, r.all))

  pub read_accepted : (i : ℕ) → i < count → Accepted (element_in form crest amendment i)
  read_accepted i h = each_accepted (records_in form crest amendment) r.source.alignment.each i (omega (arith, h, r.all))
