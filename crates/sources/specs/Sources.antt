-- A crest as its lent bytes and how to read them: the rules of their layout, their record bytes, and where record r starts. A file is a source of crests; records in a row are what the writer checks.
use Rattle.std.specs.Prelude.{ℕ, ◌*◌, List, [], ◌∷◌, ◌++◌, ◌≡◌, length}
use Rattle.std.specs.Borrow.{Bor}
use Rattle.model.specs.declared.Element.{Element}
use Rattle.model.specs.declared.Outcome.TheVariants.{Done}
use Rattle.model.specs.Records.{record_size, record_start, record_bytes, count_of}
use Rattle.model.specs.Refusals.{Rule, rule₀, verdict, record_count}
use Rattle.model.specs.Acceptance.{blocks_rules, records_rules, elements_of}
use Rattle.model.specs.Writer.{count_fits}
use Rattle.model.specs.Accepted.{AlignmentAccepted}
use Rattle.model.specs.Crest.{Crest}
use Rattle.sources.specs.declared.Form.{Form}
use Rattle.sources.specs.declared.Form.TheVariants.{File, Row}

-- what has to hold before a record is read: 1 to 3 of a file; 17 of the writer's records
unfoldable pub layout_rules : Form → List ℕ → List ℕ → List Rule
unfolding blocks_rules count_fits
layout_rules File crest amendment = blocks_rules crest
layout_rules Row crest amendment = rule₀ record_count (count_fits (length crest)) ∷ []

-- the record bytes, one record after the other
unfoldable pub records_in : Form → List ℕ → List ℕ → List ℕ
unfolding record_bytes
records_in File crest amendment = record_bytes crest
records_in Row crest amendment = crest

-- how many they are
abbrev pub count_in : Form → List ℕ → List ℕ → ℕ
count_in form crest amendment = count_of (records_in form crest amendment)

-- where record r starts in the lent bytes
unfoldable pub start_in : Form → ℕ → ℕ
start_in File r = record_start r
start_in Row r = record_size * r

abbrev pub elements_in : Form → List ℕ → List ℕ → List Element
elements_in form crest amendment = elements_of (records_in form crest amendment)

-- the crest that they make
abbrev pub crest_in : Form → List ℕ → List ℕ → Crest
crest_in form crest amendment =
    record { rules = layout_rules form crest amendment ++ records_rules (records_in form crest amendment); elements = elements_in form crest amendment }

-- the same of lent bytes
abbrev pub elements_lent : Form → Bor (List ℕ) → Bor (List ℕ) → List Element
elements_lent form crest amendment = elements_in form crest.now amendment.now

abbrev pub crest_lent : Form → Bor (List ℕ) → Bor (List ℕ) → Crest
crest_lent form crest amendment = crest_in form crest.now amendment.now

-- what the way to a record asks
abbrev pub Readable : Form → List ℕ → List ℕ → Type 0
Readable form crest amendment = verdict (layout_rules form crest amendment) ≡ Done

-- what a question asks: its records can be read, and are an accepted alignment
pub record SourceAccepted (form : Form) (crest amendment : List ℕ) : Type 0 where
  pub readable : Readable form crest amendment
  pub alignment : AlignmentAccepted (elements_in form crest amendment)
