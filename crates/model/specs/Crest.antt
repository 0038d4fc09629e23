-- docs/RULES.md, rule 2.15. A crest: the rules that its bytes have to pass, in their order, and its elements. Every question but the reader's is put to one; bytes are only where it comes from.
use Rattle.std.specs.Prelude.{ℕ, ◌≤◌, Bool, ◌&&◌, List, ◌≡◌, leb}
use Rattle.model.specs.declared.Element.{Element}
use Rattle.model.specs.declared.Refusal.{Refusal}
use Rattle.model.specs.declared.Outcome.{Outcome}
use Rattle.model.specs.declared.Outcome.TheVariants.{Done, Refused}
use Rattle.model.specs.Records.{most_records}
use Rattle.model.specs.Refusals.{Rule, Gives, verdict}
use Rattle.model.specs.Acceptance.{crest_rules, crest_elements}
use Rattle.model.specs.Accepted.{AlignmentAccepted}

pub record Crest : Type 0 where
  pub rules : List Rule
  pub elements : List Element

-- "An alignment is accepted when no refusal of its own bytes applies": what a crest's own rules come to
abbrev pub check_of : Crest → Outcome
check_of c = verdict c.rules

-- ---- the sources of a crest

-- a crest file: "here 1 to 9"
abbrev pub file_crest : List ℕ → Crest
file_crest file = record { rules = crest_rules file; elements = crest_elements file }

-- ---- what a source has to show of its crests

-- the numbers that a crest's own rules can give: "here 1 to 9"
unfoldable pub is_own : ℕ → Bool
is_own n = leb 1 n && leb n 9

-- Where a crest's rules refuse nothing it is 1 to 60 elements, each accepted; its rules give its own numbers only; and a refusal's place, a block or a record, is at most 60.
pub record SoundCrest (c : Crest) : Type 0 where
  pub accepted : check_of c ≡ Done → AlignmentAccepted c.elements
  pub own : Gives is_own c.rules
  pub places : (why : Refusal) → check_of c ≡ Refused why → why.place ≤ most_records
