-- The order of a crest's own refusals in steps: the layout, each record, the joins.
use Prim.Native.Nat.{ℕ}
use mathlib.Core.List.{List}
use mathlib.Core.Path.{◌≡◌, ◌∙◌}
use Rattle.model.specs.declared.Refusal.{Refusal}
use Rattle.model.specs.declared.Outcome.TheVariants.{Done, Refused}
use Rattle.model.specs.Refusals.{verdict}
use Rattle.model.specs.Acceptance.{each_record, each_join, records_rules}
use Rattle.model.specs.Crest.{check_of}
use Rattle.model.proofs.Verdict.{verdict_after, refused_before}
use Rattle.sources.specs.declared.Form.{Form}
use Rattle.sources.specs.Sources.{layout_rules, records_in, crest_in, Readable}

module _ (form : Form) (crest amendment : List ℕ) where
  pub layout_refused : {x : Refusal} → verdict (layout_rules form crest amendment) ≡ Refused x → check_of (crest_in form crest amendment) ≡ Refused x
  layout_refused e = refused_before (layout_rules form crest amendment) _ e

  records_left : Readable form crest amendment → check_of (crest_in form crest amendment) ≡ verdict (records_rules (records_in form crest amendment))
  records_left l = verdict_after (layout_rules form crest amendment) _ l

  pub record_refused : {x : Refusal} → Readable form crest amendment → verdict (each_record (records_in form crest amendment)) ≡ Refused x → check_of (crest_in form crest amendment) ≡ Refused x
  unfolding records_rules
  record_refused l e = records_left l ∙ refused_before (each_record (records_in form crest amendment)) _ e

  pub joins_decide : Readable form crest amendment → verdict (each_record (records_in form crest amendment)) ≡ Done → check_of (crest_in form crest amendment) ≡ verdict (each_join (records_in form crest amendment))
  unfolding records_rules
  joins_decide l e = records_left l ∙ verdict_after (each_record (records_in form crest amendment)) _ e
