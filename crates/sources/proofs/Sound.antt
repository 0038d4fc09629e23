-- A crest whose rules refuse nothing is an accepted alignment, since its records are 1 to 60 and refuse nothing; so a file is a source of crests.
use Prim.Native.Nat.{ℕ}
use mathlib.Core.List.{List, []}
use mathlib.Core.Path.{◌≡◌}
use native.Mathlib.Omega.{arith}
use Rattle.model.specs.declared.Outcome.TheVariants.{Done}
use Rattle.model.specs.Refusals.{Gives, verdict}
use Rattle.model.specs.Acceptance.{each_record, records_rules, crest_rules, crest_elements}
use Rattle.model.specs.Crest.{check_of, file_crest, is_own, SoundCrest}
use Rattle.model.proofs.Verdict.{done→all, all→done}
use Rattle.model.proofs.RuleNumbers.{gives-++, records_own, blocks_own}
use Rattle.model.proofs.ForEach.{append_all}
use Rattle.crestfile.proofs.Placed.{PlacedOrder, then_placed, blocks_placed, records_placed}
use Rattle.sources.specs.declared.Form.{Form}
use Rattle.sources.specs.declared.Form.TheVariants.{File}
use Rattle.sources.specs.Sources.{layout_rules, records_in, crest_in, Readable, SourceAccepted}
use Rattle.sources.proofs.Elements.{elements_length, elements_accepted}
use Rattle.sources.proofs.FormRecords.{records_counted}

module _ (form : Form) (crest amendment : List ℕ) where
  -- where layout and records refuse nothing
  pub records_accepted : Readable form crest amendment → verdict (each_record (records_in form crest amendment)) ≡ Done → SourceAccepted form crest amendment
  records_accepted l e =
      let bytes = records_in form crest amendment in
      let n = records_counted form crest amendment l in
      let k = elements_length bytes in
      record {
        readable = l;
        alignment = record { some = omega (arith, n.0, k); most = omega (arith, n.1, k); each = elements_accepted bytes (done→all _ e) };
      }

  pub rules_accepted : check_of (crest_in form crest amendment) ≡ Done → SourceAccepted form crest amendment
  unfolding records_rules
  rules_accepted e =
      let a = append_all (layout_rules form crest amendment) (done→all _ e) in
      let b = append_all (each_record (records_in form crest amendment)) a.1 in
      records_accepted (all→done a.0) (all→done b.0)

  -- So a form is a source where the rules of its layout give a crest's own numbers, with places up to 60: those of the records do.
  pub crest_sound : Gives is_own (layout_rules form crest amendment) → PlacedOrder (layout_rules form crest amendment) → SoundCrest (crest_in form crest amendment)
  crest_sound own placed =
      let bytes = records_in form crest amendment in
      record {
        accepted = λ e. (rules_accepted e).alignment;
        own = gives-++ own (records_own bytes);
        places = then_placed (layout_rules form crest amendment) (records_rules bytes) placed (λ l. records_placed bytes (records_counted form crest amendment l).1);
      }

-- what a crest file has to show
pub file_sound : (file : List ℕ) → SoundCrest (file_crest file)
unfolding crest_rules crest_elements layout_rules records_in
file_sound file = crest_sound File file [] (blocks_own file) (blocks_placed file)
