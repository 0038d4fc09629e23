-- The reader's order: the refusals of the file, then the record's number; and the part that it hands back.
use Prim.Native.Nat.{ℕ, ◌+◌, ◌≤◌, ◌<◌}
use mathlib.Core.List.{List, [], ◌∷◌}
use mathlib.Core.Path.{◌≡◌, ap, ◌∙◌}
use borrow.Author.Tests.{ltb-true, lt-ltb, le-ltb}
use denote.Ref.{Bor}
use lib.Dec.{ltb}
use lib.ListN.{length}
use Rattle.model.specs.declared.Refusal.{Refusal}
use Rattle.model.specs.declared.Outcome.{Outcome}
use Rattle.model.specs.declared.Outcome.TheVariants.{Done, Refused}
use Rattle.model.specs.Records.{part, record_start}
use Rattle.model.specs.Refusals.{Rule, rule₀, refusal, verdict, asked_out_of_range}
use Rattle.model.specs.Acceptance.{crest_rules}
use Rattle.model.specs.Crest.{check_of}
use Rattle.model.specs.Answers.{Span, span_if, reader_outcome, reader_span}
use Rattle.model.proofs.Verdict.{verdict_after, refused_before, done→all, all→done}
use Rattle.model.proofs.ForEach.{append_all, holds_one}
use Rattle.model.proofs.InSteps.{one_done, one_refused}
use Rattle.sources.specs.declared.Form.TheVariants.{File}
use Rattle.sources.specs.Sources.{layout_rules, records_in, count_in, crest_in, Readable}
use Rattle.sources.proofs.Sound.{rules_accepted}
use Rattle.alignment.specs.Lent.{Lent}

module _ (file : List ℕ) (r : ℕ) where
  -- 15, of the record's number
  abbrev numbered : List Rule
  numbered = rule₀ asked_out_of_range (ltb r (count_in File file [])) ∷ []

  pub file_refused : {x : Refusal} → check_of (crest_in File file []) ≡ Refused x → reader_outcome file r ≡ Refused x
  unfolding reader_outcome crest_rules layout_rules records_in
  file_refused e = refused_before (crest_rules file) numbered e

  number_decides : check_of (crest_in File file []) ≡ Done → reader_outcome file r ≡ verdict numbered
  unfolding reader_outcome crest_rules layout_rules records_in
  number_decides e = verdict_after (crest_rules file) numbered e

  pub number_done : check_of (crest_in File file []) ≡ Done → r < count_in File file [] → reader_outcome file r ≡ Done
  number_done e h = number_decides e ∙ one_done asked_out_of_range 0 (lt-ltb _ _ h)

  pub number_refused : check_of (crest_in File file []) ≡ Done → count_in File file [] ≤ r → reader_outcome file r ≡ Refused (refusal asked_out_of_range 0)
  number_refused e h = number_decides e ∙ one_refused asked_out_of_range 0 (le-ltb _ _ h)

  pub reader_done : reader_outcome file r ≡ Done → Readable File file [] × (r < count_in File file [])
  unfolding reader_outcome crest_rules layout_rules records_in
  reader_done e =
      let a = append_all (crest_rules file) {q = numbered} (done→all _ e) in
      ((rules_accepted File file [] (all→done a.0)).readable, ltb-true _ _ (holds_one a.1))

  pub span_done : reader_outcome file r ≡ Done → reader_span file r ≡ record { start = record_start r; count = 32 }
  unfolding reader_span span_if
  span_done e = ap (λ (o : Outcome). span_if o r) e

  pub span_refused : {x : Refusal} → reader_outcome file r ≡ Refused x → reader_span file r ≡ record { start = 0; count = 0 }
  unfolding reader_span span_if
  span_refused e = ap (λ (o : Outcome). span_if o r) e

-- n bytes from `at` on, as the part that a span names
pub lent : (file : Bor (List ℕ)) {span : Span} {p : Bor (List ℕ)} (at n : ℕ) → span ≡ record { start = at; count = n } → p.now ≡ part file.now at n → length p.now ≡ n → p.ref_ptr ≡ (file.ref_ptr.0, at + file.ref_ptr.1) → Lent file span p
lent file at n e b l q = rw e (record { content = b; count = l; place = q })
