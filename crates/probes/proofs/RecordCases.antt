-- What the call for a record comes to: 18 for room of another size; the record; the reader's refusal, which is one of the table's.
use Prim.Native.Nat.{ℕ}
use mathlib.Core.List.{List, [], ◌∷◌}
use mathlib.Core.Path.{◌≡◌, ap, ◌∙◌, subst}
use lib.Dec.{ltb}
use lib.ListN.{length}
use borrow.Author.Tests.{eq-eqb, ne_eqb}
use Rattle.model.specs.declared.Refusal.{Refusal}
use Rattle.model.specs.declared.Outcome.{Outcome}
use Rattle.model.specs.declared.Outcome.TheVariants.{Done, Refused}
use Rattle.model.specs.Records.{record_bytes, count_of}
use Rattle.model.specs.Refusals.{rule₀, or_refused, refusal, asked_out_of_range}
use Rattle.model.specs.Acceptance.{crest_rules}
use Rattle.model.specs.Answers.{code, refused_with, paper_of_outcome, reader_outcome, reader_part}
use Rattle.codes.specs.Codes.{Codable}
use Rattle.sources.proofs.Sound.{file_sound}
use Rattle.crestfile.proofs.Placed.{none_placed}
use Rattle.codes.proofs.Codes.{after_codable, unplaced}
use Rattle.probes.specs.ProbeCalls.{record_room, record_call}

module _ (file : List ℕ) (r : ℕ) where
  reader_codable : Codable (paper_of_outcome (reader_outcome file r))
  unfolding reader_outcome
  reader_codable =
      let known = ltb r (count_of (record_bytes file)) in
      after_codable (crest_rules file) (rule₀ asked_out_of_range known ∷ []) (file_sound file).places (unplaced asked_out_of_range known [] none_placed)

  pub refusal_codable : {why : Refusal} → reader_outcome file r ≡ Refused why → Codable (refused_with why 0)
  unfolding paper_of_outcome
  refusal_codable e = subst (λ (o : Outcome). Codable (paper_of_outcome o)) e reader_codable

  module _ (room : List ℕ) where
    pub copy_room : (length room ≡ 32 → ⊥) → record_call file r room ≡ (18, room)
    unfolding record_call or_refused refusal code paper_of_outcome record_room
    copy_room other = rw (ne_eqb (length room) 32 other)

    -- what the reader's outcome leaves
    abbrev left : Outcome → ℕ × List ℕ
    left o = (code (paper_of_outcome o), record_room o (reader_part file r) room)

    module _ (sized : length room ≡ 32) where
      by_reader : record_call file r room ≡ left (reader_outcome file r)
      unfolding record_call or_refused
      by_reader = rw (eq-eqb (length room) 32 sized)

      pub copy_taken : reader_outcome file r ≡ Done → record_call file r room ≡ (0, reader_part file r)
      unfolding code paper_of_outcome record_room
      copy_taken e = by_reader ∙ ap left e

      pub copy_refused : {why : Refusal} → reader_outcome file r ≡ Refused why → record_call file r room ≡ (code (refused_with why 0), room)
      unfolding paper_of_outcome record_room
      copy_refused e = by_reader ∙ ap left e
