-- The writer's order in steps: the rules of the records in a row, the room; and what it leaves in the room.
use Prim.Native.Nat.{ℕ, ◌*◌, ◌≤◌, ◌<◌}
use mathlib.Core.Bool.{true}
use mathlib.Core.List.{List, [], ◌∷◌}
use mathlib.Core.Path.{◌≡◌, sym, ap, ◌∙◌}
use borrow.Author.Tests.{le-leb, lt-leb}
use lib.Dec.{leb}
use lib.ListN.{length}
use Rattle.model.specs.declared.Refusal.{Refusal}
use Rattle.model.specs.declared.Outcome.{Outcome}
use Rattle.model.specs.declared.Outcome.TheVariants.{Done, Refused}
use Rattle.model.specs.Records.{put}
use Rattle.model.specs.Refusals.{Rule, rule₀, refusal, verdict, wrong_room}
use Rattle.model.specs.Crest.{check_of}
use Rattle.model.specs.Writer.{blocks_needed, count_fits, file_of, writer_rules, writer_outcome, room_after, written}
use Rattle.model.proofs.Verdict.{verdict_after, refused_before}
use Rattle.model.proofs.InSteps.{one_done, one_refused}
use Rattle.crestfile.proofs.WriterRules.{rules_but_room, writer_done}
use Rattle.sources.specs.declared.Form.TheVariants.{Row}
use Rattle.sources.specs.Sources.{layout_rules, records_in, crest_in}
use Rattle.sources.proofs.FormRecords.{records_fit}
use Rattle.sources.proofs.Sound.{rules_accepted}

module _ (records : List ℕ) (room : ℕ) where
  -- 18, of the room
  abbrev roomy : List Rule
  roomy = rule₀ wrong_room (leb (512 * blocks_needed records) room) ∷ []

  pub records_refused : {x : Refusal} → check_of (crest_in Row records []) ≡ Refused x → writer_outcome records room ≡ Refused x
  unfolding writer_outcome writer_rules layout_rules records_in
  records_refused e = refused_before (rules_but_room records) roomy e

  room_decides : check_of (crest_in Row records []) ≡ Done → writer_outcome records room ≡ verdict roomy
  unfolding writer_outcome writer_rules layout_rules records_in
  room_decides e = verdict_after (rules_but_room records) roomy e

  pub room_fits : check_of (crest_in Row records []) ≡ Done → 512 * blocks_needed records ≤ room → writer_outcome records room ≡ Done
  room_fits e h = room_decides e ∙ one_done wrong_room 0 (le-leb _ _ h)

  pub room_refused : check_of (crest_in Row records []) ≡ Done → room < 512 * blocks_needed records → writer_outcome records room ≡ Refused (refusal wrong_room 0)
  room_refused e h = room_decides e ∙ one_refused wrong_room 0 (lt-leb _ _ h)

  pub done_fits : writer_outcome records room ≡ Done → (count_fits (length records) ≡ true) × (512 * blocks_needed records ≤ room)
  unfolding layout_rules records_in
  done_fits e =
      let d = (writer_done records room).0 e in
      (records_fit Row records [] (rules_accepted Row records [] d.0).readable, d.1)

-- ---- the room

pub room_done : (records room : List ℕ) → writer_outcome records (length room) ≡ Done → put room 0 (file_of records) ≡ written records room
unfolding written room_after
room_done records room e = sym (ap (λ (o : Outcome). room_after o records room) e)

pub room_kept : (records room : List ℕ) {x : Refusal} → writer_outcome records (length room) ≡ Refused x → room ≡ written records room
unfolding written room_after
room_kept records room e = sym (ap (λ (o : Outcome). room_after o records room) e)
