-- `probes::probe_record` meets its contract: the room first, then what the reader comes to.
use Prim.Native.Nat.{ℕ}
use mathlib.Core.List.{List}
use mathlib.Core.Path.{◌≡◌, sym, ap, ◌∙◌}
use native.Mathlib.Omega.{arith}
use lib.ListN.{length}
use Rattle.model.specs.declared.Outcome.TheVariants.{Done}
use Rattle.model.specs.Answers.{Span, reader_outcome}
use Rattle.alignment.proofs.PartOrders.{span_done}
use Rattle.fields.proofs.Puts.{put_whole}
use Rattle.probes.proofs.RecordCases.{refusal_codable, copy_room, copy_taken, copy_refused}
use Rattle.probes.proofs.probe_record.Goals.{After-record_part}
use Rattle.probes.proofs.probe_record.Goals as goal

pub returns-then-out-ne-RECORD_SIZE : goal.returns-then-out-ne-RECORD_SIZE
returns-then-out-ne-RECORD_SIZE c = sym (copy_room _ _ _ c.if-out-ne-RECORD_SIZE.true)

module _ (c : After-record_part) where
  done : reader_outcome c.args.crest.now c.args.i ≡ Done
  done = sym c.record_outcome.ensures.value ∙ c.in-Done.is

  sized : length c.args.out.now ≡ 32
  sized = c.if-out-ne-RECORD_SIZE.false

  -- a record is as long as its room
  whole : length c.record_part.result.now ≡ 32
  whole = c.record_part.ensures.lent.count ∙ ap (λ (s : Span). s.count) (span_done _ _ done)

pub copy_at-requires : goal.copy_at-requires
copy_at-requires c = let p = (goal.at.copy_at-requires c).After-record_part in omega (arith, whole p, sized p)

pub code_of-requires : goal.code_of-requires
code_of-requires c = refusal_codable _ _ (sym c.record_outcome.ensures.value ∙ c.in-Refused.is)

pub returns-in-Done : goal.returns-in-Done
returns-in-Done c =
    let p = (goal.at.returns-in-Done c).After-record_part in
    let copied = c.copy_at.ensures ∙ put_whole _ _ (omega (arith, whole p, sized p)) in
    ap (λ (l : List ℕ). (0, l)) (copied ∙ c.record_part.ensures.result_value) ∙ sym (copy_taken _ _ _ (sized p) (done p))

pub returns-in-Refused : goal.returns-in-Refused
returns-in-Refused c =
    ap (λ (n : ℕ). (n, c.args.out.now)) c.code_of.ensures
    ∙ sym (copy_refused _ _ _ c.if-out-ne-RECORD_SIZE.false (sym c.record_outcome.ensures.value ∙ c.in-Refused.is))
