-- Document 01, "Refusal numbers": "given exactly when". Here stand 1 to 9 with their places and of what is asked of a crest, 7 for a heading, 11 and 15 to 18; 12 to 14 are with demand 3, and 10 to 15 of a
-- reading in ReadingRefusals.
-- A number is given exactly when a rule that gives it is the first that fails in its order.
use Prim.Native.Nat.{ℕ, ◌+◌, ◌*◌, ◌≤◌, ◌<◌}
use mathlib.Core.Bool.{Bool, true, false, ◌&&◌, false≢true, and-eq-true_iff}
use mathlib.Core.List.{List, [], ◌∷◌, ◌++◌, append_assoc, append-nil}
use mathlib.Core.Logic.Iff
use mathlib.Core.Logic.{◌≢◌, ◌⊎◌, ⊎_map, ◌↔◌}
use mathlib.Core.Path.{◌≡◌, refl, sym, ◌∙◌, ap, ap₂}
use native.Mathlib.Nat.{add-zero, zero-add}
use native.Mathlib.Omega.{arith}
use lib.Dec.{leb, ltb, eqb}
use lib.IntN.{ℤ, nat_abs}
use lib.ListN.{length}
use borrow.Author.Tests.{leb-true, leb-false, le-leb, lt-leb, ltb-false, le-ltb, eqb-true, eqb-false, eq-eqb, ne_eqb}
use Rattle.model.specs.declared.Point.{Point}
use Rattle.model.specs.declared.Refusal.{Refusal}
use Rattle.model.specs.declared.Outcome.{Outcome}
use Rattle.model.specs.declared.Outcome.TheVariants.{Done, Refused}
use Rattle.model.specs.declared.Placed.TheVariants.{Refused as PlacedRefused}
use Rattle.model.specs.declared.Located.TheVariants.{Refused as LocatedRefused}
use Rattle.model.specs.declared.Inverse.TheVariants.{Refused as InverseRefused}
use Rattle.model.specs.declared.Move.{Move}
use Rattle.model.specs.declared.Move.TheVariants.{Refused as MoveRefused}
use Rattle.model.specs.declared.ReadingAnswer.{ReadingAnswer}
use Rattle.model.specs.declared.ReadingAnswer.TheVariants.{Refused as AnswerRefused}
use Rattle.model.specs.declared.Run.{Run}
use Rattle.model.specs.Refusals.{Reason, byte_count, checksum, block_field, damaged_record, later_kind, field_out_of_range, not_unit, gap, kink, outside_frame, too_far, before_start, after_end, asked_out_of_range, run_full, record_count, wrong_room, Rule, number, refusal, rule, rule₀, Gives, verdict, for_each}
use Rattle.model.specs.Records.{block_size, block_count, block_of, record_bytes, count_of, record_of}
use Rattle.model.specs.Acceptance.{in_frame, is_unit, record_rules, join_rules, element_at, records_rules, length_fits, sums_agree, fields_fit, sum_rules, field_rules, blocks_rules, crest_rules}
use Rattle.model.specs.Crest.{Crest, check_of, file_crest, is_own}
use Rattle.model.specs.Stations.{is_station}
use Rattle.model.specs.Writer.{count_fits, blocks_needed, writer_rules, writer_outcome}
use Rattle.model.specs.Answers.{code, paper_of_outcome, Question, answer_of, reader_outcome, station_rules, station_question, placed, point_rules, point_question, located, inverse_at, line_rules, place_question, inverse, move_rules, move_question, stake_out, paper_of_move}
use Rattle.model.proofs.Answers.{Tells, told_exactly, station_tells, point_tells, place_tells, move_tells}
use Rattle.model.specs.Readings.{refuses_reading}
use Rattle.model.specs.Run.{is_full, run_at, noted}
use Rattle.model.specs.Calls.{reading_call, acknowledge_call, move_call, stake_out_call}
use Rattle.model.specs.Histories.{Came}
use Rattle.model.proofs.Verdict.{reason_numbered, none, more, done→all, all→done}
use Rattle.model.proofs.RuleNumbers.{records_own}
use Rattle.sources.proofs.Sound.{file_sound}
use Rattle.model.proofs.ForEach.{one_holds, holds_one, each→all, all→each}
use Rattle.crestfile.proofs.WriterRules.{rules_but_room}
use Rattle.model.proofs.Reasons.{Lacks, first_holds, rest_hold, empty, other, lacks-++, lacks_other, given_exactly}
use Rattle.walk_laws.proofs.Outcomes.{crest_outside_frame}
use Rattle.run.proofs.Calls.{reading_18, reading_16, answer_not_the_runs, acknowledge_18, acknowledge_0}
use Rattle.run.proofs.Noting.{noted_full, noted_counted}
use Rattle.integers.proofs.Tests.{and_fails}
use Rattle.model.proofs.AfterCrest.{two_rules, first_given, given_after_crest, next_after_crest}
use Rattle.demands.proofs.Places.{first_part, second_part, lacks_rule, lacks_for_each, nowhere, here, given_at_place}
use Rattle.demands.proofs.RecordRefusals.{RecordGives4, RecordGives5, RecordGives6, RecordGives7, JoinGives8, JoinGives9, record_gives_4, record_gives_5, record_gives_6, record_gives_7, join_gives_8, join_gives_9, RecordReached, JoinReached, records_lack, given_at_record, given_at_join}
use Rattle.demands.proofs.Demand1.{Numbered, refused_numbered, came_as_read, ReadingEnds, no_run, run_full_lem, counts, any_reading_call, call_rules, move_code}

-- ---- 1 to 3 of a file's own bytes: "1; 2 for all blocks; 3 for all"

one_done : (why : Reason) (place : ℕ) {b : Bool} → (verdict (rule why place b ∷ []) ≡ Done) ↔ (b ≡ true)
one_done why place = ((λ e. holds_one (done→all _ e)), (λ h. all→done (one_holds h)))

module _ (file : List ℕ) where
  abbrev sums : List Rule
  sums = for_each (sum_rules file) (block_count file) 0

  abbrev fields : List Rule
  fields = for_each (field_rules file) (block_count file) 0

  abbrev records : List Rule
  records = records_rules (record_bytes file)

  sums_lack : {n : ℕ} → 2 ≢ n → Lacks n sums
  unfolding sum_rules number
  sums_lack h = lacks_for_each (λ k. lacks_rule checksum h empty) (block_count file) 0

  fields_lack : {n : ℕ} → 3 ≢ n → Lacks n fields
  unfolding field_rules number
  fields_lack h = lacks_for_each (λ k. lacks_rule block_field h empty) (block_count file) 0

  blocks_lack : {n : ℕ} → 4 ≤ n → Lacks n (blocks_rules file)
  unfolding blocks_rules number
  blocks_lack h = lacks_rule byte_count (omega arith) (lacks-++ (sums_lack (omega arith)) (fields_lack (omega arith)))

  -- "byte count not 512, 1024, 1536 or 2048"
  pub check_refused_1 : (check_of (file_crest file) ≡ Refused (refusal byte_count 0)) ↔ (length_fits (length file) ≡ false)
  unfolding crest_rules blocks_rules number
  check_refused_1 =
      first_given (rule₀ byte_count (length_fits (length file))) ((sums ++ fields) ++ records) (lacks-++ (lacks-++ (sums_lack (omega arith)) (fields_lack (omega arith))) (records_lack (record_bytes file) (omega arith)))

  -- "a block's A or B is wrong", with "block for 2, 3"
  pub check_refused_2 : (b : ℕ) → (check_of (file_crest file) ≡ Refused (refusal checksum b)) ↔
      ((length_fits (length file) ≡ true) × (b < block_count file) × ((k : ℕ) → k < b → sums_agree (block_of file k) ≡ true) × (sums_agree (block_of file b) ≡ false))
  unfolding crest_rules blocks_rules sum_rules number refusal
  check_refused_2 b =
      let before = rule₀ byte_count (length_fits (length file)) ∷ [] in
      let w = refusal checksum b in
      let given = given_at_place (sum_rules file) (λ k. here refl nowhere) w before (fields ++ records) (block_count file) (lacks_rule byte_count (omega arith) empty) (lacks-++ (fields_lack (omega arith)) (records_lack (record_bytes file) (omega arith))) in
      let one = first_given (rule checksum b (sums_agree (block_of file b))) [] empty in
      Iff.trans (rw (← append_assoc sums fields records) at given) (
        (λ x. ((one_done byte_count 0).0 x.0, x.1, (λ k h. (one_done checksum k).0 (x.2 k h)), one.0 x.3)),
        (λ x. ((one_done byte_count 0).1 x.0, x.1, (λ k h. (one_done checksum k).1 (x.2 k h)), one.1 x.3)),
      )

  -- "block number, use count, edition, or a byte that must be zero outside used records"
  pub check_refused_3 : (b : ℕ) → (check_of (file_crest file) ≡ Refused (refusal block_field b)) ↔
      ((length_fits (length file) ≡ true) × ((k : ℕ) → k < block_count file → sums_agree (block_of file k) ≡ true)
      × (b < block_count file) × ((k : ℕ) → k < b → fields_fit (block_count file) k (block_of file k) ≡ true) × (fields_fit (block_count file) b (block_of file b) ≡ false))
  unfolding crest_rules blocks_rules sum_rules field_rules number refusal
  check_refused_3 b =
      let before = rule₀ byte_count (length_fits (length file)) ∷ sums in
      let w = refusal block_field b in
      let given = given_at_place (field_rules file) (λ k. here refl nowhere) w before records (block_count file) (lacks_rule byte_count (omega arith) (sums_lack (omega arith))) (records_lack (record_bytes file) (omega arith)) in
      let one = first_given (rule block_field b (fields_fit (block_count file) b (block_of file b))) [] empty in
      Iff.trans (rw (← append_assoc sums fields records) at given) (
        (λ x.
            let held = done→all before x.0 in
            (first_holds held, (λ k h. holds_one (rw zero-add at (all→each (sum_rules file) (block_count file) 0 (rest_hold held) k h))), x.1, (λ k h. (one_done block_field k).0 (x.2 k h)), one.0 x.3)),
        (λ x. (
          all→done (more x.0 (each→all (sum_rules file) (block_count file) 0 (λ k h. rw zero-add (one_holds (x.1 k h))))),
          x.2,
          (λ k h. (one_done block_field k).1 (x.3 k h)),
          one.1 x.4,
        )),
      )

-- ---- 4 to 9 of a file's own bytes

-- "record, counted from 0 over all blocks as every record number is, for 4 to 7 in records; earlier record for 8, 9": of a file after 1 to 3
module _ (file : List ℕ) (r : ℕ) where
  check_at_record : (why : Reason) {P : Type 0} → 4 ≤ number why → number why ≤ 7 → (verdict (record_rules (record_of (record_bytes file) r) r) ≡ Refused (refusal why r)) ↔ P →
      (check_of (file_crest file) ≡ Refused (refusal why r)) ↔ (RecordReached (blocks_rules file) (record_bytes file) r × P)
  unfolding crest_rules
  check_at_record why low high gives = rw append-nil at (given_at_record (blocks_rules file) [] (record_bytes file) why r (blocks_lack file low) empty high gives)

  check_at_join : (why : Reason) {P : Type 0} → 8 ≤ number why → (verdict (join_rules (element_at (record_bytes file) r) (element_at (record_bytes file) (r + 1)) r) ≡ Refused (refusal why r)) ↔ P →
      (check_of (file_crest file) ≡ Refused (refusal why r)) ↔ (JoinReached (blocks_rules file) (record_bytes file) r × P)
  unfolding crest_rules
  check_at_join why high gives = rw append-nil at (given_at_join (blocks_rules file) [] (record_bytes file) why r (blocks_lack file (omega arith)) empty high gives)

  -- "damaged kind, or a nonzero byte 1 to 3 or 28 to 31 of a used record"
  pub check_refused_4 : (check_of (file_crest file) ≡ Refused (refusal damaged_record r)) ↔ (RecordReached (blocks_rules file) (record_bytes file) r × RecordGives4 (record_of (record_bytes file) r))
  unfolding number
  check_refused_4 = check_at_record damaged_record (omega arith) (omega arith) (record_gives_4 (record_of (record_bytes file) r) r)

  -- "kind 5 to 15"
  pub check_refused_5 : (check_of (file_crest file) ≡ Refused (refusal later_kind r)) ↔ (RecordReached (blocks_rules file) (record_bytes file) r × RecordGives5 (record_of (record_bytes file) r))
  unfolding number
  check_refused_5 = check_at_record later_kind (omega arith) (omega arith) (record_gives_5 (record_of (record_bytes file) r) r)

  -- "length, radius, x or y out of range"
  pub check_refused_6 : (check_of (file_crest file) ≡ Refused (refusal field_out_of_range r)) ↔ (RecordReached (blocks_rules file) (record_bytes file) r × RecordGives6 (record_of (record_bytes file) r))
  unfolding number
  check_refused_6 = check_at_record field_out_of_range (omega arith) (omega arith) (record_gives_6 (record_of (record_bytes file) r) r)

  -- "direction not a unit (record ..)"
  pub check_refused_7 : (check_of (file_crest file) ≡ Refused (refusal not_unit r)) ↔ (RecordReached (blocks_rules file) (record_bytes file) r × RecordGives7 (record_of (record_bytes file) r))
  unfolding number
  check_refused_7 = check_at_record not_unit (omega arith) (omega arith) (record_gives_7 (record_of (record_bytes file) r) r)

  -- "gap .. at a join"
  pub check_refused_8 : (check_of (file_crest file) ≡ Refused (refusal gap r))
      ↔ (JoinReached (blocks_rules file) (record_bytes file) r × JoinGives8 (element_at (record_bytes file) r) (element_at (record_bytes file) (r + 1)))
  unfolding number
  check_refused_8 = check_at_join gap (omega arith) (join_gives_8 _ _ r)

  -- "kink at a join"
  pub check_refused_9 : (check_of (file_crest file) ≡ Refused (refusal kink r))
      ↔ (JoinReached (blocks_rules file) (record_bytes file) r × JoinGives9 (element_at (record_bytes file) r) (element_at (record_bytes file) (r + 1)))
  unfolding number
  check_refused_9 = check_at_join kink (omega arith) (join_gives_9 _ _ r)

-- ---- 1 to 9 of what is asked of a crest: with a crest's own number it is refused exactly when the crest is

-- a number that no crest gives of its own is none of the own numbers
pub not_own : {n : ℕ} (why : Reason) → is_own n ≡ true → is_own (number why) ≡ false → number why ≢ n
not_own why own-number later e = false≢true (sym later ∙ ap is_own e ∙ own-number)

module _ (c : Crest) (why : Refusal) (own-number : is_own why.number ≡ true) where
  pub position_refused_own : (s : ℤ) → (placed c s ≡ PlacedRefused why) ↔ (check_of c ≡ Refused why)
  unfolding station_question station_rules number is_own
  position_refused_own s =
      Iff.trans (told_exactly (station_tells s c.elements) c.rules why) (first_part c.rules _ why (other (not_own asked_out_of_range own-number refl) empty))

  pub located_refused_own : (p : Point) → (located c p ≡ LocatedRefused why) ↔ (check_of c ≡ Refused why)
  unfolding point_question point_rules number is_own
  located_refused_own p =
      Iff.trans (told_exactly (point_tells p c.elements) c.rules why)
      (first_part c.rules _ why
      (other (not_own outside_frame own-number refl) (other (not_own too_far own-number refl) (other (not_own before_start own-number refl) (other (not_own after_end own-number refl) empty)))))

  pub inverse_refused_own : (s w : ℤ) → (inverse c s w ≡ InverseRefused why) ↔ (check_of c ≡ Refused why)
  unfolding place_question line_rules number is_own
  inverse_refused_own s w =
      Iff.trans (told_exactly (place_tells s w c.elements) c.rules why)
      (first_part c.rules _ why (other (not_own asked_out_of_range own-number refl) (other (not_own outside_frame own-number refl) empty)))

-- ---- 11 and 15 on a crest of any source, after its own: of a file, `file_crest file` with `(file-sound file).own`

module _ (c : Crest) (own : Gives is_own c.rules) where
  -- "plane point outside the frame, given ..": a point
  pub point_refused_11 : (p : Point) → (located c p ≡ LocatedRefused (refusal outside_frame 0)) ↔ ((check_of c ≡ Done) × (in_frame p.x p.y ≡ false))
  point_refused_11 p = crest_outside_frame c own p

  -- "station .. out of range": a position asked for
  pub position_refused_15 : (s : ℤ) → (placed c s ≡ PlacedRefused (refusal asked_out_of_range 0)) ↔ ((check_of c ≡ Done) × (is_station c.elements s ≡ false))
  unfolding station_question station_rules number is_own
  position_refused_15 s =
      let es = c.elements in
      Iff.trans (told_exactly (station_tells s es) c.rules (refusal asked_out_of_range 0)) (next_after_crest (rule₀ asked_out_of_range (is_station es s)) [] empty c own refl)

  -- "station, offset .. out of range": a line place
  pub place_refused_15 : (s w : ℤ) → (inverse c s w ≡ InverseRefused (refusal asked_out_of_range 0)) ↔ ((check_of c ≡ Done) × ((is_station c.elements s ≡ false) ⊎ (20000000 < nat_abs w)))
  unfolding place_question line_rules number is_own
  place_refused_15 s w =
      let es = c.elements in
      let n = nat_abs w in
      Iff.trans
      (told_exactly (place_tells s w es) c.rules (refusal asked_out_of_range 0))
      (Iff.trans
      (next_after_crest (rule₀ asked_out_of_range (is_station es s && leb n 20000000)) _ (other (omega arith) empty) c own refl)
      (Iff.and Iff.rfl (Iff.trans (and_fails (is_station es s) (leb n 20000000)) (⊎_map (λ e. e) (leb-false n 20000000), ⊎_map (λ e. e) (lt-leb n 20000000)))))

  -- "plane point outside the frame, .. or resulting": the inverse's
  pub place_refused_11 : (s w : ℤ) → (inverse c s w ≡ InverseRefused (refusal outside_frame 0)) ↔
      ((check_of c ≡ Done) × ((is_station c.elements s ≡ true) × (nat_abs w ≤ 20000000))
      × (in_frame (inverse_at c.elements (nat_abs s) w).x (inverse_at c.elements (nat_abs s) w).y ≡ false))
  unfolding place_question line_rules number is_own
  place_refused_11 s w =
      let es = c.elements in
      let n = nat_abs w in
      let asked = rule₀ asked_out_of_range (is_station es s && leb n 20000000) in
      let q = inverse_at es (nat_abs s) w in
      let both = and-eq-true_iff (is_station es s) (leb n 20000000) in
      Iff.trans
      (told_exactly (place_tells s w es) c.rules (refusal outside_frame 0))
      (Iff.trans
      (given_after_crest (rule₀ outside_frame (in_frame q.x q.y)) [] empty c own refl (asked ∷ []) (other (omega arith) empty)) (
        (λ x. let b = both.0 (first_holds x.1) in (x.0, (b.0, leb-true n 20000000 b.1), x.2)),
        (λ x. (x.0, more (both.1 (x.1.0, le-leb n 20000000 x.1.1)) none, x.2)),
      ))

-- ".. record number out of range": the reader of a file
pub record_refused_15 : (file : List ℕ) (r : ℕ) → (reader_outcome file r ≡ Refused (refusal asked_out_of_range 0)) ↔ ((check_of (file_crest file) ≡ Done) × (count_of (record_bytes file) ≤ r))
unfolding reader_outcome number is_own
record_refused_15 file r =
    let n = count_of (record_bytes file) in
    Iff.trans (next_after_crest (rule₀ asked_out_of_range (ltb r n)) [] empty (file_crest file) (file_sound file).own refl) (Iff.and Iff.rfl (ltb-false r n, le-ltb r n))

-- ---- 11 and 7 of a stake-out, which has no crest

module _ (own target : Point) (c s : ℤ) where
  pub stake_out_refused_11 : (stake_out own target c s ≡ MoveRefused (refusal outside_frame 0)) ↔ ((in_frame own.x own.y ≡ false) ⊎ (in_frame target.x target.y ≡ false))
  unfolding move_question move_rules number
  stake_out_refused_11 =
      let a = in_frame own.x own.y in
      let b = in_frame target.x target.y in
      let unit = rule₀ not_unit (is_unit c s) in
      let one : (verdict (move_rules own target c s) ≡ Refused (refusal outside_frame 0)) ↔ ((a ≡ false) ⊎ (b ≡ false)) =
      rw (two_rules outside_frame 0 a b (unit ∷ [])) (Iff.trans (first_given (rule₀ outside_frame (a && b)) (unit ∷ []) (other (omega arith) empty)) (and_fails a b)) in
      Iff.trans (told_exactly (move_tells own target c s) [] (refusal outside_frame 0)) one

  -- "direction not a unit (.. heading)"
  pub stake_out_refused_7 : (stake_out own target c s ≡ MoveRefused (refusal not_unit 0)) ↔
      ((in_frame own.x own.y ≡ true) × (in_frame target.x target.y ≡ true) × (is_unit c s ≡ false))
  unfolding move_question move_rules number
  stake_out_refused_7 =
      let own_in = rule₀ outside_frame (in_frame own.x own.y) in
      let target_in = rule₀ outside_frame (in_frame target.x target.y) in
      Iff.trans
      (told_exactly (move_tells own target c s) [] (refusal not_unit 0))
      (Iff.trans
      (given_exactly (rule₀ not_unit (is_unit c s)) [] empty (own_in ∷ target_in ∷ []) (other (omega arith) (other (omega arith) empty))) (
        (λ x. (first_holds x.0, first_holds (rest_hold x.0), x.1)),
        (λ x. (more x.0 (more x.1 none), x.2)),
      ))

-- ---- 17 and 18 of the writer

module _ (records : List ℕ) (room : ℕ) where
  -- "writer's record bytes not 32 times 1 to 60"
  pub write_refused_17 : (writer_outcome records room ≡ Refused (refusal record_count 0)) ↔ (count_fits (length records) ≡ false)
  unfolding writer_outcome writer_rules number is_own
  write_refused_17 =
      first_given (rule₀ record_count (count_fits (length records))) _ (lacks-++ (lacks_other (records_own records) refl) (other (omega arith) empty))

  -- "room below the blocks needed", where 17 and 4 to 9 refuse nothing
  pub write_refused_18 : (writer_outcome records room ≡ Refused (refusal wrong_room 0)) ↔ ((verdict (rules_but_room records) ≡ Done) × (room < 512 * blocks_needed records))
  unfolding writer_outcome writer_rules number is_own
  write_refused_18 =
      let needed = block_size * blocks_needed records in
      Iff.trans
      (given_exactly (rule₀ wrong_room (leb needed room)) [] empty (rules_but_room records) (other (omega arith) (lacks_other (records_own records) refl)))
      (Iff.and (all→done, done→all (rules_but_room records)) (leb-false needed room, lt-leb needed room))

-- "The writer gives 17, 4 to 9, 18": after 17 its records are refused as a file's are
module _ (records : List ℕ) (room r : ℕ) where
  -- the rule before those of its records: 17
  abbrev counting : List Rule
  counting = rule₀ record_count (count_fits (length records)) ∷ []

  count_lacks : {n : ℕ} → n ≤ 9 → Lacks n counting
  unfolding number
  count_lacks h = lacks_rule record_count (omega arith) empty

  room_lacks : {n : ℕ} → n ≤ 9 → Lacks n (rule₀ wrong_room (leb (block_size * blocks_needed records) room) ∷ [])
  unfolding number
  room_lacks h = lacks_rule wrong_room (omega arith) empty

  write_at_record : (why : Reason) {P : Type 0} → number why ≤ 7 → (verdict (record_rules (record_of records r) r) ≡ Refused (refusal why r)) ↔ P →
      (writer_outcome records room ≡ Refused (refusal why r)) ↔ (RecordReached counting records r × P)
  unfolding writer_outcome writer_rules
  write_at_record why high gives = given_at_record counting _ records why r (count_lacks (omega arith)) (room_lacks (omega arith)) high gives

  write_at_join : (why : Reason) {P : Type 0} → 8 ≤ number why → number why ≤ 9 → (verdict (join_rules (element_at records r) (element_at records (r + 1)) r) ≡ Refused (refusal why r)) ↔ P →
      (writer_outcome records room ≡ Refused (refusal why r)) ↔ (JoinReached counting records r × P)
  unfolding writer_outcome writer_rules
  write_at_join why low high gives = given_at_join counting _ records why r (count_lacks high) (room_lacks high) low gives

  pub write_refused_4 : (writer_outcome records room ≡ Refused (refusal damaged_record r)) ↔ (RecordReached counting records r × RecordGives4 (record_of records r))
  unfolding number
  write_refused_4 = write_at_record damaged_record (omega arith) (record_gives_4 (record_of records r) r)

  pub write_refused_5 : (writer_outcome records room ≡ Refused (refusal later_kind r)) ↔ (RecordReached counting records r × RecordGives5 (record_of records r))
  unfolding number
  write_refused_5 = write_at_record later_kind (omega arith) (record_gives_5 (record_of records r) r)

  pub write_refused_6 : (writer_outcome records room ≡ Refused (refusal field_out_of_range r)) ↔ (RecordReached counting records r × RecordGives6 (record_of records r))
  unfolding number
  write_refused_6 = write_at_record field_out_of_range (omega arith) (record_gives_6 (record_of records r) r)

  pub write_refused_7 : (writer_outcome records room ≡ Refused (refusal not_unit r)) ↔ (RecordReached counting records r × RecordGives7 (record_of records r))
  unfolding number
  write_refused_7 = write_at_record not_unit (omega arith) (record_gives_7 (record_of records r) r)

  pub write_refused_8 : (writer_outcome records room ≡ Refused (refusal gap r)) ↔ (JoinReached counting records r × JoinGives8 (element_at records r) (element_at records (r + 1)))
  unfolding number
  write_refused_8 = write_at_join gap (omega arith) (omega arith) (join_gives_8 _ _ r)

  pub write_refused_9 : (writer_outcome records room ≡ Refused (refusal kink r)) ↔ (JoinReached counting records r × JoinGives9 (element_at records r) (element_at records (r + 1)))
  unfolding number
  write_refused_9 = write_at_join kink (omega arith) (omega arith) (join_gives_9 _ _ r)

-- ---- 18 and 16 of a run, whatever question and crest a reading is

module _ {a : ReadingAnswer} (came : Came a) where
  -- "a run's bytes not 24"
  pub reading_refused_18 : (run : List ℕ) → ((reading_call a run).0 ≡ 18) ↔ (length run ≢ 24)
  reading_refused_18 run = (go (any_reading_call a run), (λ h. ap (λ o. o.0) (reading_18 a run h)))
    where
      go : ReadingEnds a run → (reading_call a run).0 ≡ 18 → length run ≢ 24
      go (no_run h e) g = h
      go (run_full_lem h f e) g = absurd (omega (arith, ap (λ o. o.0) e))
      go (counts h f e) g = absurd (answer_not_the_runs a (came_as_read came) 18 (omega arith) (omega arith) (sym (ap (λ o. o.0) e) ∙ g))

  -- "run full"
  pub reading_refused_16 : (run : List ℕ) → ((reading_call a run).0 ≡ 16) ↔ ((length run ≡ 24) × (is_full (run_at run) ≡ true))
  reading_refused_16 run = (go (any_reading_call a run), (λ h. ap (λ o. o.0) (reading_16 a run h.0 h.1)))
    where
      go : ReadingEnds a run → (reading_call a run).0 ≡ 16 → (length run ≡ 24) × (is_full (run_at run) ≡ true)
      go (no_run h e) g = absurd (omega (arith, ap (λ o. o.0) e))
      go (run_full_lem h f e) g = (h, f)
      go (counts h f e) g = absurd (answer_not_the_runs a (came_as_read came) 16 (omega arith) (omega arith) (sym (ap (λ o. o.0) e) ∙ g))

  -- of a run by value
  pub noted_refused_16 : (run : Run) → ((noted a run).answer ≡ AnswerRefused (refusal run_full 0)) ↔ (is_full run ≡ true)
  unfolding refusal number refuses_reading is_own
  noted_refused_16 run = (go (is_full run) refl, (λ h. ap (λ n. n.answer) (noted_full a run h)))
    where
      go : (b : Bool) → is_full run ≡ b → (noted a run).answer ≡ AnswerRefused (refusal run_full 0) → b ≡ true
      go true e g = refl
      go false e g = absurd (false≢true (came_as_read came (refusal run_full 0) (sym (ap (λ n. n.answer) (noted_counted a run e)) ∙ g)))

pub acknowledge_refused_18 : (run : List ℕ) → ((acknowledge_call run).0 ≡ 18) ↔ (length run ≢ 24)
acknowledge_refused_18 run = ((λ g h. let z : ◌≡◌ {A = ℕ} 0 18 = sym (ap (λ o. o.0) (acknowledge_0 run h)) ∙ g in omega arith), (λ h. ap (λ o. o.0) (acknowledge_18 run h)))

-- ---- 18 of a C move

-- a call returns a number of the table exactly when its order gives that number, without a place
returns_number : (why : Reason) (rs : List Rule) → (code (paper_of_outcome (verdict rs)) ≡ number why) ↔ (verdict rs ≡ Refused (refusal why 0))
unfolding code paper_of_outcome refusal
returns_number why rs = (go (verdict rs) (refused_numbered rs), (λ e. ap (λ o. code (paper_of_outcome o)) e ∙ add-zero (number why)))
  where
    go : (o : Outcome) → ((w : Refusal) → o ≡ Refused w → Numbered w) → code (paper_of_outcome o) ≡ number why → o ≡ Refused (refusal why 0)
    go Done h e = absurd (omega (arith, reason_numbered why))
    go (Refused w) h e =
        let n : w.number ≡ number why = omega (arith, reason_numbered why, h w refl) in
        let p : w.place ≡ 0 = omega (arith, reason_numbered why, h w refl) in
        ap₂ (λ (m k : ℕ). Refused (record { number = m; place = k })) n p

-- "a C move's not 8", of any question whose answer is a move
module _ {q : Question Move} (tells : Tells MoveRefused paper_of_move q) (room : List ℕ) where
  pub move_call_refused_18 : Lacks 18 q.order → ((move_call q room).0 ≡ 18) ↔ (length room ≢ 8)
  unfolding number
  move_call_refused_18 lacks =
      rw (move_code tells room)
      (Iff.trans (returns_number wrong_room (call_rules q room))
      (Iff.trans (first_given (rule₀ wrong_room (eqb (length room) 8)) q.order lacks) (eqb-false (length room) 8, ne_eqb (length room) 8)))

  -- any other number: where the room is 8 bytes, as the move is refused
  pub move_call_refused : (why : Reason) → number why ≢ 18 → ((move_call q room).0 ≡ number why) ↔ ((length room ≡ 8) × (answer_of q ≡ MoveRefused (refusal why 0)))
  unfolding number refusal
  move_call_refused why other-number =
      let room_fits = rule₀ wrong_room (eqb (length room) 8) in
      rw (move_code tells room)
      (Iff.trans (returns_number why (call_rules q room))
      (Iff.trans (second_part (room_fits ∷ []) q.order (refusal why 0) (other (λ e. other-number (sym e)) empty))
      (Iff.and (Iff.trans (one_done wrong_room 0) (eqb-true (length room) 8, eq-eqb (length room) 8)) (Iff.symm (told_exactly tells [] (refusal why 0))))))

-- 18, 11 and 7 of a C stake-out
pub stake_out_call_refused_18 : (own target : Point) (c s : ℤ) (room : List ℕ) → ((stake_out_call own target c s room).0 ≡ 18) ↔ (length room ≢ 8)
unfolding stake_out_call move_question move_rules number
stake_out_call_refused_18 own target c s room = move_call_refused_18 (move_tells own target c s) room (other (omega arith) (other (omega arith) (other (omega arith) empty)))

module _ (own target : Point) (c s : ℤ) (room : List ℕ) where
  pub stake_out_call_refused_11 : ((stake_out_call own target c s room).0 ≡ 11) ↔ ((length room ≡ 8) × ((in_frame own.x own.y ≡ false) ⊎ (in_frame target.x target.y ≡ false)))
  unfolding stake_out_call number
  stake_out_call_refused_11 = Iff.trans (move_call_refused (move_tells own target c s) room outside_frame (omega arith)) (Iff.and Iff.rfl (stake_out_refused_11 own target c s))

  pub stake_out_call_refused_7 : ((stake_out_call own target c s room).0 ≡ 7) ↔
      ((length room ≡ 8) × ((in_frame own.x own.y ≡ true) × (in_frame target.x target.y ≡ true) × (is_unit c s ≡ false)))
  unfolding stake_out_call number
  stake_out_call_refused_7 = Iff.trans (move_call_refused (move_tells own target c s) room not_unit (omega arith)) (Iff.and Iff.rfl (stake_out_refused_7 own target c s))
