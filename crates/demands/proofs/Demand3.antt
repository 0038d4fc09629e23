-- Demand 3: "This holds for every accepted alignment and every point in the frame. Every other whole-millimetre station anywhere on the alignment lies at least as far from
-- the point, by document 01's positions, as the one answered or judged, and every smaller station lies farther. Too far (12), before the start (13) and past the end (14)
-- are each refused exactly when the point's station is asked for, no refusal that comes earlier in the order of document 01 or of a later request applies, and the stated
-- condition holds at the station judged. A point that meets no refusal is answered, and the station answered is the one judged. The count of visited stations that an answer
-- carries is that of the published walk, both passes together, and every station that the walk's second pass leaves out lies farther from the point than the one judged."
use mathlib.Core.Bool.{true, false}
use mathlib.Core.List.{List, []}
use mathlib.Core.Logic.{◌≢◌, ◌↔◌}
use mathlib.Core.Path.{◌≡◌}
use Prim.Native.Nat.{ℕ, ◌+◌, ◌*◌, ◌≤◌, ◌<◌}
use native.Mathlib.Omega.{arith}
use lib.Dec.{leb}
use lib.ListN.{length}
use lib.IntN.{ℤ, pos, neg_ℤ}
use lib.Signed.{◌<ℤ◌}
use Rattle.model.specs.declared.Element.{Element}
use Rattle.model.specs.declared.Point.{Point}
use Rattle.model.specs.declared.Refusal.{Refusal}
use Rattle.model.specs.declared.Outcome.TheVariants.{Done, Refused}
use Rattle.model.specs.declared.Located.TheVariants.{At as LocatedAt, Refused as LocatedRefused}
use Rattle.model.specs.declared.Placed.TheVariants.{Refused as PlacedRefused}
use Rattle.model.specs.declared.Inverse.TheVariants.{Refused as InverseRefused}
use Rattle.model.specs.declared.Move.TheVariants.{Refused as MoveRefused}
use Rattle.model.specs.declared.Sighting.{Sighting}
use Rattle.model.specs.declared.ReadingAnswer.TheVariants.{PlanePoint as AnswerPoint, Refused as AnswerRefused}
use Rattle.model.specs.Series.{position_on}
use Rattle.model.specs.Refusals.{Rule, Gives, number, refusal, rule₀, too_far, before_start, after_end, record_count, wrong_room}
use Rattle.model.specs.Acceptance.{in_frame}
use Rattle.model.specs.Accepted.{Accepted, AlignmentAccepted}
use Rattle.model.specs.Crest.{Crest, check_of, is_own, SoundCrest}
use Rattle.model.specs.Stations.{total, distance_sq, D}
use Rattle.model.specs.Judged.{judged, residual_at}
use Rattle.model.specs.Walk.{first_visits, best_of, second_visits, visits, is_in}
use Rattle.model.specs.Answers.{PaperAnswer, Question, answer_after, reader_outcome, station_rules, station_question, placed, located_on, located, line_rules, place_question, inverse, move_rules, move_question, stake_out}
use Rattle.model.specs.Sightings.{sighted_of, sighted_to, sighted_move}
use Rattle.model.specs.Writer.{count_fits, blocks_needed, writer_rules, writer_outcome}
use Rattle.model.specs.Records.{block_size}
use Rattle.model.proofs.Answers.{Tells, told_refused, told_exactly, station_tells, point_tells, place_tells, move_tells}
use Rattle.model.proofs.RuleNumbers.{own_apart, records_own}
use Rattle.model.proofs.Judged.{judged_least}
use Rattle.sources.proofs.Sound.{file_sound}
use Rattle.model.proofs.Reasons.{Lacks, empty, other, lacks-++, lacks_other, lacks→not_given}
use Rattle.walk_laws.proofs.Spaced as spaced
use Rattle.walk_laws.proofs.Walked as walked
use Rattle.walk_laws.proofs.Outcomes.{Answered, TooFar, BeforeStart, AfterEnd}
use Rattle.walk_laws.proofs.Outcomes as outcomes
use Rattle.demands.proofs.SightOrders.{Sights}
use Rattle.demands.proofs.SightingRefusals.{sighted_move_only}
use Rattle.demands.proofs.SightingRefusals as sightings

-- ---- an accepted alignment, by its elements, and any point

module _ (es : List Element) (a : AlignmentAccepted es) (p : Point) where
  -- 1. "Every other whole-millimetre station anywhere on the alignment lies at least as far from the point .. as the one answered or judged, and every smaller station
  -- lies farther."
  pub judged_on_alignment : judged es p ≤ total es
  judged_on_alignment = (judged_least es p).within

  pub no_station_nearer : (s : ℕ) → s ≤ total es → D es p (judged es p) ≤ D es p s
  no_station_nearer = (judged_least es p).least

  pub smaller_station_farther : (s : ℕ) → s < judged es p → D es p (judged es p) < D es p s
  smaller_station_farther = (judged_least es p).first

  -- 2. "every station that the walk's second pass leaves out lies farther from the point than the one judged"
  pub left_out_farther : (s : ℕ) → s ≤ total es → is_in s (second_visits es p) ≡ false → D es p (judged es p) < D es p s
  left_out_farther s on unvisited = walked.left_out_farther es a.some a.each p s (record { on = on; unvisited = unvisited })

  -- 3. The walk finds it: the best D of all visits is the least D, and the least visited station of that D is the one judged.
  pub walk_best_least : best_of (D es p) (D es p 0) (visits es p) ≡ D es p (judged es p)
  walk_best_least = walked.walk_best es a.some a.each p

  pub walk_station_judged : (s : ℕ) → is_in s (visits es p) ≡ true → ((v : ℕ) → is_in v (visits es p) ≡ true → (D es p s ≤ D es p v) × (v < s → D es p s < D es p v)) → s ≡ judged es p
  walk_station_judged s visited least = (walked.walk_station es a.some a.each p s).0 (record { visited = visited; least = λ v i. (least v i).0; first = λ v i. (least v i).1 })

  pub judged_visited : is_in (judged es p) (second_visits es p) ≡ true
  judged_visited = walked.judged_visited es a.some a.each p

  -- "The count of visited stations that an answer carries is that of the published walk, both passes together"; "the station answered is the one judged"
  pub answer_of_walk : (station : ℕ) (offset residual : ℤ) (count : ℕ) → located_on es p ≡ LocatedAt station offset residual count →
      (station ≡ judged es p) × (count ≡ length (first_visits (total es)) + length (second_visits es p))
  answer_of_walk station offset residual count e = let x = (outcomes.answered es p station offset residual count).0 e in (x.station, x.count)

  -- 4. "Too far (12), before the start (13) and past the end (14) are each refused exactly when .. the stated condition holds at the station judged."
  pub refused_12 : (located_on es p ≡ LocatedRefused (refusal too_far 0)) ↔
      ((in_frame p.x p.y ≡ true) × (400000000000000 < D es p (judged es p)))
  refused_12 = outcomes.too_far_lem es p

  pub refused_13 : (located_on es p ≡ LocatedRefused (refusal before_start 0)) ↔
      ((in_frame p.x p.y ≡ true) × (D es p (judged es p) ≤ 400000000000000) × (judged es p ≡ 0) × (residual_at es p (judged es p) <ℤ neg_ℤ (pos 100)))
  refused_13 = outcomes.before_start_lem es p

  pub refused_14 : (located_on es p ≡ LocatedRefused (refusal after_end 0)) ↔
      ((in_frame p.x p.y ≡ true) × (D es p (judged es p) ≤ 400000000000000) × (judged es p ≡ total es) × (pos 100 <ℤ residual_at es p (judged es p)))
  refused_14 = outcomes.after_end_lem es p

  -- "A point that meets no refusal is answered, and the station answered is the one judged.": exactly when it is in the frame and meets none of these
  pub answered_else : (station : ℕ) (offset residual : ℤ) (count : ℕ) → (located_on es p ≡ LocatedAt station offset residual count) ↔ Answered es p station offset residual count
  answered_else = outcomes.answered es p

-- ---- a crest of any source, and any point: of a file, `file_crest file` with `file_sound file`

module _ (c : Crest) (sound : SoundCrest c) (p : Point) where
  -- an accepted crest's elements are an accepted alignment: all of the above holds of them
  pub accepted_crest : check_of c ≡ Done → AlignmentAccepted c.elements
  accepted_crest e = sound.accepted e

  -- a crest that is refused gives its own refusal
  pub refused_crest : (why : Refusal) → check_of c ≡ Refused why → located c p ≡ LocatedRefused why
  refused_crest why e = told_refused (point_tells p c.elements) c.rules e

  pub crest_answer_of_walk : (station : ℕ) (offset residual : ℤ) (count : ℕ) → located c p ≡ LocatedAt station offset residual count →
      (station ≡ judged c.elements p) × (count ≡ length (first_visits (total c.elements)) + length (second_visits c.elements p))
  crest_answer_of_walk station offset residual count e = let a = ((outcomes.crest_answered c sound.own p station offset residual count).0 e).1 in (a.station, a.count)

  pub crest_refused_12 : (located c p ≡ LocatedRefused (refusal too_far 0)) ↔
      ((check_of c ≡ Done) × ((in_frame p.x p.y ≡ true) × (400000000000000 < D c.elements p (judged c.elements p))))
  crest_refused_12 = outcomes.crest_too_far c sound.own p

  pub crest_refused_13 : (located c p ≡ LocatedRefused (refusal before_start 0)) ↔
      ((check_of c ≡ Done) × ((in_frame p.x p.y ≡ true) × (D c.elements p (judged c.elements p) ≤ 400000000000000)
      × (judged c.elements p ≡ 0) × (residual_at c.elements p (judged c.elements p) <ℤ neg_ℤ (pos 100))))
  crest_refused_13 = outcomes.crest_before_start c sound.own p

  pub crest_refused_14 : (located c p ≡ LocatedRefused (refusal after_end 0)) ↔
      ((check_of c ≡ Done) × ((in_frame p.x p.y ≡ true) × (D c.elements p (judged c.elements p) ≤ 400000000000000)
      × (judged c.elements p ≡ total c.elements) × (pos 100 <ℤ residual_at c.elements p (judged c.elements p))))
  crest_refused_14 = outcomes.crest_after_end c sound.own p

  pub crest_answered_else : (station : ℕ) (offset residual : ℤ) (count : ℕ) →
      (located c p ≡ LocatedAt station offset residual count) ↔ ((check_of c ≡ Done) × Answered c.elements p station offset residual count)
  crest_answered_else = outcomes.crest_answered c sound.own p

-- ---- a sighting on a crest of any source: its point's station is asked for

module _ (c : Crest) (sound : SoundCrest c) (k : Sighting) where
  pub sighting_answer_of_walk : (station : ℕ) (offset residual : ℤ) (count : ℕ) → sighted_to c k ≡ AnswerPoint station offset residual count →
      (station ≡ judged c.elements (sighted_of k)) × (count ≡ length (first_visits (total c.elements)) + length (second_visits c.elements (sighted_of k)))
  sighting_answer_of_walk station offset residual count e = let a = ((sightings.sighting_answered c sound.own k station offset residual count).0 e).2 in (a.station, a.count)

  -- "no refusal that comes earlier in the order of document 01 or of a later request applies": the crest and the sighting refuse nothing
  pub sighting_refused_12 : (sighted_to c k ≡ AnswerRefused (refusal too_far 0)) ↔ ((check_of c ≡ Done) × Sights k × TooFar c.elements (sighted_of k))
  sighting_refused_12 = sightings.sighting_refused_12 c sound.own k

  pub sighting_refused_13 : (sighted_to c k ≡ AnswerRefused (refusal before_start 0)) ↔ ((check_of c ≡ Done) × Sights k × BeforeStart c.elements (sighted_of k))
  sighting_refused_13 = sightings.sighting_refused_13 c sound.own k

  pub sighting_refused_14 : (sighted_to c k ≡ AnswerRefused (refusal after_end 0)) ↔ ((check_of c ≡ Done) × Sights k × AfterEnd c.elements (sighted_of k))
  sighting_refused_14 = sightings.sighting_refused_14 c sound.own k

  pub sighting_answered_else : (station : ℕ) (offset residual : ℤ) (count : ℕ) →
      (sighted_to c k ≡ AnswerPoint station offset residual count) ↔ ((check_of c ≡ Done) × Sights k × Answered c.elements (sighted_of k) station offset residual count)
  sighting_answered_else = sightings.sighting_answered c sound.own k

-- ---- 5. what 2 and 3 rest on

-- Positions j mm apart on an element are at most 150 j + 30 grains apart. This fact of the series enters once, in `Spaced`.
pub positions_close : (e : Element) → Accepted e → (s j : ℕ) → s + j ≤ e.length → distance_sq (position_on e s) (position_on e (s + j)) ≤ (150 * j + 30) * (150 * j + 30)
positions_close = spaced.positions_close

-- "when the point's station is asked for": no other question gives 12, 13 or 14, nor do the reader, the writer and a sighting's move; of a reading, `place_not_judged` says it
module _ (why : Refusal) (low : 12 ≤ why.number) (high : why.number ≤ 14) where
  own_lacks : {rs : List Rule} → Gives is_own rs → Lacks why.number rs
  own_lacks own = lacks_other own (own_apart why.number (omega arith) (omega arith))

  never : {A : Type 0} {refused : Refusal → A} {paper_of : A → PaperAnswer} {q : Question A} → Tells refused paper_of q → (before : List Rule) → Lacks why.number before → Lacks why.number q.order → answer_after before q ≢ refused why
  never tells before j k e = lacks→not_given (lacks-++ j k) ((told_exactly tells before why).0 e)

  pub position_not_judged : (c : Crest) → SoundCrest c → (s : ℤ) → placed c s ≢ PlacedRefused why
  unfolding station_question station_rules number
  position_not_judged c sound s = never (station_tells s c.elements) c.rules (own_lacks sound.own) (other (λ e. omega arith) empty)

  pub inverse_not_judged : (c : Crest) → SoundCrest c → (s w : ℤ) → inverse c s w ≢ InverseRefused why
  unfolding place_question line_rules number
  inverse_not_judged c sound s w = never (place_tells s w c.elements) c.rules (own_lacks sound.own) (other (λ e. omega arith) (other (λ e. omega arith) empty))

  pub stake_out_not_judged : (own target : Point) (c s : ℤ) → stake_out own target c s ≢ MoveRefused why
  unfolding move_question move_rules number
  stake_out_not_judged own target c s = never (move_tells own target c s) [] empty (other (λ e. omega arith) (other (λ e. omega arith) (other (λ e. omega arith) empty)))

  pub sighted_move_not_judged : (k : Sighting) (target : Point) → sighted_move k target ≢ MoveRefused why
  sighted_move_not_judged k target = sighted_move_only k target why (λ e. omega arith) (λ e. omega arith) (λ e. omega arith)

  pub check_not_judged : (c : Crest) → SoundCrest c → check_of c ≢ Refused why
  check_not_judged c sound = lacks→not_given (own_lacks sound.own)

  pub record_not_judged : (file : List ℕ) (r : ℕ) → reader_outcome file r ≢ Refused why
  unfolding reader_outcome number
  record_not_judged file r = lacks→not_given (lacks-++ (own_lacks (file_sound file).own) (other (λ e. omega arith) empty))

  pub write_not_judged : (records : List ℕ) (room : ℕ) → writer_outcome records room ≢ Refused why
  unfolding writer_outcome writer_rules number
  write_not_judged records room =
      lacks→not_given (other {r = rule₀ record_count (count_fits (length records))} (λ e. omega arith) (lacks-++ (own_lacks (records_own records)) (other {r = rule₀ wrong_room (leb (block_size * blocks_needed records) room)} (λ e. omega arith) empty)))
