-- Document 01, "Refusal numbers": "a place (block for 2, 3; record, .. for 4 to 7 in records; earlier record for 8, 9; else 0)". A refusal that is no crest's own has the
-- place 0, and so have 1 of a file and every refusal of a stake-out: they come from rules that have none.
use Prim.Native.Nat.{ℕ}
use mathlib.Core.Bool.{Bool, true, false}
use mathlib.Core.List.{List, [], ◌∷◌, ◌++◌}
use mathlib.Core.Path.{◌≡◌, refl, sym, ◌∙◌}
use native.Mathlib.Omega.{arith}
use lib.IntN.{ℤ}
use Rattle.integers.proofs.Order.{clash}
use Rattle.model.specs.declared.Point.{Point}
use Rattle.model.specs.declared.Refusal.{Refusal}
use Rattle.model.specs.declared.Outcome.TheVariants.{Refused}
use Rattle.model.specs.declared.Placed.TheVariants.{Refused as PlacedRefused}
use Rattle.model.specs.declared.Located.TheVariants.{Refused as LocatedRefused}
use Rattle.model.specs.declared.Inverse.TheVariants.{Refused as InverseRefused}
use Rattle.model.specs.declared.Move.TheVariants.{Refused as MoveRefused}
use Rattle.model.specs.declared.Reading.{Reading}
use Rattle.model.specs.declared.Sighting.{Sighting}
use Rattle.model.specs.declared.ReadingAnswer.TheVariants.{Refused as AnswerRefused}
use Rattle.model.specs.Refusals.{Reason, Rule, number, rule₀, Gives, or_refused, refusal, verdict, checksum, block_field}
use Rattle.model.specs.Records.{record_bytes, block_count}
use Rattle.model.specs.Acceptance.{sum_rules, field_rules, blocks_rules, crest_rules}
use Rattle.model.specs.Crest.{Crest, check_of, is_own}
use Rattle.model.specs.Writer.{writer_rules, writer_outcome}
use Rattle.model.specs.Answers.{PaperAnswer, Question, answer_after, reader_outcome, placed, located, inverse, stake_out}
use Rattle.model.specs.Readings.{answer_to}
use Rattle.model.specs.Sightings.{sighted_to, sighted_move}
use Rattle.model.proofs.RuleNumbers.{records_own}
use Rattle.model.proofs.Answers.{Bare, none as bare-none, next as bare-next, Tells, told_exactly, station_tells, point_tells, place_tells, move_tells, reading_tells, sighting_tells, sighted_move_tells}
use Rattle.model.proofs.Reasons.{Lacks, empty, other, lacks_other}
use Rattle.demands.proofs.Places.{lacks_rule, lacks_for_each}
use Rattle.demands.proofs.RecordRefusals.{records_lack}

-- ---- the rules that give a number

-- every rule of the list that gives the number n has the place 0
pub data At0 (n : ℕ) : List Rule → Type 0 where
  none : At0 n []
  next : {r : Rule} {rs : List Rule} → (number r.why ≡ n → r.place ≡ 0) → At0 n rs → At0 n (r ∷ rs)

at_0-++ : {n : ℕ} {rs ss : List Rule} → At0 n rs → At0 n ss → At0 n (rs ++ ss)
at_0-++ none z = z
at_0-++ (next h k) z = next h (at_0-++ k z)

lacks_at_0 : {n : ℕ} {rs : List Rule} → Lacks n rs → At0 n rs
lacks_at_0 empty = none
lacks_at_0 (other h l) = next (λ e. absurd (h e)) (lacks_at_0 l)

given_at_0 : {w : Refusal} {rs : List Rule} → At0 w.number rs → verdict rs ≡ Refused w → w.place ≡ 0
unfolding verdict or_refused refusal
given_at_0 none e = clash cc
given_at_0 {w} (next {r} {rs} h k) e = go (given_at_0 k) r.holds e
  where
    go : (verdict rs ≡ Refused w → w.place ≡ 0) → (b : Bool) → or_refused b r.why r.place (verdict rs) ≡ Refused w → w.place ≡ 0
    go rest true f = rest f
    go rest false f =
        let n : number r.why ≡ w.number = cc in
        let p : r.place ≡ w.place = cc in
        sym p ∙ h n

-- a rule with no place
placeless : {why : Reason} {b : Bool} {n : ℕ} {rs : List Rule} → At0 n rs → At0 n (rule₀ why b ∷ rs)
placeless k = next (λ e. refl) k

bare_at_0 : {n : ℕ} {rs : List Rule} → Bare rs → At0 n rs
bare_at_0 bare-none = none
bare_at_0 (bare-next e k) = next (λ _. e) (bare_at_0 k)

-- a question whose own rules have none, after others
question_at_0 : {A : Type 0} {refused : Refusal → A} {paper_of : A → PaperAnswer} {q : Question A} → Tells refused paper_of q → (before : List Rule) {w : Refusal} → At0 w.number before → answer_after before q ≡ refused w → w.place ≡ 0
question_at_0 tells before {w} k e = given_at_0 (at_0-++ k (bare_at_0 tells.bare)) ((told_exactly tells before w).0 e)

-- ---- "else": the numbers to which a crest gives no place

-- no crest gives a place to a number that is not its own
pub later_bare : (c : Crest) → Gives is_own c.rules → {n : ℕ} → is_own n ≡ false → At0 n c.rules
later_bare c own h = lacks_at_0 (lacks_other own h)

-- nor a file to 1
pub length_bare : (file : List ℕ) → At0 1 (crest_rules file)
unfolding crest_rules blocks_rules sum_rules field_rules number
length_bare file =
    at_0-++
    (placeless
    (at_0-++
    (lacks_at_0 (lacks_for_each (λ k. lacks_rule checksum (omega arith) empty) (block_count file) 0))
    (lacks_at_0 (lacks_for_each (λ k. lacks_rule block_field (omega arith) empty) (block_count file) 0))))
    (lacks_at_0 (records_lack (record_bytes file) (omega arith)))

-- a refusal with such a number has the place 0, whatever was asked
module _ (c : Crest) (w : Refusal) (k : At0 w.number c.rules) where
  pub check_else_0 : check_of c ≡ Refused w → w.place ≡ 0
  check_else_0 e = given_at_0 k e

  pub position_else_0 : (s : ℤ) → placed c s ≡ PlacedRefused w → w.place ≡ 0
  position_else_0 s e = question_at_0 (station_tells s c.elements) c.rules k e

  pub point_else_0 : (p : Point) → located c p ≡ LocatedRefused w → w.place ≡ 0
  point_else_0 p e = question_at_0 (point_tells p c.elements) c.rules k e

  pub place_else_0 : (s o : ℤ) → inverse c s o ≡ InverseRefused w → w.place ≡ 0
  place_else_0 s o e = question_at_0 (place_tells s o c.elements) c.rules k e

  pub reading_else_0 : (r : Reading) → answer_to c r ≡ AnswerRefused w → w.place ≡ 0
  reading_else_0 r e = question_at_0 (reading_tells r c.elements) c.rules k e

  pub sighting_else_0 : (s : Sighting) → sighted_to c s ≡ AnswerRefused w → w.place ≡ 0
  sighting_else_0 s e = question_at_0 (sighting_tells s c.elements) c.rules k e

-- the reader of a file likewise
pub record_else_0 : (file : List ℕ) (w : Refusal) → At0 w.number (crest_rules file) → (r : ℕ) → reader_outcome file r ≡ Refused w → w.place ≡ 0
unfolding reader_outcome
record_else_0 file w k r e = given_at_0 (at_0-++ k (placeless none)) e

-- the writer's 17 and 18
pub write_else_0 : (records : List ℕ) (room : ℕ) (w : Refusal) → is_own w.number ≡ false → writer_outcome records room ≡ Refused w → w.place ≡ 0
unfolding writer_outcome writer_rules
write_else_0 records room w h e =
    let z : At0 w.number (writer_rules records room) = placeless (at_0-++ (lacks_at_0 (lacks_other (records_own records) h)) (placeless none)) in
    given_at_0 z e

-- a stake-out's 11 and 7: it has no record
pub stake_out_0 : (own target : Point) (c s : ℤ) (w : Refusal) → stake_out own target c s ≡ MoveRefused w → w.place ≡ 0
stake_out_0 own target c s w e = question_at_0 (move_tells own target c s) [] none e

-- and those of a sighting's move
pub sighted_move_0 : (k : Sighting) (target : Point) (w : Refusal) → sighted_move k target ≡ MoveRefused w → w.place ≡ 0
sighted_move_0 k target w e = question_at_0 (sighted_move_tells k target) [] none e
