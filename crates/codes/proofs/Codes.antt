-- Every refusal of these calls is one of the table's, and its place is a block or a record, at most 60: so a call returns them as a code, and both can be read back.
use Prim.Native.Nat.{ℕ, ◌*◌, ◌/◌, ◌%◌}
use native.Mathlib.Omega.{arith}
use mathlib.Core.Bool.{Bool}
use mathlib.Core.List.{List, [], ◌∷◌, ◌++◌}
use mathlib.Core.Path.{◌≡◌, refl, ap}
use lib.Dec.{leb}
use lib.ListN.{length}
use Rattle.model.specs.declared.Refusal.{Refusal}
use Rattle.model.specs.declared.Outcome.{Outcome}
use Rattle.model.specs.declared.Outcome.TheVariants.{Done, Refused}
use Rattle.model.specs.Refusals.{Reason, record_count, wrong_room, number, refusal, Rule, rule₀, verdict}
use Rattle.model.specs.Records.{block_size}
use Rattle.model.specs.Acceptance.{records_rules}
use Rattle.model.specs.Crest.{Crest, SoundCrest, check_of}
use Rattle.model.specs.Answers.{PaperAnswer, paper_of_outcome, code}
use Rattle.model.specs.Writer.{count_fits, blocks_needed, writer_rules, writer_outcome}
use Rattle.model.proofs.Verdict.{reason_numbered, done→all, refused→first}
use Rattle.model.proofs.ForEach.{holds_one}
use Rattle.crestfile.proofs.SoundFile.{count_fits_lem}
use Rattle.crestfile.proofs.Placed.{PlacedOrder, none_placed, rule_placed, then_placed, records_placed}
use Rattle.codes.specs.Codes.{Codable}

-- ---- orders of refusals

-- what an order of refusals comes to has a code
abbrev CodableOrder : List Rule → Type 0
CodableOrder rs = Codable (paper_of_outcome (verdict rs))

-- an order whose places are at most 60: its numbers are the table's
order_codable : (rs : List Rule) → PlacedOrder rs → CodableOrder rs
unfolding paper_of_outcome refusal
order_codable rs placed = go (verdict rs) refl
  where
    go : (o : Outcome) → verdict rs ≡ o → Codable (paper_of_outcome o)
    go Done e = record { number = omega arith; place = omega arith }
    go (Refused why) e =
        let c = refused→first rs why e in
        let n : why.number ≡ number c.rule.why = ap (λ (w : Refusal). w.number) c.gives in
        record { number = omega (arith, reason_numbered c.rule.why); place = placed why e }

-- one part of an order after another
pub after_codable : (before rs : List Rule) → PlacedOrder before → PlacedOrder rs → CodableOrder (before ++ rs)
after_codable before rs p q = order_codable (before ++ rs) (then_placed before rs p (λ d. q))

-- a rule without a place, before others
pub unplaced : (why : Reason) (b : Bool) (rs : List Rule) → PlacedOrder rs → PlacedOrder (rule₀ why b ∷ rs)
unplaced why b rs k = rule_placed (rule₀ why b) rs (omega arith) (λ d. k)

-- ---- the check and the writer

pub check_codable : (c : Crest) → SoundCrest c → Codable (paper_of_outcome (check_of c))
check_codable c sound = order_codable c.rules sound.places

pub writer_codable : (records : List ℕ) (room : ℕ) → Codable (paper_of_outcome (writer_outcome records room))
unfolding writer_outcome writer_rules
writer_codable records room =
    let fits = leb (block_size * blocks_needed records) room in
    let roomy = rule₀ wrong_room fits ∷ [] in
    order_codable (writer_rules records room)
    (rule_placed (rule₀ record_count (count_fits (length records))) (records_rules records ++ roomy) (omega arith)
    (λ d.
    let few = ((count_fits_lem (length records)).0 (holds_one (done→all _ d))).1 in
    then_placed (records_rules records) roomy (records_placed records few) (λ e. unplaced wrong_room fits [] none_placed)))

-- ---- what is returned

-- the number and the place can be read back
pub code_read : (p : PaperAnswer) → Codable p → (code p % 256 ≡ p.number) × (code p / 256 ≡ p.place)
unfolding code
code_read p k = let n = k.number in (omega arith, omega arith)
