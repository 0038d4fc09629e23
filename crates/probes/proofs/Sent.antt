-- Every answer on a crest can be sent: its numbers fit 32 bits, and its refusal is one of the table's.
use Prim.Native.Nat.{ℕ, ◌≤◌}
use mathlib.Core.List.{List}
use mathlib.Core.Path.{◌≡◌, refl, sym, subst}
use native.Mathlib.Omega.{arith}
use lib.IntN.{ℤ, nat_abs}
use Rattle.integers.proofs.Ranges.{fits_below}
use Rattle.integers.proofs.Order.{clash}
use Rattle.model.specs.declared.Element.{Element}
use Rattle.model.specs.declared.Point.{Point}
use Rattle.model.specs.declared.Placed.{Placed}
use Rattle.model.specs.declared.Placed.TheVariants.{At as PlacedAt, Refused as PlacedRefused}
use Rattle.model.specs.declared.Located.{Located}
use Rattle.model.specs.declared.Located.TheVariants.{At as LocatedAt, Refused as LocatedRefused}
use Rattle.model.specs.declared.Inverse.{Inverse}
use Rattle.model.specs.declared.Inverse.TheVariants.{At as InverseAt, Refused as InverseRefused}
use Rattle.model.specs.Acceptance.{frame}
use Rattle.model.specs.Crest.{Crest, SoundCrest}
use Rattle.model.specs.Answers.{placed, paper_of_placed, located, paper_of_located, inverse, paper_of_inverse}
use Rattle.model.proofs.Answers.{told_answer, station_tells, point_tells, place_tells}
use Rattle.elements.specs.Extent.{Placeable}
use Rattle.stations.proofs.CrestSmall.{placed_small, inverse_of_small}
use Rattle.stations.proofs.StationTotal.{total_within}
use Rattle.walk_laws.proofs.Outcomes.{answered, count_is}
use Rattle.nearest.proofs.Fitting.{Fits, answer_fits}
use Rattle.codes.specs.Codes.{Codable}
use Rattle.codes.proofs.QuestionCodes.{question_codable}
use Rattle.probes.specs.declared.Reply.{Reply}
use Rattle.probes.specs.Replies.{reply_of_placed, reply_of_located, reply_of_inverse, Sendable}
use Rattle.probes.specs.ProbeCalls.{two_size, four_size}
use Rattle.probes.proofs.Visited.{visits_within}

-- room and a reply that are the same
pub same_sendable : {m n : ℕ} {r s : Reply} → m ≡ n → r ≡ s → Sendable n s → Sendable m r
same_sendable {n = n} {r = r} {s = s} e f k = subst (λ (l : ℕ). Sendable l r) (sym e) (subst (λ (x : Reply). Sendable n x) (sym f) k)

-- ---- a refusal that has a code, or an answer whose numbers fit

placed_fits : (a : Placed) → Codable (paper_of_placed a) → ((x y tx ty : ℤ) → a ≡ PlacedAt x y tx ty → Placeable (record { x = x; y = y; tx = tx; ty = ty })) → Sendable four_size (reply_of_placed a)
unfolding paper_of_placed reply_of_placed Sendable
placed_fits (PlacedAt x y tx ty) k f =
    let a = f x y tx ty refl in
    (refl, fits_below (omega (arith, a.x)), fits_below (omega (arith, a.y)), fits_below a.tx, fits_below a.ty)
placed_fits (PlacedRefused why) k f = record { number = k.number; place = k.place }

-- the station, offset and residual, and the count of visits
pub record Answers (station : ℕ) (offset residual : ℤ) (visits : ℕ) : Type 0 where
  pub values : Fits station offset residual
  pub few : visits ≤ 60000002

located_fits : (a : Located) → Codable (paper_of_located a) → ((station : ℕ) (offset residual : ℤ) (visits : ℕ) → a ≡ LocatedAt station offset residual visits → Answers station offset residual visits) → Sendable four_size (reply_of_located a)
unfolding paper_of_located reply_of_located Sendable
located_fits (LocatedAt station offset residual visits) k f =
    let a = f station offset residual visits refl in
    (refl, fits_below (omega (arith, a.values.short)), fits_below (omega (arith, a.values.aside)), fits_below (omega (arith, a.values.along)), fits_below (omega (arith, a.few)))
located_fits (LocatedRefused why) k f = record { number = k.number; place = k.place }

inverse_fits : (a : Inverse) → Codable (paper_of_inverse a) → ((x y : ℤ) → a ≡ InverseAt x y → (nat_abs x ≤ frame) × (nat_abs y ≤ frame)) → Sendable two_size (reply_of_inverse a)
unfolding paper_of_inverse reply_of_inverse Sendable
inverse_fits (InverseAt x y) k f = let a = f x y refl in (refl, fits_below (omega (arith, a.0)), fits_below (omega (arith, a.1)))
inverse_fits (InverseRefused why) k f = record { number = k.number; place = k.place }

-- ---- on a crest of any source

module _ (c : Crest) (sound : SoundCrest c) where
  abbrev es : List Element
  es = c.elements

  pub placed_sendable : (s : ℤ) → Sendable four_size (reply_of_placed (placed c s))
  placed_sendable s = placed_fits (placed c s) (question_codable (station_tells s es) c.rules sound.places) (λ x y tx ty e. placed_small c sound s e)

  located_answers : (p : Point) (station : ℕ) (offset residual : ℤ) (visits : ℕ) → located c p ≡ LocatedAt station offset residual visits → Answers station offset residual visits
  located_answers p station offset residual visits e =
      let on = told_answer (point_tells p es) c.rules {a = LocatedAt station offset residual visits} (λ why f. clash cc) e in
      let accepted = sound.accepted on.0 in
      let a = (answered es p station offset residual visits).0 on.1 in
      record {
        values = answer_fits es accepted.most accepted.each p station offset residual visits on.1;
        few = omega (arith, a.count, count_is es p, visits_within es accepted.some accepted.each p, total_within es accepted.each, accepted.most);
      }

  pub located_sendable : (p : Point) → Sendable four_size (reply_of_located (located c p))
  located_sendable p = located_fits (located c p) (question_codable (point_tells p es) c.rules sound.places) (located_answers p)

  pub inverse_sendable : (s w : ℤ) → Sendable two_size (reply_of_inverse (inverse c s w))
  inverse_sendable s w = inverse_fits (inverse c s w) (question_codable (place_tells s w es) c.rules sound.places) (λ x y e. inverse_of_small c s w e)
