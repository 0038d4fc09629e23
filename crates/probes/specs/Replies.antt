-- The three answers of the calls in one form: four numbers of 32 bits, two, or a refusal.
use Rattle.std.specs.Prelude.{ℕ, List, ◌≡◌, pos}
use Rattle.std.specs.Int.{w32}
use Rattle.std.proofs.Common.{SFits}
use Rattle.model.specs.declared.Placed.{Placed}
use Rattle.model.specs.declared.Placed.TheVariants.{At as PlacedAt, Refused as PlacedRefused}
use Rattle.model.specs.declared.Located.{Located}
use Rattle.model.specs.declared.Located.TheVariants.{At as LocatedAt, Refused as LocatedRefused}
use Rattle.model.specs.declared.Inverse.{Inverse}
use Rattle.model.specs.declared.Inverse.TheVariants.{At as InverseAt, Refused as InverseRefused}
use Rattle.model.specs.Records.{put}
use Rattle.model.specs.Answers.{code, refused_with}
use Rattle.codes.specs.Codes.{Codable, put_two}
use Rattle.probes.specs.declared.Reply.{Reply}
use Rattle.probes.specs.declared.Reply.TheVariants.{Four, Two, Refused}
use Rattle.probes.specs.ProbeCalls.{two_size, four_size, slot_a, slot_c}

unfoldable pub reply_of_placed : Placed → Reply
reply_of_placed (PlacedAt x y tx ty) = Four x y tx ty
reply_of_placed (PlacedRefused why) = Refused why

unfoldable pub reply_of_located : Located → Reply
reply_of_located (LocatedAt station offset residual visits) = Four (pos station) offset residual (pos visits)
reply_of_located (LocatedRefused why) = Refused why

unfoldable pub reply_of_inverse : Inverse → Reply
reply_of_inverse (InverseAt x y) = Two x y
reply_of_inverse (InverseRefused why) = Refused why

unfoldable pub reply_code : Reply → ℕ
unfolding code
reply_code (Four a b c d) = 0
reply_code (Two a b) = 0
reply_code (Refused why) = code (refused_with why 0)

unfoldable pub reply_bytes : Reply → List ℕ → List ℕ
unfolding put
reply_bytes (Four a b c d) old = put_two (put_two old slot_a a b) slot_c c d
reply_bytes (Two a b) old = put_two old slot_a a b
reply_bytes (Refused why) old = old

-- a reply whose numbers fit 32 bits, and the room that it is written to; a refusal has a code
unfoldable pub Sendable : ℕ → Reply → Type 0
Sendable room (Four a b c d) = (room ≡ four_size) × SFits w32 a × SFits w32 b × SFits w32 c × SFits w32 d
Sendable room (Two a b) = (room ≡ two_size) × SFits w32 a × SFits w32 b
Sendable room (Refused why) = Codable (refused_with why 0)
