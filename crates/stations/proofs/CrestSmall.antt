-- What is answered on a crest fits an i32.
use Prim.Native.Nat.{◌≤◌}
use mathlib.Core.Path.{◌≡◌}
use lib.IntN.{ℤ, nat_abs}
use Rattle.integers.proofs.Order.{clash}
use Rattle.model.specs.declared.Placed.TheVariants.{At as PlacedAt}
use Rattle.model.specs.declared.Inverse.TheVariants.{At as InverseAt}
use Rattle.model.specs.Acceptance.{frame}
use Rattle.model.specs.Crest.{Crest, SoundCrest}
use Rattle.model.specs.Answers.{placed, inverse}
use Rattle.model.proofs.Answers.{told_answer, station_tells, place_tells}
use Rattle.elements.specs.Extent.{Placeable}
use Rattle.stations.proofs.StationAnswers.{place_small}
use Rattle.stations.proofs.InverseAnswers.{inverse_small}

pub placed_small : (c : Crest) → SoundCrest c → (s : ℤ) {x y tx ty : ℤ} → placed c s ≡ PlacedAt x y tx ty → Placeable (record { x = x; y = y; tx = tx; ty = ty })
placed_small c sound s {x} {y} {tx} {ty} e =
    let on = told_answer (station_tells s c.elements) c.rules {a = PlacedAt x y tx ty} (λ why f. clash cc) e in
    place_small c.elements s (sound.accepted on.0).each on.1

pub inverse_of_small : (c : Crest) (s w : ℤ) {x y : ℤ} → inverse c s w ≡ InverseAt x y → (nat_abs x ≤ frame) × (nat_abs y ≤ frame)
inverse_of_small c s w {x} {y} e =
    let on = told_answer (place_tells s w c.elements) c.rules {a = InverseAt x y} (λ why f. clash cc) e in
    inverse_small c.elements s w on.1
