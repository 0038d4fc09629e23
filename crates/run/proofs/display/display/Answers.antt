-- `run::display::display` meets its contract: station and offset fit 32 bits, so that each cast keeps the number.
use borrow.Author.Rules.{rules}
use native.Mathlib.Omega.{arith}
use Rattle.model.specs.Readings.{display_of}
use Rattle.model.specs.Run.{shown_of}
use Rattle.run.proofs.Narrow.{stored, wide, narrow_fits, narrow}
use Rattle.run.proofs.display.display.Goals as goal

pub overflow_cast-result : goal.overflow_cast-result
unfolding shown_of
overflow_cast-result c = let s = stored c.in-PlanePoint.is c.requires in record { fits = omega (arith, s.values.one.sfits) }

pub overflow_cast-result-in-PlanePoint : goal.overflow_cast-result-in-PlanePoint
unfolding shown_of
overflow_cast-result-in-PlanePoint c = narrow_fits c.in-PlanePoint.offset (wide c.in-PlanePoint.offset (search rules)) (stored c.in-PlanePoint.is c.requires).values.two

pub returns-in-PlanePoint : goal.returns-in-PlanePoint
unfolding shown_of display_of
returns-in-PlanePoint c =
    let s = stored c.in-PlanePoint.is c.requires in
    rw (c.in-PlanePoint.is, narrow c.in-PlanePoint.offset (wide c.in-PlanePoint.offset (search rules)) s.values.two)

pub returns-in-LinePlace : goal.returns-in-LinePlace
unfolding display_of
returns-in-LinePlace c = rw c.in-LinePlace.is

pub returns-in-Refused : goal.returns-in-Refused
unfolding display_of
returns-in-Refused c = rw c.in-Refused.is
