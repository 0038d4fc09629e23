-- `walk::passes::pass_on` meets its contract: each arm is the pass that it names.
use mathlib.Core.Path.{ap}
use native.Mathlib.Omega.{arith}
use Rattle.walk.specs.declared.Seen.{Seen}
use Rattle.walk.specs.Search.{on_element, first_on, pass_visits, pass_on}
use Rattle.walk_laws.proofs.Visits.{best_of-≤}
use Rattle.walk.proofs.Seeing.{seen_over-++, seen_over_best, seen_over_visits}
use Rattle.walk.proofs.Passing.{first_length}
use Rattle.walk.proofs.passes.pass_on.Goals as goal

pub end_on-requires : goal.end_on-requires
end_on-requires c =
    let s = c in
    let a = s.args in
    let d = on_element a.p.element a.start a.q in
    let vs = first_on a.own a.start in
    let ready = s.requires.passable in
    record {
      ready = ready.ready;
      frame = ready.frame;
      short = ready.short;
      long = ready.long;
      early = ready.early;
      best = omega (arith, ap (λ (x : Seen). x.best) c.multiples_on.ensures, seen_over_best d vs a.w, best_of-≤ d a.w.best vs, ready.best);
      visits = omega (arith, ap (λ (x : Seen). x.visits) c.multiples_on.ensures, seen_over_visits d vs a.w, first_length a.own a.start, s.requires.visits_le_countable_before_element, ready.short, ready.long);
    }

pub returns-in-First : goal.returns-in-First
unfolding pass_on pass_visits
returns-in-First c = rw (c.in-First.is, seen_over-++, ← c.multiples_on.ensures) c.end_on.ensures

pub returns-in-Second : goal.returns-in-Second
unfolding pass_on pass_visits
returns-in-Second c = rw c.in-Second.is c.second_on.ensures
