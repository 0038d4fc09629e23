-- `walk::walk` meets its contract: what is seen after both passes is the station judged.
use mathlib.Core.List.{List}
use mathlib.Core.Path.{ap}
use native.Mathlib.Omega.{arith}
use Rattle.model.specs.declared.Element.{Element}
use Rattle.model.specs.Stations.{D}
use Rattle.sources.specs.Sources.{elements_lent}
use Rattle.stations.proofs.StationTotal.{total_within}
use Rattle.elements.specs.Extent.{unreached}
use Rattle.walk.specs.declared.Pass.TheVariants.{First}
use Rattle.walk.specs.declared.Seen.{Seen}
use Rattle.walk.proofs.Passing.{over_best, over_visits}
use Rattle.walk.proofs.Found.{start, found}
use Rattle.walk.proofs.walk.Goals.{Start}
use Rattle.walk.proofs.walk.Goals as goal

abbrev es : Start → List Element
es s = elements_lent s.args.form s.args.crest s.args.amendment

pub pass_over-w-requires : goal.pass_over-w-requires
pass_over-w-requires c =
    let s = c in record { source_accepted = s.requires.source_accepted; in_frame = s.requires.in_frame; best_le_unreached = (omega arith, omega arith) }

pub pass_over-requires : goal.pass_over-requires
pass_over-requires c =
    let s = c.before.before.before in
    let d = D (es (goal.at.pass_over-requires c).Start) s.args.q in
    let w = start unreached in
    let e = c.pass_over-w.ensures in
    let a = s.requires.source_accepted.alignment in record {
      source_accepted = s.requires.source_accepted;
      in_frame = s.requires.in_frame;
      best_le_unreached = (
        omega (arith, ap (λ (x : Seen). x.best) e, over_best First d (es (goal.at.pass_over-requires c).Start) 0 w),
        omega (arith, ap (λ (x : Seen). x.visits) e, over_visits First d (es (goal.at.pass_over-requires c).Start) 0 w, total_within (es (goal.at.pass_over-requires c).Start) a.each, a.most),
      );
    }

pub returns : goal.returns
returns c =
    let s = c in
    let a = s.requires.source_accepted.alignment in
    found _ a.some a.each _ s.requires.in_frame _ _ c.pass_over-w.ensures c.pass_over.ensures
