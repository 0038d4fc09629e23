-- `joins::close_by` meets its contract: the code makes the two tests.
use Rattle.model.specs.Acceptance.{close_by}
use Rattle.joins.proofs.JoinNumbers.{tested}
use Rattle.joins.proofs.close_by.Goals as goal

pub returns-then-not-close : goal.returns-then-not-close
unfolding close_by
returns-then-not-close c =
    let t = c in
    let s = t in
    rw (tested s.args.n s.args.p.x s.args.q.x s.requires.small_point.x s.requires.small_point_2.x t.close.ensures, c.if-not-close.true)

pub returns : goal.returns
unfolding close_by
returns c =
    let d = c in
    let t = d in
    let s = t in
    rw (
      tested s.args.n s.args.p.x s.args.q.x s.requires.small_point.x s.requires.small_point_2.x t.close.ensures,
      d.if-not-close.false,
      tested s.args.n s.args.p.y s.args.q.y s.requires.small_point.y s.requires.small_point_2.y c.close-2.ensures,
    )
