-- `probes::send` meets its contract: four numbers, two, or a refusal.
use native.Mathlib.Omega.{arith}
use mathlib.Core.Path.{◌≡◌, refl, sym, ap, ◌∙◌, subst}
use lib.ListN.{length}
use Rattle.run.proofs.Narrow.{wide, narrow_fits}
use Rattle.probes.specs.declared.Reply.{Reply}
use Rattle.codes.proofs.Casts.{then_two}
use Rattle.probes.specs.Replies.{reply_code, reply_bytes, Sendable}
use borrow.Author.Rules.{rules}
use Rattle.probes.proofs.send.Goals.{Start}
use Rattle.probes.proofs.send.Goals as goal

-- what is promised of the reply that came, by its case
sendable : (s : Start) {r : Reply} → s.args.reply ≡ r → Sendable (length s.args.room.now) r
sendable s e = subst (λ (r : Reply). Sendable (length s.args.room.now) r) e s.requires

pub put_two-requires : goal.put_two-requires
unfolding Sendable
put_two-requires c =
    let v = sendable (goal.at.put_two-requires c).Start c.in-Four.is in
    record { at_in_bounds = omega (arith, v.0); sfits = narrow_fits c.in-Four.a (wide c.in-Four.a (search rules)) v.1; sfits_2 = narrow_fits c.in-Four.b (wide c.in-Four.b (search rules)) v.2 }

pub put_two-requires-in-Four : goal.put_two-requires-in-Four
unfolding Sendable
put_two-requires-in-Four c =
    let v = sendable (goal.at.put_two-requires-in-Four c).Start c.in-Four.is in
    record { at_in_bounds = omega (arith, v.0, c.put_two.auto.room); sfits = narrow_fits c.in-Four.c (wide c.in-Four.c (search rules)) v.3; sfits_2 = narrow_fits c.in-Four.d (wide c.in-Four.d (search rules)) v.4 }

pub put_two-requires-in-Two : goal.put_two-requires-in-Two
unfolding Sendable
put_two-requires-in-Two c =
    let v = sendable (goal.at.put_two-requires-in-Two c).Start c.in-Two.is in
    record { at_in_bounds = omega (arith, v.0); sfits = narrow_fits c.in-Two.a (wide c.in-Two.a (search rules)) v.1; sfits_2 = narrow_fits c.in-Two.b (wide c.in-Two.b (search rules)) v.2 }

pub code_of-requires : goal.code_of-requires
unfolding Sendable
code_of-requires c = sendable (goal.at.code_of-requires c).Start c.in-Refused.is

pub returns-in-Four : goal.returns-in-Four
unfolding reply_code reply_bytes
returns-in-Four c =
    let f = c.in-Four in
    let room = c.args.room.now in
    record {
      value = sym (ap reply_code f.is);
      room_after =
          then_two 8 f.c f.d (wide c.in-Four.c (search rules)) (wide c.in-Four.d (search rules))
          (then_two {l = room} 0 f.a f.b (wide c.in-Four.a (search rules)) (wide c.in-Four.b (search rules)) refl c.put_two.ensures)
          c.put_two-in-Four.ensures
          ∙ sym (ap (λ (r : Reply). reply_bytes r room) f.is);
    }

pub returns-in-Two : goal.returns-in-Two
unfolding reply_code reply_bytes
returns-in-Two c =
    let t = c.in-Two in
    let room = c.args.room.now in
    record {
      value = sym (ap reply_code t.is);
      room_after =
          then_two {l = room} 0 t.a t.b (wide c.in-Two.a (search rules)) (wide c.in-Two.b (search rules)) refl c.put_two-in-Two.ensures
          ∙ sym (ap (λ (r : Reply). reply_bytes r room) t.is);
    }

pub returns-in-Refused : goal.returns-in-Refused
unfolding reply_code reply_bytes
returns-in-Refused c =
    let e = c.in-Refused.is in
    record { value = c.code_of.ensures ∙ sym (ap reply_code e); room_after = sym (ap (λ (r : Reply). reply_bytes r c.args.room.now) e) }
