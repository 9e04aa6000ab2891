use Rattle.std.proofs.Common.{ap, sym, ◌∙◌}
use Rattle.turns.specs.Turns.{places_pending, beginnings}
use Rattle.turns.specs.CountersLeft.{counters_left}
use Rattle.turns.proofs.Beginnings.{other_begun}
use Rattle.turns.proofs.Shown.{begins_plainly, silent_begins}
use Rattle.turns.proofs.turns.Turns.begin_watched.Goals as goal

pub loop-self-preserved : goal.loop-self-preserved
loop-self-preserved c =
    let l = c.loop-self in
    let i = l.invariant in
    let p = c.pass_silent.ensures in
    let n = c.look-next-in-loop-self.ensures in
    record {
      sound = n.sound;
      looked = n.looked;
      left = n.left ∙ p.left ∙ i.left;
      begins = ap beginnings n.plain ∙ other_begun l.self.counters l.next p.plain.0 (counters_left c.pass_silent.new.self.counters) i.looked.next c.in_default.not-Phase p.plain.1 ∙ i.begins;
      plain = λ is. absurd (silent_begins l.self l.next (c.is_silent.ensures.silent c.loop-self-test.true) (i.same.style ∙ is) c.in_default.not-Phase);
      pending = λ is. absurd (silent_begins l.self l.next (c.is_silent.ensures.silent c.loop-self-test.true) (i.same.style ∙ is) c.in_default.not-Phase);
      watched = n.watched ∙ p.watched;
      same = record { program = n.same.program ∙ p.same.program ∙ i.same.program; plan = n.same.plan ∙ p.same.plan ∙ i.same.plan; processor = n.same.processor ∙ p.same.processor ∙ i.same.processor; style = n.same.style ∙ p.same.style ∙ i.same.style };
    }

pub shown-requires-clause-open : goal.shown-requires-clause-open
shown-requires-clause-open c = c.is_silent.ensures.open c.loop-self-test.false

pub returns-in-Phase-clause-plain : goal.returns-in-Phase-clause-plain
returns-in-Phase-clause-plain c = λ is.
    let l = c.loop-self in
    let i = l.invariant in
    let quiet = c.is_silent.ensures.silent c.loop-self-test.true in
    let p = c.pass_silent.ensures.plain in
    (ap places_pending (sym (i.pending is)) ∙ quiet.none, sym (i.plain is) ∙ begins_plainly l.self.counters c.pass_silent.new.self.counters l.next c.in-Phase.phase i.looked.next c.in-Phase.is p)

pub returns-clause-plain : goal.returns-clause-plain
returns-clause-plain c = λ is. (c.loop-self.invariant.plain is, c.shown.ensures.end)
