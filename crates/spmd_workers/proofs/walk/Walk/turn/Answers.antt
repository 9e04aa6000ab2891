use Rattle.std.proofs.Common.{◌≡◌, suc, ℕ, List, length, sym, ◌∙◌, ap, subst, inl, arith}
use Rattle.turns.specs.Turns.{Turn}
use Rattle.turns.specs.TurnsLeft.{IsNextOrPhase, beginnings_left}
use Rattle.turns.specs.declared.turns.NextOrPhase.{NextOrPhase}
use Rattle.spmd_workers.specs.Walks.{to_go}
use Rattle.spmd_workers.proofs.Legs.{come_by, goes_more, looked_ready, tells_more}
use Rattle.spmd_workers.proofs.Walks.{HasCome}
use Rattle.spmd_workers.proofs.walk.Walk.turn.Goals as goal

pub returns-in-Phase-clause-goes : goal.returns-in-Phase-clause-goes
returns-in-Phase-clause-goes g c =
    let x = c.args.self.now in
    let z = c.strip.new.self in
    let d = c.peek_or_begin.new.self in
    let goes = c.strip.ensures.goes in
    let look = c.peek_or_begin.ensures in
    let (begun, begins) = come_by z.turns d c.peek_or_begin.result look.next in
    let come : HasCome z.turns d = record { sound = look.sound; same = look.same; begun = begun; begins = begins } in
    record { ready = looked_ready z goes.ready d come look.left; seat = goes.seat; answered = goes.answered; legs = goes.legs }

pub returns-in-Phase-clause-tells : goal.returns-in-Phase-clause-tells
returns-in-Phase-clause-tells g c =
    let x = c.args.self.now in
    let z = c.strip.new.self in
    let d = c.peek_or_begin.new.self in
    let goes = c.strip.ensures.goes in
    let look = c.peek_or_begin.ensures in
    let (begun, begins) = come_by z.turns d c.peek_or_begin.result look.next in
    let come : HasCome z.turns d = record { sound = look.sound; same = look.same; begun = begun; begins = begins } in
    let phase : IsNextOrPhase z.turns d (NextOrPhase.Phase c.in-Phase.phase) = subst (IsNextOrPhase z.turns d) c.in-Phase.is look.next in
    let left = ap (λ (l : List Turn). length l) (look.left ∙ c.strip.ensures.left c.if-strip.false) in
    let more : length (beginnings_left x.turns) ≡ suc (length (beginnings_left d)) = ap (λ (l : List ℕ). length l) (sym c.strip.ensures.begins ∙ phase) in
    record { further = inl (c.strip.ensures.same c.if-strip.false); answered = λ several. c.strip.ensures.answered; less = omega (arith, left, more) }

pub act-requires-clause-ready : goal.act-requires-clause-ready
act-requires-clause-ready g c =
    let x = c.args.self.now in
    let z = c.strip.new.self in
    let d = c.peek_or_begin.new.self in
    let goes = c.strip.ensures.goes in
    let look = c.peek_or_begin.ensures in
    let (begun, begins) = come_by z.turns d c.peek_or_begin.result look.next in
    let come : HasCome z.turns d = record { sound = look.sound; same = look.same; begun = begun; begins = begins } in
    looked_ready z goes.ready d come look.left

pub act-requires-clause-next : goal.act-requires-clause-next
act-requires-clause-next g c =
    let x = c.args.self.now in
    let z = c.strip.new.self in
    let d = c.peek_or_begin.new.self in
    let goes = c.strip.ensures.goes in
    let look = c.peek_or_begin.ensures in
    let (begun, begins) = come_by z.turns d c.peek_or_begin.result look.next in
    let come : HasCome z.turns d = record { sound = look.sound; same = look.same; begun = begun; begins = begins } in
    (subst (IsNextOrPhase z.turns d) c.in-Turn.is look.next).0

pub returns-in-Turn-clause-goes : goal.returns-in-Turn-clause-goes
returns-in-Turn-clause-goes g c =
    let z = c.strip.new.self in
    let goes = c.strip.ensures.goes in
    goes_more c.args.self.now (record z { turns = c.peek_or_begin.new.self }) c.act.new.self goes.seat goes.answered goes.legs c.act.ensures.goes

pub returns-in-Turn-clause-tells : goal.returns-in-Turn-clause-tells
returns-in-Turn-clause-tells g c =
    let x = c.args.self.now in
    let z = c.strip.new.self in
    let d = c.peek_or_begin.new.self in
    let goes = c.strip.ensures.goes in
    let look = c.peek_or_begin.ensures in
    let (begun, begins) = come_by z.turns d c.peek_or_begin.result look.next in
    let come : HasCome z.turns d = record { sound = look.sound; same = look.same; begun = begun; begins = begins } in
    let seen = (subst (IsNextOrPhase z.turns d) c.in-Turn.is look.next).1 in
    let left = ap (λ (l : List Turn). length l) (look.left ∙ c.strip.ensures.left c.if-strip.false) in
    let same = ap (λ (l : List ℕ). length l) (seen ∙ c.strip.ensures.begins) in
    let count : to_go (record z { turns = d }) ≡ to_go x = omega (arith, left, same) in
    tells_more x (record z { turns = d }) c.act.new.self c.act.result (c.strip.ensures.same c.if-strip.false) count c.strip.ensures.answered c.act.ensures.tells
