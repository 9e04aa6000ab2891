use Rattle.turns.proofs.Shown.{await_comes, plainly, post_comes, unseen_there}
use Rattle.turns.proofs.TurnLists.{nothing_left, work_first}
use Rattle.turns.proofs.turns.Turns.peek_plain.Goals as goal

pub returns-in-Work-clause-left : goal.returns-in-Work-clause-left
returns-in-Work-clause-left c = unseen_there c.args.self.now c.peek_act.new.self c.requires.sound c.requires.plain c.peek_act.ensures.left

pub returns-in-Work-clause-next : goal.returns-in-Work-clause-next
returns-in-Work-clause-next c =
    let s = c.args.self.now in
    let n = c.in-Work.ensures.next in
    let p = plainly s c.requires.sound c.requires.plain in
    (n.0, (_, work_first (record s { counters = c.peek_act.new.self }) p.rounds n.0.instance n.1 n.2), record { next = n; end = c.peek_act.ensures.end; rounds = p.rounds })

pub returns-in-Post-clause-left : goal.returns-in-Post-clause-left
returns-in-Post-clause-left c = unseen_there c.args.self.now c.peek_act.new.self c.requires.sound c.requires.plain c.peek_act.ensures.left

pub returns-in-Post-clause-next : goal.returns-in-Post-clause-next
returns-in-Post-clause-next c =
    let s = c.args.self.now in
    let n = c.in-Post.ensures.next in
    let p = plainly s c.requires.sound c.requires.plain in
    let k = c.in-Post.number in
    (post_comes (record s { counters = c.peek_act.new.self }) k n.0 p.rounds p.none (p.off k) n.1, record { shows = record { next = n; end = c.peek_act.ensures.end; rounds = p.rounds }; none = p.none; by_counters = p.off k })

pub returns-in-Await-clause-left : goal.returns-in-Await-clause-left
returns-in-Await-clause-left c = unseen_there c.args.self.now c.peek_act.new.self c.requires.sound c.requires.plain c.peek_act.ensures.left

pub returns-in-Await-clause-next : goal.returns-in-Await-clause-next
returns-in-Await-clause-next c =
    let s = c.args.self.now in
    let n = c.in-Await.ensures.next in
    let p = plainly s c.requires.sound c.requires.plain in
    let k = c.in-Await.wanted in
    (await_comes (record s { counters = c.peek_act.new.self }) c.in-Await.on k n.0 p.rounds p.none (p.off k) n.1, record { shows = record { next = n; end = c.peek_act.ensures.end; rounds = p.rounds }; none = p.none; by_counters = p.off k })

pub returns-in-End-clause-left : goal.returns-in-End-clause-left
returns-in-End-clause-left c = unseen_there c.args.self.now c.peek_act.new.self c.requires.sound c.requires.plain c.peek_act.ensures.left

pub returns-in-End-clause-next : goal.returns-in-End-clause-next
returns-in-End-clause-next c =
    let s = c.args.self.now in
    let p = plainly s c.requires.sound c.requires.plain in
    nothing_left (record s { counters = c.peek_act.new.self }) p.rounds c.in-End.ensures.next p.none
