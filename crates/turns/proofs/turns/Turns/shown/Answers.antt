use Rattle.std.proofs.Common.{◌≡◌, ◌∷◌, [], false, Option, None, Some, MatchOption, ℕ, refl, subst, arith}
use Rattle.std.specs.Prelude.{slice_set}
use Rattle.turns.specs.CountersLeft.{IsCounterNext}
use Rattle.turns.specs.Turns.{places_pending}
use Rattle.turns.specs.TurnsLeft.{IsSomeTurn}
use Rattle.turns.specs.declared.turns.Turns.{Turns}
use Rattle.turns.proofs.Shown.{await_comes, behind_instances, post_comes, something}
use Rattle.turns.proofs.Steps.{closing_comes}
use Rattle.turns.proofs.TurnLists.{work_first}
use Rattle.turns.proofs.turns.Turns.shown.Goals as goal

none_pends : (c : Turns) (o : Option ℕ) → MatchOption o (places_pending c.pending ≡ []) (λ k. places_pending c.pending ≡ k ∷ places_pending (slice_set c.pending k false)) → ((k : ℕ) → o ≡ Some k → ⊥) → places_pending c.pending ≡ []
none_pends c None first other = first
none_pends c (Some k) first other = absurd (other k refl)

pub returns-in-Work-clause-next : goal.returns-in-Work-clause-next
returns-in-Work-clause-next c =
    let s = c.args.self.now in
    let rounds : s.step ≡ s.steps = omega (arith, c.requires.sound.within, c.if-self.false) in
    let n = subst (IsCounterNext s.counters) c.in-Work.is c.requires.looked.next in
    (n.0, (_, work_first s rounds n.0.instance n.1 n.2), record { next = n; end = c.requires.looked.end; rounds = rounds })

pub returns-in-Some-clause-next : goal.returns-in-Some-clause-next
returns-in-Some-clause-next c =
    let s = c.args.self.now in
    let rounds : s.step ≡ s.steps = omega (arith, c.requires.sound.within, c.if-self.false) in
    let behind = behind_instances s.counters c.args.next c.requires.looked.next c.in_default.not-Work in
    let k = c.in-Some.place in
    (closing_comes s k (places_pending (slice_set s.pending k false)) rounds behind c.in-Some.ensures.first, record { rounds = rounds; behind = behind; small = c.in-Some.ensures.small; pending = c.in-Some.ensures.first })

pub returns-in-Post-clause-next : goal.returns-in-Post-clause-next
returns-in-Post-clause-next c =
    let s = c.args.self.now in
    let rounds : s.step ≡ s.steps = omega (arith, c.requires.sound.within, c.if-self.false) in
    let none = none_pends s c.first_to_close.result c.first_to_close.ensures.first c.in_default-first_to_close.not-Some in
    let off = subst (IsSomeTurn s) c.in-Post.is (something s c.args.next c.requires.open rounds none) in
    let n = subst (IsCounterNext s.counters) c.in-Post.is c.requires.looked.next in
    (post_comes s c.in-Post.number n.0 rounds none off n.1, record { shows = record { next = n; end = c.requires.looked.end; rounds = rounds }; none = none; by_counters = off })

pub returns-in-Await-clause-next : goal.returns-in-Await-clause-next
returns-in-Await-clause-next c =
    let s = c.args.self.now in
    let rounds : s.step ≡ s.steps = omega (arith, c.requires.sound.within, c.if-self.false) in
    let none = none_pends s c.first_to_close.result c.first_to_close.ensures.first c.in_default-first_to_close.not-Some in
    let off = subst (IsSomeTurn s) c.in-Await.is (something s c.args.next c.requires.open rounds none) in
    let n = subst (IsCounterNext s.counters) c.in-Await.is c.requires.looked.next in
    (await_comes s c.in-Await.on c.in-Await.wanted n.0 rounds none off n.1, record { shows = record { next = n; end = c.requires.looked.end; rounds = rounds }; none = none; by_counters = off })
