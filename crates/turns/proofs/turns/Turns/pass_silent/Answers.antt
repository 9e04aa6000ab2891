use Rattle.std.proofs.Common.{◌≡◌, ℕ, refl, sym, subst}
use Rattle.turns.specs.declared.counters.CounterNext.{CounterNext}
use Rattle.turns.specs.declared.counters.CounterNext.TheVariants.{Post, Await, Phase, Work, End}
use Rattle.turns.specs.TurnsLeft.{HasLooked, IsBeforeCounter, IsCounterOf, IsSilent}
use Rattle.turns.specs.declared.turns.Turns.{Turns}
use Rattle.turns.proofs.turns.Turns.pass_silent.Goals as goal

before : (c : Turns) (n : CounterNext) → HasLooked c n → IsSilent c n → ((e : ℕ) → n ≡ Phase e → ⊥) → IsBeforeCounter c
before c (Post number) l i other = record { rounds = i.rounds; none = i.none; end = l.end; number = number; counter = subst (λ ts. IsCounterOf ts number) (sym l.next.1) refl }
before c (Await on wanted) l i other = record { rounds = i.rounds; none = i.none; end = l.end; number = wanted; counter = subst (λ ts. IsCounterOf ts wanted) (sym l.next.1) refl }
before c (Phase e) l i other = absurd (other e refl)
before c (Work stop) l i other = absurd i.turn
before c End l i other = absurd i.turn

pub pass_counters-requires : goal.pass_counters-requires
pass_counters-requires c = record { sound = c.requires.sound; next = before c.args.self.now c.args.next c.requires.looked c.requires.silent c.in_default.not-Phase }
