use Rattle.std.proofs.Common.{sym, List, ℕ}
use denote.Ref.{Bor}
use Rattle.plan_text.specs.Loose.{is_at}
use Rattle.plan_text.proofs.Places.{after-none, after-place, before-none, before-place}
use Rattle.plan_text.proofs.loose.at_word.Goals as goal

pub returns-in-Some-clause-before : goal.returns-in-Some-clause-before
returns-in-Some-clause-before c = before-place is_at (λ (w : Bor (List ℕ)). w.now) c.args.words.now c.in-Some.place (sym c.in-Some.ensures)

pub returns-in-Some-clause-after : goal.returns-in-Some-clause-after
returns-in-Some-clause-after c = after-place is_at (λ (w : Bor (List ℕ)). w.now) c.args.words.now c.in-Some.place (sym c.in-Some.ensures)

pub returns-in-None-clause-before : goal.returns-in-None-clause-before
returns-in-None-clause-before c = before-none is_at (λ (w : Bor (List ℕ)). w.now) c.args.words.now (sym c.in-None.ensures)

pub returns-in-None-clause-after : goal.returns-in-None-clause-after
returns-in-None-clause-after c = after-none is_at (λ (w : Bor (List ℕ)). w.now) c.args.words.now (sym c.in-None.ensures)
