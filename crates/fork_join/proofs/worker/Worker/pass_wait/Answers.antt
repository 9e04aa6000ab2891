use Rattle.std.proofs.Common.{◌≡◌, ℕ, ◌⊎◌, inl, inr, sym, ◌∙◌, subst}
use Rattle.nest_tree.specs.View.{tree_of}
use Rattle.nest_walk.specs.declared.cursor.Stop.{Stop}
use Rattle.turns.specs.TurnsLeft.{IsTurn}
use Rattle.turns.specs.declared.turns.Next.{Next}
use Rattle.turns.specs.declared.turns.Next.TheVariants.{Post, Await, Work, Close, End}
use Rattle.fork_join.proofs.Beginning.{only_waits, passed_beginning}
use Rattle.fork_join.proofs.Turning.{waits_next}
use Rattle.fork_join.proofs.worker.Worker.pass_wait.Goals as goal

some_turn : (next : Next) → ((x : ℕ) × (next ≡ Post x)) ⊎ ((x : ℕ) × (y : ℕ) × (next ≡ Await x y)) → IsTurn next
some_turn next (inl (x, e)) = subst IsTurn (sym e) tt
some_turn next (inr (x, y, e)) = subst IsTurn (sym e) tt

no_wait : (next : Next) → ((stop : Stop) × (next ≡ Work stop)) ⊎ (((k : ℕ) × (next ≡ Close k)) ⊎ (next ≡ End)) → ((x : ℕ) × (next ≡ Post x)) ⊎ ((x : ℕ) × (y : ℕ) × (next ≡ Await x y)) → ⊥
no_wait next (inl (stop, e)) (inl (x, is)) = let clash : Work stop ≡ Post x = sym e ∙ is in cc
no_wait next (inl (stop, e)) (inr (x, y, is)) = let clash : Work stop ≡ Await x y = sym e ∙ is in cc
no_wait next (inr (inl (k, e))) (inl (x, is)) = let clash : Close k ≡ Post x = sym e ∙ is in cc
no_wait next (inr (inl (k, e))) (inr (x, y, is)) = let clash : Close k ≡ Await x y = sym e ∙ is in cc
no_wait next (inr (inr e)) (inl (x, is)) = let clash : End ≡ Post x = sym e ∙ is in cc
no_wait next (inr (inr e)) (inr (x, y, is)) = let clash : End ≡ Await x y = sym e ∙ is in cc

pub pass-requires-clause-sound : goal.pass-requires-clause-sound
pass-requires-clause-sound c = c.requires.at.stands.runs.sound

pub pass-requires-clause-none : goal.pass-requires-clause-none
pass-requires-clause-none c = c.requires.next.0

pub pass-requires-clause-next : goal.pass-requires-clause-next
pass-requires-clause-next c = c.requires.next.1

pub pass-requires-clause-some : goal.pass-requires-clause-some
pass-requires-clause-some c = some_turn c.args.next c.in-Post.is

pub unreachable-requires-in-Work : goal.unreachable-requires-in-Work
unreachable-requires-in-Work c =
    let w = c.args.self.now in
    only_waits (tree_of w.program.now) w.plan.now c.requires.safe c.args.behind w.processor c.requires.below w c.args.next c.requires.at c.requires.next (no_wait c.args.next c.in-Work.is)

pub returns-clause-at : goal.returns-clause-at
returns-clause-at c =
    let w = c.args.self.now in
    let tree = tree_of w.program.now in
    let s = waits_next tree w.plan.now w.processor w.turns.turns c.args.next c.requires.next.1 c.in-Post.is in
    let went = c.pass.ensures in
    passed_beginning tree w.plan.now c.requires.safe c.args.behind w.processor c.requires.below w c.pass.new.self c.further-self.result c.args.next c.requires.at s went.sound c.requires.next.0 went.none c.further-self.ensures went.passed went.plain went.same
