use Rattle.std.proofs.Common.{◌≡◌, ◌≤◌, ℕ, Option, Some, None, IfSome, sym, ◌∙◌}
use Rattle.f77_program.specs.Numbered.{numbered, texts_of}
use Rattle.f77_program.proofs.Looked.{numbered-within}
use Rattle.f77_program.proofs.names.Names.number.Goals as goal

pub returns-clause-counted : goal.returns-clause-counted
returns-clause-counted c = counted c.number.result (sym (c.number.ensures ∙ c.self.invariant c.args.name.now))
  where
    counted : (o : Option ℕ) → numbered (texts_of c.self.inside.names.items) c.args.name.now ≡ o → IfSome o (λ k. 1 ≤ k)
    counted None h = tt
    counted (Some k) h = (numbered-within (texts_of c.self.inside.names.items) c.args.name.now k h).0
