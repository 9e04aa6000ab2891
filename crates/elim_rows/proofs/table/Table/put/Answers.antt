use Rattle.std.proofs.Common.{◌≡◌, to_z, of_z, inl, inr, [], ◌∷◌, ◌++◌, refl, subst, ap, sym, ◌∙◌}
use Rattle.std.specs.Int.{w128}
use Rattle.std.proofs.lemmas.Int.{to_z-of_z}
use Rattle.std.proofs.lemmas.Bool.{iff_false}
use Rattle.elim_rows.specs.declared.candidate.Candidate.{Candidate}
use Rattle.elim_rows.specs.Table.{IsTable, candidate_with}
use Rattle.elim_rows.specs.Candidates.{rows_among}
use Rattle.elim_rows.proofs.Putting.{IsPut-added, IsPut-lowered, IsTable-lowered, useful_from}
use Rattle.elim_rows.proofs.table.Table.put.Goals as goal

pub returns-then-is_idle-clause-put : goal.returns-then-is_idle-clause-put
returns-then-is_idle-clause-put c =
    let old = c.args.self.now.rows.items in
    let bound : to_z w128 (of_z w128 c.args.bound) ≡ c.args.bound = to_z-of_z w128 c.args.bound c.ranges.bound in
    let idle = (rw bound at c.is_idle.ensures).0 c.if-is_idle.true in
    IsPut-added old old (candidate_with c.args.coefs.now c.args.bound c.args.origin) (inr (refl, idle.0, idle.1))

pub returns-in-Some-clause-table : goal.returns-in-Some-clause-table
returns-in-Some-clause-table c =
    let bound : to_z w128 (of_z w128 c.args.bound) ≡ c.args.bound = to_z-of_z w128 c.args.bound c.ranges.bound in
    let useful = useful_from c.args.coefs.now c.args.bound (iff_false (rw bound at c.is_idle.ensures) c.if-is_idle.false) in
    let chains = c.lower.ensures.chains in
    subst (λ chains. IsTable (rows_among c.lower.new.self.rows.items) chains.links.items chains.latest.items) (sym chains)
    (IsTable-lowered c.args.self.now.rows.items c.lower.new.self.rows.items c.in-Some.place c.args.coefs.now c.args.bound c.args.origin c.in-Some.ensures.0 c.in-Some.ensures.1 (rw bound at c.lower.ensures.rows) useful c.args.self.now.chains.links.items c.args.self.now.chains.latest.items c.requires.table)

pub returns-in-Some-clause-put : goal.returns-in-Some-clause-put
returns-in-Some-clause-put c =
    let bound : to_z w128 (of_z w128 c.args.bound) ≡ c.args.bound = to_z-of_z w128 c.args.bound c.ranges.bound in
    let useful = useful_from c.args.coefs.now c.args.bound (iff_false (rw bound at c.is_idle.ensures) c.if-is_idle.false) in
    IsPut-lowered c.args.self.now.rows.items c.lower.new.self.rows.items c.in-Some.place c.args.coefs.now c.args.bound c.args.origin c.in-Some.ensures.0 c.in-Some.ensures.1 (rw bound at c.lower.ensures.rows) useful

pub returns-clause-put : goal.returns-clause-put
returns-clause-put c =
    let bound : to_z w128 (of_z w128 c.args.bound) ≡ c.args.bound = to_z-of_z w128 c.args.bound c.ranges.bound in
    let useful = useful_from c.args.coefs.now c.args.bound (iff_false (rw bound at c.is_idle.ensures) c.if-is_idle.false) in
    let candidate = candidate_with c.args.coefs.now c.args.bound c.args.origin in
    let same : candidate_with c.in_ok-from_slice.field-0 c.args.bound c.args.origin ≡ candidate = ap (λ xs. candidate_with xs c.args.bound c.args.origin) c.in_ok-from_slice.ensures in
    IsPut-added c.args.self.now.rows.items c.push.new.self.rows.items candidate (inl ((rw bound at c.in_ok-push.ensures.pushed) ∙ ap (λ (b : Candidate). c.args.self.now.rows.items ++ b ∷ []) same, useful))
