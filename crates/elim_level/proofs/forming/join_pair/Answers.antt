use Rattle.std.proofs.Common.{rules, ◌≡◌, FitsSigned, to_z, of_z, subst}
use Rattle.std.specs.Int.{w128}
use Rattle.std.proofs.lemmas.Int.{to_z-of_z}
use Rattle.elim_rows.specs.Table.{IsPut, candidate_with}
use Rattle.elim_level.proofs.Gathered.{IsJoined-put}
use Rattle.elim_level.proofs.forming.join_pair.Goals as goal

pub returns-clause-joined : goal.returns-clause-joined
returns-clause-joined c =
    let old = c.args.table.now.rows.items in
    let new = c.put.new.self.rows.items in
    let b = c.in_ok-bound.bound in
    let fits : FitsSigned w128 b = search rules in
    let back : to_z w128 (of_z w128 b) ≡ b = to_z-of_z w128 b fits in
    let put = rw back at c.in_ok-put.ensures.put in
    let candidate = candidate_with c.paired.new.coefs.items b c.in_ok-bound.origin in
    let here : IsPut old candidate new = subst (λ xs. IsPut old (candidate_with xs b c.in_ok-bound.origin) new) c.as_slice.ensures.value put in
    IsJoined-put c.args.variable c.args.upper.now c.args.lower.now old new candidate c.in_ok-bound.ensures.made here
