use Rattle.std.proofs.Common.{rules, ◌≡◌, ◌++◌, IsTrue, FitsSigned, to_z, of_z, ap, sym, ◌∙◌, subst}
use Rattle.std.specs.Int.{w128}
use Rattle.std.specs.List.{All}
use Rattle.std.proofs.lemmas.Int.{to_z-of_z}
use Rattle.farkas_cert.specs.Combination.{is_narrow}
use Rattle.elim_level.proofs.Lowest.{narrow_reduced}
use Rattle.farkas_cert.specs.declared.system.Row.{Row}
use Rattle.elim_rows.specs.Reduction.{IsReducedBy}
use Rattle.elim_rows.specs.Table.{IsPut, candidate_with, origin_of}
use Rattle.elim_level.proofs.Origins.{given_founded}
use Rattle.elim_level.proofs.level.put_given.Goals as goal

pub put-requires-clause-narrow : goal.put-requires-clause-narrow
put-requires-clause-narrow c =
    let raw = c.args.row.now in
    let copy : c.extend_from_slice.new.self.items ≡ raw.coefs = c.in_ok-extend_from_slice.ensures.items ∙ ap (λ xs. xs ++ c.as_slice.result.now) c.clear.ensures.items ∙ c.as_slice.ensures in
    let by = c.reduce-bound.ensures in
    subst (All (λ a. IsTrue (is_narrow a))) (sym c.as_slice-2.ensures.value) (narrow_reduced by.0 (record { coefs = c.extend_from_slice.new.self.items; bound = to_z w128 (of_z w128 raw.bound) }) (record { coefs = c.reduce-bound.new.coefs.items; bound = c.reduce-bound.result.0 }) (subst (All (λ a. IsTrue (is_narrow a))) (sym copy) c.requires.narrow) by.2)

pub returns-clause-put : goal.returns-clause-put
returns-clause-put c =
    let raw = c.args.row.now in
    let b = c.reduce-bound.result.0 in
    let d = c.reduce-bound.result.1 in
    let fits_r : FitsSigned w128 raw.bound = search rules in
    let fits_b : FitsSigned w128 b = search rules in
    let fits_d : FitsSigned w128 d = search rules in
    let back_r : to_z w128 (of_z w128 raw.bound) ≡ raw.bound = to_z-of_z w128 raw.bound fits_r in
    let back_b : to_z w128 (of_z w128 b) ≡ b = to_z-of_z w128 b fits_b in
    let back_d : to_z w128 (of_z w128 d) ≡ d = to_z-of_z w128 d fits_d in
    let copy : c.extend_from_slice.new.self.items ≡ raw.coefs = c.in_ok-extend_from_slice.ensures.items ∙ ap (λ xs. xs ++ c.as_slice.result.now) c.clear.ensures.items ∙ c.as_slice.ensures in
    let by = rw back_r at c.reduce-bound.ensures in
    let row : Row = record { coefs = c.reduce-bound.new.coefs.items; bound = b } in
    let reduced : IsReducedBy by.0 raw row = subst (λ xs. IsReducedBy by.0 (record { coefs = xs; bound = raw.bound }) row) copy by.2 in
    let old = c.args.table.now.rows.items in
    let new = c.put.new.self.rows.items in
    let origin : c.given_origin.result ≡ origin_of c.args.number d = rw back_d at c.given_origin.ensures in
    let put : IsPut old (candidate_with row.coefs b (origin_of c.args.number d)) new =
    subst (λ o. IsPut old (candidate_with row.coefs b o) new) origin (subst (λ xs. IsPut old (candidate_with xs b c.given_origin.result) new) c.as_slice-2.ensures.value (rw back_b at c.in_ok-put.ensures.put)) in
    (candidate_with row.coefs b (origin_of c.args.number d), put, (by.0, reduced), λ system log suited numbered. given_founded system log raw row c.args.number by.0 d reduced suited numbered by.1)
