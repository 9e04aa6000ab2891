use Rattle.std.proofs.Common.{◌≡◌, [], ◌∷◌, ◌++◌, subst, ap, sym, ◌∙◌}
use Rattle.std.proofs.lemmas.List.{map-append}
use Rattle.elim_rows.specs.declared.candidate.Candidate.{Candidate}
use Rattle.elim_rows.specs.Chains.{link_of}
use Rattle.elim_rows.specs.Table.{IsTable}
use Rattle.elim_rows.specs.Candidates.{rows_among}
use Rattle.elim_rows.proofs.Hashing.{IsTable-push}
use Rattle.elim_rows.proofs.table.Table.push.Goals as goal

pub returns-clause-table : goal.returns-clause-table
returns-clause-table c =
    let old = c.args.self.now.rows.items in
    let more = c.push.new.self.links.items in
    let pushed = c.in_ok-push.ensures.pushed in
    let rows : rows_among c.push-2.new.self.items ≡ rows_among old ++ c.args.candidate.row ∷ [] = ap rows_among c.in_ok-push-2.ensures.items ∙ map-append (λ (c : Candidate). c.row) old (c.args.candidate ∷ []) in
    subst (λ rs. IsTable rs more c.push.new.self.latest.items) (sym rows)
    (IsTable-push (rows_among old) c.args.candidate.row c.args.self.now.chains.links.items more (link_of c.args.hash pushed.0) c.args.self.now.chains.latest.items c.push.new.self.latest.items c.requires.table c.in_ok-push.ensures.chained pushed.1 c.requires.hash c.requires.apart)
