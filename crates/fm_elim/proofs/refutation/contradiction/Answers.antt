use Rattle.std.proofs.Common.{◌≡◌, pos, ◌<ℤ◌, get_or, ap, sym, ◌∙◌, subst, arith}
use Rattle.std.proofs.lemmas.Bool.{iff_false}
use Rattle.std.proofs.lemmas.List.{get_or_default}
use Rattle.elim_level.specs.declared.level.Held.{Held}
use Rattle.elim_rows.specs.Candidates.{IsEmpty}
use Rattle.elim_rows.proofs.Combined.{by_lt}
use Rattle.fm_elim.proofs.refutation.contradiction.Goals as goal

pub loop-held-preserved : goal.loop-held-preserved
loop-held-preserved c k d lt empty =
    let level = c.args.level.now in
    let i = c.loop-held.held-index in
    let x = c.held-item.result in
    by_lt {P = ⊥} k i (λ early. c.loop-held.invariant k d early empty)
    (λ late.
    let here : k ≡ i = omega (arith, lt, late) in
    let same : get_or level k d ≡ x = ap (λ n. get_or level n d) here ∙ get_or_default level i d x c.loop-held-test.true ∙ sym c.held-item.is in
    let none : IsEmpty x.row = subst (λ (h : Held). IsEmpty h.row) same empty in
    iff_false c.is_contradiction.ensures c.if-is_contradiction.false (none, subst (λ (h : Held). IsEmpty h.row → h.row.bound <ℤ pos 0) (sym c.held-item.is) (c.requires i x c.loop-held-test.true) none))
