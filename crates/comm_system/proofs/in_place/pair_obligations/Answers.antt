use Rattle.std.proofs.Common.{◌≡◌, ◌++◌, ◌∷◌, [], Some, slice_get, arith, length, ap, refl, sym, ◌∙◌}
use Rattle.std.proofs.lemmas.List.{take_all}
use Rattle.comm_system.specs.SystemViews.{last_made, obligations_seen}
use Rattle.comm_system.proofs.InPlace.{take_got}
use Rattle.comm_system.proofs.in_place.pair_obligations.Goals as goal

pub loop-index-init : goal.loop-index-init
loop-index-init c = record { same = refl; found = c.in_ok-found.ensures.items }

pub make-requires : goal.make-requires
make-requires c =
    let same = ap length c.loop-index.invariant.same in
    omega (arith, same, c.loop-index-test.true, c.count-index-end.ensures)

pub loop-index-preserved : goal.loop-index-preserved
loop-index-preserved c =
    let os = obligations_seen c.in_ok-systems.systems in
    let k = c.loop-index.index in
    let made = last_made c.make.new.self in
    let same = c.in_ok-make.ensures.same ∙ c.loop-index.invariant.same in
    let at : slice_get os k ≡ Some made = ap (λ xs. slice_get xs k) (sym same) ∙ c.in_ok-make.ensures.made in
    record {
      same = same;
      found = c.in_ok-push.ensures.items ∙ ap (λ o. c.loop-index.found.items ++ o ∷ []) c.in_ok-obligation.ensures.made ∙ ap (λ xs. xs ++ made ∷ []) c.loop-index.invariant.found ∙ sym (take_got os k made at);
    }

pub returns : goal.returns
returns c =
    let os = obligations_seen c.in_ok-systems.systems in
    let k = c.loop-index.index in
    c.loop-index.invariant.found ∙ take_all k os (omega (arith, c.loop-index-test.false, c.count-index-end.ensures)) ∙ c.in_ok-systems.ensures.obligations
