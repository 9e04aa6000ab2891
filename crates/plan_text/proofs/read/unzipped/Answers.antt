use Rattle.std.proofs.Common.{◌≡◌, List, [], ◌∷◌, ◌++◌, refl, ap, sym, ◌∙◌}
use Rattle.plan_text.specs.Parts.{firsts, seconds}
use Rattle.plan_text.proofs.read.unzipped.Goals as goal

firsts-push : {X Y : Type 0} (ps : List (X × Y)) (p : X × Y) → firsts (ps ++ p ∷ []) ≡ firsts ps ++ p.0 ∷ []
firsts-push [] p = refl
firsts-push (q ∷ ps) p = ap (λ xs. q.0 ∷ xs) (firsts-push ps p)

seconds-push : {X Y : Type 0} (ps : List (X × Y)) (p : X × Y) → seconds (ps ++ p ∷ []) ≡ seconds ps ++ p.1 ∷ []
seconds-push [] p = refl
seconds-push (q ∷ ps) p = ap (λ ys. q.1 ∷ ys) (seconds-push ps p)

pub loop-first-preserved : goal.loop-first-preserved
loop-first-preserved g c =
    let done = c.loop-first.yielded in
    record {
      firsts = c.in_ok-push.ensures.items ∙ ap (λ xs. xs ++ c.in-Some.first ∷ []) c.loop-first.invariant.firsts ∙ sym (firsts-push done (c.in-Some.first, c.in-Some.second));
      seconds = c.in_ok-push-2.ensures.items ∙ ap (λ ys. ys ++ c.in-Some.second ∷ []) c.loop-first.invariant.seconds ∙ sym (seconds-push done (c.in-Some.first, c.in-Some.second));
    }
