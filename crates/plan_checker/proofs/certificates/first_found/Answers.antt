use Rattle.std.proofs.Common.{◌≡◌, ℕ, zero, suc, ◌+◌, ◌<◌, List, [], ◌∷◌, drop, length, Some, None, IfOk, sym, ap, ◌∙◌, arith}
use Rattle.std.specs.Prelude.{Ok, Err, slice_index_or}
use Rattle.std.specs.declared.result.Result.{Result}
use Rattle.std.specs.List.{AllZip}
use Rattle.std.proofs.lemmas.List.{drop_all}
use Rattle.std.proofs.lemmas.Slice.Zip.{AllZip-long}
use Rattle.plan_checker.specs.Certificates.{first_of}
use Rattle.plan_checker.proofs.certificates.first_found.Goals as goal

-- what stands at a place of a list, by what was found there
at_place : {A E : Type 0} (xs : List A) (rs : List (Result A E)) (i : ℕ) (d : Result A E) (x : A) → AllZip (λ z r. IfOk r (λ y. y ≡ z)) xs rs → i < length rs → slice_index_or rs i d ≡ Ok x → drop i xs ≡ x ∷ drop (i + 1) xs
at_place [] [] i d x h lt is = absurd (omega (arith, lt))
at_place [] (r ∷ rs) i d x h lt is = absurd h
at_place (z ∷ xs) [] i d x h lt is = absurd h
at_place (z ∷ xs) (Ok y ∷ rs) zero d x h lt is = let same : y ≡ x = cc in ap (λ w. w ∷ xs) (sym h.0 ∙ same)
at_place (z ∷ xs) (Err e ∷ rs) zero d x h lt is = absurd (cc)
at_place (z ∷ xs) (r ∷ rs) (suc i) d x h lt is =
    let next : suc (i + 1) ≡ suc i + 1 = omega arith in
    at_place xs rs i d x h.1 (omega (arith, lt)) is ∙ ap (λ k. x ∷ drop k (z ∷ xs)) next

pub returns-in-Ok-Some : goal.returns-in-Ok-Some
returns-in-Ok-Some c faults h =
    let is = c.in-Ok-Some.is ∙ ap Ok (rw c.in-Ok-Some.is at c.in-Ok-Some.field-0-is) in
    sym (ap (first_of (λ fault. fault)) (at_place faults c.args.found.now c.loop-one.one-index (Ok None) (Some c.in-Ok-Some.refusal) h c.loop-one-test.true is)) ∙ c.loop-one.invariant faults h

pub loop-one-preserved : goal.loop-one-preserved
loop-one-preserved c faults h =
    let is = c.in-Ok-None.is ∙ ap Ok (rw c.in-Ok-None.is at c.in-Ok-None.field-0-is) in
    sym (ap (first_of (λ fault. fault)) (at_place faults c.args.found.now c.loop-one.one-index (Ok None) None h c.loop-one-test.true is)) ∙ c.loop-one.invariant faults h

pub returns : goal.returns
returns c faults h =
    let long = AllZip-long _ faults c.args.found.now h in
    sym (ap (first_of (λ fault. fault)) (drop_all c.loop-one.one-index faults (omega (arith, long, c.loop-one-test.false)))) ∙ c.loop-one.invariant faults h
