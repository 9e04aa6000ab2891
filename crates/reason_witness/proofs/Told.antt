-- Reasons, and the questions that they answer.
use Rattle.std.proofs.Common.{◌≡◌, ℕ, ◌+◌, ◌<◌, true, false, List, [], ◌∷◌, ◌++◌, Option, Some, None, append_assoc, get_or, length, map, take, refl, ap, sym, ◌∙◌, subst}
use Rattle.std.specs.Prelude.{MatchBool}
use Rattle.std.specs.List.{AllZip}
use Rattle.std.proofs.lemmas.List.{map_more}
use Rattle.nest_tree.specs.Tree.{Tree}
use Rattle.nest_walk.proofs.Grown.{AllZip-append}
use Rattle.sync_plan.specs.declared.plan.Plan.{Plan}
use Rattle.comm_system.specs.Obligations.{obligations_of, tasks_of}
use Rattle.maker_marks.specs.declared.tries.Tried.{Tried}
use Rattle.plan_checker.specs.Refusals.{first_refusal}
use Rattle.plan_maker.specs.Bars.{loop_prints}
use Rattle.reason_witness.specs.Findings.{IsSearched, IsSearchedUnder}
use Rattle.reason_witness.specs.Plans.{alone_plan}
use Rattle.reason_witness.specs.Reasons.{IsWhySerial, IsWhySilent, IsWhyUnder, why_of}
use Rattle.reason_witness.specs.declared.account.Why.{Why}
use Rattle.reason_witness.specs.declared.account.Why.TheVariants.{Print}
use Rattle.reason_witness.specs.declared.found.Found.{Found}
use Rattle.reason_witness.specs.declared.found.Wanted.{Wanted}

pub why_silent : (tree : Tree) (alone : Plan) (wanted : Wanted) (found : Option Found) → first_refusal tree alone ≡ None → IsSearched true (obligations_of tree alone) wanted found → IsWhySilent tree alone wanted (why_of found)
why_silent tree alone wanted None fits h = (fits, h refl)
why_silent tree alone wanted (Some f) fits h = (fits, h)

pub why_under : (tree : Tree) (weaker : Plan) (wanted : Wanted) (found : Option Found) → IsSearchedUnder true (tasks_of tree weaker) wanted found → IsWhyUnder tree weaker wanted (why_of found)
why_under tree weaker wanted None h = h refl
why_under tree weaker wanted (Some f) h = h

pub serial_prints : (tree : Tree) (n : ℕ) (t : Tried) (wanted : Wanted) → loop_prints tree n ≡ true → IsWhySerial tree n t wanted Print
serial_prints tree n t wanted prints = subst (λ b. MatchBool b (Print ≡ Print) (IsWhySilent tree (alone_plan tree n t) wanted Print)) (sym prints) refl

pub serial_silent : (tree : Tree) (n : ℕ) (t : Tried) (wanted : Wanted) (why : Why) → loop_prints tree n ≡ false → IsWhySilent tree (alone_plan tree n t) wanted why → IsWhySerial tree n t wanted why
serial_silent tree n t wanted why silent h = subst (λ b. MatchBool b (why ≡ Print) (IsWhySilent tree (alone_plan tree n t) wanted why)) (sym silent) h

-- one more answer
pub pushed : {Q A R : Type 0} (rel : Q → R → Type 0) (f : A → Q) (qs : List Q) (xs : List A) (k : ℕ) (x : A) (rs : List R) (r : R) → k < length xs → get_or xs k x ≡ x → AllZip rel (qs ++ map f (take k xs)) rs → rel (f x) r →
    AllZip rel (qs ++ map f (take (k + 1) xs)) (rs ++ r ∷ [])
pushed rel f qs xs k x rs r lt is h one =
    let split = map_more f xs k x lt ∙ ap (λ y. map f (take k xs) ++ f y ∷ []) is in
    subst (λ ps. AllZip rel (qs ++ ps) (rs ++ r ∷ [])) (sym split)
    (subst (λ ps. AllZip rel ps (rs ++ r ∷ [])) (append_assoc qs (map f (take k xs)) (f x ∷ []))
    (AllZip-append rel (qs ++ map f (take k xs)) (f x ∷ []) rs (r ∷ []) h (one, tt)))
