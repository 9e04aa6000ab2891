-- The first obligation whose certificate is missing or bad, among groups of obligations.
use Rattle.std.proofs.Common.{◌≡◌, ℕ, zero, suc, ◌+◌, ◌-◌, ◌<◌, ◌≤◌, List, [], ◌∷◌, ◌++◌, length, map, take, drop, Option, Some, None, if◌then◌else◌, refl, ap, sym, ◌∙◌, inl, inr, arith, add-one}
use Rattle.std.specs.Prelude.{slice_get}
use Rattle.std.specs.List.{flat_map}
use Rattle.std.specs.Option.{option_map, option_or}
use Rattle.std.proofs.lemmas.Bool.{cases_lt}
use Rattle.std.proofs.lemmas.Option.{slice_get_within}
use Rattle.farkas_cert.specs.declared.certificate.Certificate.{Certificate}
use Rattle.farkas_cert.specs.Fault.{first_fault}
use Rattle.nest_tree.specs.Tree.{Tree}
use Rattle.sync_plan.specs.declared.plan.Plan.{Plan}
use Rattle.sync_plan.specs.Shape.{wrong_field}
use Rattle.comm_system.specs.Obligations.{Task, numbered_from, obligations_of, tasks_of}
use Rattle.comm_system.specs.Subjects.{Group, Listed, groups_of, obligations_in}
use Rattle.comm_system.specs.declared.obligation.Obligation.{Obligation}
use Rattle.comm_system.proofs.GroupLists.{groups_all, groups_first, groups_some, numbered_length}
use Rattle.plan_checker.specs.declared.refusal.PlanRefusal.{PlanRefusal}
use Rattle.plan_checker.specs.declared.refusal.PlanRefusal.TheVariants.{Bad, Shape}
use Rattle.plan_checker.specs.Certificates.{fault_in, fault_of, fault_with, first_of}
use Rattle.plan_checker.specs.Failures.{failure_with, first_uncertified, surplus}
use Rattle.plan_checker.proofs.Certified.{false_where_few, true_where_more}
use Rattle.plan_shape.proofs.Texts.{from_place, past_end}

-- ---- groups one behind another

or_behind : {A : Type 0} (a b c : Option A) → option_or a (option_or b c) ≡ option_or (option_or a b) c
or_behind None b c = refl
or_behind (Some x) b c = refl

pub first_behind : {A : Type 0} (f : A → Option PlanRefusal) (xs ys : List A) → first_of f (xs ++ ys) ≡ option_or (first_of f xs) (first_of f ys)
first_behind f [] ys = refl
first_behind f (x ∷ xs) ys = ap (option_or (f x)) (first_behind f xs ys) ∙ or_behind (f x) (first_of f xs) (first_of f ys)

-- a list of faults is that of what has them
pub first_of_map : {A B : Type 0} (f : B → Option PlanRefusal) (v : A → B) (xs : List A) → first_of f (map v xs) ≡ first_of (λ x. f (v x)) xs
first_of_map f v [] = refl
first_of_map f v (x ∷ xs) = ap (option_or (f (v x))) (first_of_map f v xs)

pub first_in_groups : (tree : Tree) (plan : Plan) (gs : List Group) → first_of (fault_in tree plan) gs ≡ first_of (fault_of plan.certificates) (flat_map (obligations_in tree plan) gs)
first_in_groups tree plan [] = refl
first_in_groups tree plan (g ∷ gs) =
    ap (option_or (fault_in tree plan g)) (first_in_groups tree plan gs) ∙ sym (first_behind (fault_of plan.certificates) (obligations_in tree plan g) (flat_map (obligations_in tree plan) gs))

-- ---- so many obligations, past the last certificate

abbrev numbered : ℕ → Task → Obligation
numbered n k = record { number = n; system = k.system; lines = k.lines; variable = k.variable; level = k.level; piece = k.piece; range = k.range }

-- an obligation with the certificate of its number, and those behind it
here : (k : ℕ) (o : Obligation) (all : List Certificate) (rest : List Obligation) (found : Option Certificate) (later : Option PlanRefusal) → slice_get all k ≡ found →
    ((c : Certificate) → found ≡ Some c → later ≡ first_uncertified rest (drop (suc k) all)) → option_or (fault_with o found) later ≡ first_uncertified (o ∷ rest) (drop k all)
here k o all rest None later is same = sym (ap (first_uncertified (o ∷ rest)) (past_end all k is))
here k o all rest (Some c) later is same =
    ap (option_or (option_map (Bad o.number) (first_fault o.system c))) (same c refl)
    ∙ sym (ap (first_uncertified (o ∷ rest)) (from_place all k c is ∙ ap (λ n. c ∷ drop n all) (add-one k)))

pub first_among : (all : List Certificate) (k n : ℕ) (ts : List Task) → (n < length ts → (k ≤ length all) × (length all < k + n)) →
    first_of (fault_of all) (take n (numbered_from (suc k) ts)) ≡ first_uncertified (numbered_from (suc k) ts) (drop k all)
first_among all k zero [] far = refl
first_among all k (suc n) [] far = refl
first_among all k zero (t ∷ ts) far = let h = far (omega arith) in absurd (omega (arith, h.0, h.1))
first_among all k (suc n) (t ∷ ts) far =
    let o = numbered (suc k) t in
    let rest = numbered_from (suc (suc k)) ts in
    let later = first_of (fault_of all) (take n rest) in
    let place : suc k - 1 ≡ k = omega arith in
    ap (λ i. option_or (fault_with o (slice_get all i)) later) place
    ∙ here k o all rest (slice_get all k) later refl
    (λ c is. first_among all (suc k) n ts (λ more.
    let h = far (omega (arith, more)) in
    let within = slice_get_within all k c is in
    (omega (arith, within), omega (arith, h.1))))

-- ---- the groups of a plan up to one obligation more than it has certificates

pub first_of_plan : (tree : Tree) (plan : Plan) → length plan.certificates < (groups_of tree plan (length plan.certificates + 1)).next →
    first_of (fault_in tree plan) (groups_of tree plan (length plan.certificates + 1)).groups ≡ first_uncertified (obligations_of tree plan) plan.certificates
first_of_plan tree plan past =
    let most = length plan.certificates + 1 in
    let next = (groups_of tree plan most).next in
    let all = groups_all tree plan most in
    let long = numbered_length 1 (tasks_of tree plan) in
    first_in_groups tree plan (groups_of tree plan most).groups
    ∙ ap (first_of (fault_of plan.certificates)) (groups_first tree plan most)
    ∙ first_among plan.certificates 0 (next - 1) (tasks_of tree plan) (λ more. (omega arith, far next most (length plan.certificates) (length (obligations_of tree plan)) (length (tasks_of tree plan)) refl long past all more))
  where
    far : (next most certificates obligations tasks : ℕ) → most ≡ certificates + 1 → obligations ≡ tasks → certificates < next → (next ≤ most → obligations + 1 ≡ next) → next - 1 < tasks → certificates < 0 + (next - 1)
    far next most certificates obligations tasks is long past all more = elim (cases_lt most next) [
      | inl beyond ↦ omega (arith, beyond, is)
      | inr within ↦ let h = all within in absurd (omega (arith, h, more, long))
    ]

pub listed_by : (tree : Tree) (plan : Plan) (cs : List Certificate) (l : Listed) → cs ≡ plan.certificates → l ≡ groups_of tree plan (length cs + 1) → l ≡ groups_of tree plan (length plan.certificates + 1)
listed_by tree plan cs l is listed = listed ∙ ap (λ (ds : List Certificate). groups_of tree plan (length ds + 1)) is

pub surplus_where : (tree : Tree) (plan : Plan) → (groups_of tree plan (length plan.certificates + 1)).next ≤ length plan.certificates → surplus (obligations_of tree plan) plan.certificates ≡ Some (Shape 7)
surplus_where tree plan few =
    let all = groups_all tree plan (length plan.certificates + 1) (omega (arith, few)) in
    ap (λ b. if b then Some (Shape 7) else None) (true_where_more (length (obligations_of tree plan)) (length plan.certificates) (omega (arith, all, few)))

pub no_surplus_where : (tree : Tree) (plan : Plan) → length plan.certificates < (groups_of tree plan (length plan.certificates + 1)).next → surplus (obligations_of tree plan) plan.certificates ≡ None
no_surplus_where tree plan past =
    let some = groups_some tree plan (length plan.certificates + 1) in
    ap (λ b. if b then Some (Shape 7) else None) (false_where_few (length (obligations_of tree plan)) (length plan.certificates) (omega (arith, some, past)))

-- ---- the first failure, part by part

pub failure_by : (tree : Tree) (plan : Plan) (misfit field many bad : Option PlanRefusal) → option_map Shape (wrong_field tree plan) ≡ field → surplus (obligations_of tree plan) plan.certificates ≡ many →
    first_uncertified (obligations_of tree plan) plan.certificates ≡ bad → failure_with misfit tree plan ≡ option_or field (option_or many (option_or misfit bad))
failure_by tree plan misfit field many bad a b c = rw a (rw b (rw c refl))
