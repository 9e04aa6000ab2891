-- The questions that a plan raises, one behind another.
use Rattle.std.proofs.Common.{◌≡◌, ℕ, zero, suc, ◌+◌, ◌≤◌, ◌<◌, ◌⊎◌, Bool, true, false, cond, inl, inr, List, [], ◌∷◌, ◌++◌, Some, None, append_assoc, length, map, min, set, take, refl, ap, sym, ◌∙◌, arith}
use Rattle.std.specs.Prelude.{Option, slice_get, unwrap_or}
use Rattle.std.specs.List.{AllZip, filter, list_all}
use Rattle.std.proofs.lemmas.Bool.{and_from, and_parts}
use Rattle.std.proofs.lemmas.List.{append-nil}
use Rattle.list_lemmas.proofs.Each.{passes_at}
use Rattle.nest_tree.specs.Prints.{have_print}
use Rattle.nest_tree.specs.Tree.{Statements, Tree, done}
use Rattle.nest_tree.specs.WellFormed.{IsWellFormed, loops_of, scope_of}
use Rattle.nest_tree.proofs.Cells.{well_formed_parts}
use Rattle.plan_checker.proofs.Certified.{fit_shape}
use Rattle.sync_plan.specs.declared.plan.Kind.{Kind}
use Rattle.sync_plan.specs.declared.plan.Plan.{Plan}
use Rattle.comm_system.specs.Signatures.{has_places_in}
use Rattle.maker_candidates.specs.Candidates.{candidates_in}
use Rattle.maker_marks.specs.Tries.{all_tries, body_among, body_of, tries_at}
use Rattle.maker_marks.proofs.LoopsThere.{loop_there}
use Rattle.plan_maker.specs.Bars.{all_attempts, attempts_of, loop_prints}
use Rattle.plan_maker.specs.Candidates.{Choice, candidate, kinds_at, or_barrier, weaker_from}
use Rattle.plan_maker.specs.Made.{IsMade}
use Rattle.plan_maker.specs.Weakest.{IsPhaseReason}
use Rattle.plan_maker.specs.declared.reasons.PhaseReason.{PhaseReason}
use Rattle.plan_maker.specs.declared.reasons.Reasons.{Reasons}
use Rattle.plan_maker.proofs.Attempts.{body_there}
use Rattle.plan_maker.proofs.CutFits.{found_within}
use Rattle.plan_maker.proofs.Fresh.{all_have}
use Rattle.reason_witness.specs.Reasons.{kind_question, weaker_questions, weaker_than}

-- the tries of a loop that is there
pub tries_there : (tree : Tree) (n : ℕ) → IsWellFormed tree → 1 ≤ n → n ≤ loops_of tree.items → tries_at (body_among n tree.items) ≡ all_tries (body_of tree n)
tries_there tree n formed some there =
    let r = loop_there tree n formed some there in
    ap tries_at r.1 ∙ sym (ap all_tries (body_there tree n r.0 r.1))

-- of one loop
pub attempts_one : (tree : Tree) (n : ℕ) → all_attempts tree (n ∷ []) ≡ attempts_of tree n
attempts_one tree n = append-nil (attempts_of tree n)

-- one phase more
pub weaker_more : (t k : ℕ) (candidates : List (List Kind)) (kinds : List Kind) (ks : List Kind) (kind : Kind) → slice_get candidates k ≡ Some ks → slice_get kinds k ≡ Some kind →
    weaker_questions t (take (k + 1) candidates) (take (k + 1) kinds) ≡ weaker_questions t (take k candidates) (take k kinds) ++ map (kind_question (t + k)) (weaker_than kind ks)
weaker_more t k [] kinds ks kind at at' = absurd (let no : None ≡ Some ks = at in cc)
weaker_more t k (x ∷ candidates) [] ks kind at at' = absurd (let no : None ≡ Some kind = at' in cc)
weaker_more t zero (x ∷ candidates) (y ∷ kinds) ks kind at at' =
    let same : x ≡ ks = cc in
    let same' : y ≡ kind = cc in
    let number : t ≡ t + 0 = omega arith in
    append-nil (map (kind_question t) (weaker_than y x)) ∙ ap (λ n. map (kind_question n) (weaker_than y x)) number ∙ ap (λ z. map (kind_question (t + 0)) (weaker_than y z)) same ∙ ap (λ z. map (kind_question (t + 0)) (weaker_than z ks)) same'
weaker_more t (suc k) (x ∷ candidates) (y ∷ kinds) ks kind at at' =
    let more : suc k + 1 ≡ suc (k + 1) = omega arith in
    let number : suc t + k ≡ t + suc k = omega arith in
    let here = map (kind_question t) (weaker_than y x) in
    ap (λ n. weaker_questions t (take n (x ∷ candidates)) (take n (y ∷ kinds))) more
    ∙ ap (λ qs. here ++ qs) (weaker_more (suc t) k candidates kinds ks kind at at' ∙ ap (λ n. weaker_questions (suc t) (take k candidates) (take k kinds) ++ map (kind_question n) (weaker_than kind ks)) number)
    ∙ sym (append_assoc here (weaker_questions (suc t) (take k candidates) (take k kinds)) (map (kind_question (t + suc k)) (weaker_than kind ks)))

-- all phases
pub weaker_all : (t m : ℕ) (candidates : List (List Kind)) (kinds : List Kind) → m ≡ min (length candidates) (length kinds) → weaker_questions t (take m candidates) (take m kinds) ≡ weaker_questions t candidates kinds
weaker_all t zero [] kinds is = refl
weaker_all t (suc m) [] kinds is = refl
weaker_all t zero (x ∷ candidates) [] is = refl
weaker_all t (suc m) (x ∷ candidates) [] is = refl
weaker_all t zero (x ∷ candidates) (y ∷ kinds) is = absurd (omega (arith, is))
weaker_all t (suc m) (x ∷ candidates) (y ∷ kinds) is = ap (λ qs. map (kind_question t) (weaker_than y x) ++ qs) (weaker_all (suc t) m candidates kinds (omega (arith, is)))

-- ---- no loop

no-print : (tree : Tree) (n : ℕ) (o : Option Statements) → body_among n tree.items ≡ o → IsWellFormed tree → (n ≡ 0) ⊎ (loops_of tree.items < n) → have_print (unwrap_or o done) ≡ false
no-print tree n None at formed out = refl
no-print tree n (Some body) at formed out =
    let within = found_within (scope_of tree) [] 1 n tree.items body (well_formed_parts tree formed).statements at in
    elim out [ inl none ↦ absurd (omega (arith, within.0, none)) | inr past ↦ absurd (omega (arith, within.1, past)) ]

-- no PRINT stands where there is no loop
pub no_loop : (tree : Tree) (n : ℕ) → IsWellFormed tree → (n ≡ 0) ⊎ (loops_of tree.items < n) → loop_prints tree n ≡ false
no_loop tree n formed out = no-print tree n (body_among n tree.items) refl formed out

-- ---- producers have places

kept_or_not : {X : Type 0} (p : X → Bool) (x : X) (xs : List X) (b : Bool) → p x ≡ true → list_all p xs ≡ true → list_all p (cond b (x ∷ xs) xs) ≡ true
kept_or_not p x xs true one all = and_from (p x) (list_all p xs) one all
kept_or_not p x xs false one all = all

pub all_filtered : {X : Type 0} (p q : X → Bool) (xs : List X) → list_all p xs ≡ true → list_all p (filter q xs) ≡ true
all_filtered p q [] all = refl
all_filtered p q (x ∷ xs) all = let parts = and_parts (p x) (list_all p xs) all in kept_or_not p x (filter q xs) (q x) parts.0 (all_filtered p q xs parts.1)

pub all_set : {X : Type 0} (p : X → Bool) (xs : List X) (i : ℕ) (x : X) → list_all p xs ≡ true → p x ≡ true → list_all p (set xs i x) ≡ true
all_set p [] i x all one = refl
all_set p (y ∷ xs) zero x all one = and_from (p x) (list_all p xs) one (and_parts (p y) (list_all p xs) all).1
all_set p (y ∷ xs) (suc i) x all one = let parts = and_parts (p y) (list_all p xs) all in and_from (p y) (list_all p (set xs i x)) parts.0 (all_set p xs i x parts.1 one)

kind_has : (o : Option Kind) (ks : List Kind) (i : ℕ) → slice_get ks i ≡ o → list_all has_places_in ks ≡ true → has_places_in (or_barrier o) ≡ true
kind_has None ks i at all = refl
kind_has (Some k) ks i at all = passes_at has_places_in ks i k all at

kinds_have : (o : Option (List Kind)) (candidates : List (List Kind)) (u i : ℕ) → slice_get candidates u ≡ o → list_all (λ ks. list_all has_places_in ks) candidates ≡ true → has_places_in (kinds_at o i) ≡ true
kinds_have None candidates u i at all = refl
kinds_have (Some ks) candidates u i at all = kind_has (slice_get ks i) ks i refl (passes_at (λ ks. list_all has_places_in ks) candidates u ks all at)

candidate_has : (candidates : List (List Kind)) (c : Choice) → list_all (λ ks. list_all has_places_in ks) candidates ≡ true → has_places_in (candidate candidates c) ≡ true
candidate_has candidates c all = kinds_have (slice_get candidates c.phase) candidates c.phase c.place refl all

reasons_have : (tree : Tree) (plan : Plan) (taken : List ℕ) (cs : List Choice) (rs : List PhaseReason) → list_all (λ ks. list_all has_places_in ks) (candidates_in tree plan) ≡ true → AllZip (IsPhaseReason tree plan taken) cs rs → list_all (λ (r : PhaseReason). has_places_in r.kind) rs ≡ true
reasons_have tree plan taken [] [] all h = refl
reasons_have tree plan taken [] (r ∷ rs) all h = absurd h
reasons_have tree plan taken (c ∷ cs) [] all h = absurd h
reasons_have tree plan taken (c ∷ cs) (r ∷ rs) all h =
    and_from (has_places_in r.kind) (list_all (λ (x : PhaseReason). has_places_in x.kind) rs) (ap has_places_in h.0.kind ∙ candidate_has (candidates_in tree plan) c all) (reasons_have tree plan taken cs rs all h.1)

-- those that the maker's reasons name
pub made_have : (tree : Tree) (workers : ℕ) (plan : Plan) (reasons : Reasons) → IsMade tree workers plan reasons → list_all (λ (r : PhaseReason). has_places_in r.kind) reasons.phases.items ≡ true
made_have tree workers plan reasons made = reasons_have tree plan made.taken (weaker_from 0 made.taken) reasons.phases.items (all_have tree plan (fit_shape tree plan made.accepted.fits)) made.phases
