-- What a search among some obligations says of more, and of all.
use Rattle.std.proofs.Common.{◌≡◌, ℕ, zero, suc, ◌+◌, ◌-◌, ◌<◌, ◌≤◌, ◌⊎◌, nat_le, Bool, true, false, IsTrue, List, [], ◌∷◌, ◌++◌, Option, Some, None, Result, Ok, Err, take, length, get_or, refl, ap, sym, ◌∙◌, subst, inl, inr, arith}
use Rattle.std.specs.Option.{is_some}
use Rattle.std.specs.Result.{IfOk}
use Rattle.std.specs.List.{Contains, flat_map}
use Rattle.std.proofs.lemmas.Bool.{cases_Bool, leb-false, leb-true}
use Rattle.std.proofs.lemmas.List.Elements.{Contains-append_cases, Contains-push_cases}
use Rattle.list_lemmas.proofs.Elements.{Contains-take}
use Rattle.nest_tree.specs.Tree.{Tree}
use Rattle.sync_plan.specs.declared.plan.Plan.{Plan}
use Rattle.comm_system.specs.Obligations.{Task, numbered, numbered_from, obligations_of, tasks_of}
use Rattle.comm_system.specs.Subjects.{Listed, groups_of, obligations_in}
use Rattle.comm_system.specs.declared.obligation.Obligation.{Obligation}
use Rattle.comm_system.proofs.GroupLists.{groups_first, of_plan}
use Rattle.comm_system.proofs.Lists.{contains_cases, contains_here, contains_later, contains_nothing}
use Rattle.plan_maker.specs.Judged.{task_of}
use Rattle.reason_witness.specs.Findings.{AreCertified, AreCertifiedUnder, IsCertified, IsFoundIn, IsPassed, IsSearched, IsSearchedUnder, IsSought, IsWanted}
use Rattle.reason_witness.specs.declared.found.Found.{Found}
use Rattle.reason_witness.specs.declared.found.Wanted.{Wanted}
use Rattle.reason_witness.specs.declared.found.Wanted.TheVariants.{First, Named, Number}

-- ---- what is found

pub more_found : (all more : List Obligation) (wanted : Wanted) (f : Found) → ((o : Obligation) → Contains all o → Contains more o) → IsFoundIn all wanted f → IsFoundIn more wanted f
more_found all more wanted f each h = record { among = each f.obligation h.among; wanted_is = h.wanted_is; taken = h.taken; found = h.found }

-- a search that found something says it of more obligations, whatever it left out
pub found_more : (is_whole other : Bool) (all more : List Obligation) (wanted : Wanted) (found : Option Found) → is_some found ≡ true → ((o : Obligation) → Contains all o → Contains more o) → IsSearched is_whole all wanted found → IsSearched other more wanted found
found_more is_whole other all more wanted None some each h = absurd (let no : false ≡ true = some in cc)
found_more is_whole other all more wanted (Some f) some each h = more_found all more wanted f each h

-- a search among some of the obligations, in which all that are looked for stand
pub searched_more : (is_whole : Bool) (all more : List Obligation) (wanted : Wanted) (found : Option Found) → ((o : Obligation) → Contains all o → Contains more o) → ((o : Obligation) → Contains more o → IsWanted wanted o → Contains all o) →
    IsSearched is_whole all wanted found → IsSearched is_whole more wanted found
searched_more is_whole all more wanted None each back h = λ yes o there wanted_is. h yes o (back o there wanted_is) wanted_is
searched_more is_whole all more wanted (Some f) each back h = more_found all more wanted f each h

pub searched_more_ok : {E : Type 0} (is_whole : Bool) (all more : List Obligation) (wanted : Wanted) (r : Result (Option Found) E) → ((o : Obligation) → Contains all o → Contains more o) → ((o : Obligation) → Contains more o → IsWanted wanted o → Contains all o) →
    IfOk r (IsSearched is_whole all wanted) → IfOk r (IsSearched is_whole more wanted)
searched_more_ok is_whole all more wanted (Ok found) each back h = searched_more is_whole all more wanted found each back h
searched_more_ok is_whole all more wanted (Err e) each back h = h

-- of one more
pub certified_push : (wanted : Wanted) (os : List Obligation) (o : Obligation) → AreCertified os wanted → AreCertified (o ∷ []) wanted → AreCertified (os ++ o ∷ []) wanted
certified_push wanted os o all one p there wanted_is = elim (Contains-push_cases os o p there) [
  | inl before ↦ all p before wanted_is
  | inr same ↦ one p (subst (Contains (o ∷ [])) same (contains_here o [])) wanted_is
]

pub certified_append : (wanted : Wanted) (os ps : List Obligation) → AreCertified os wanted → AreCertified ps wanted → AreCertified (os ++ ps) wanted
certified_append wanted os ps first second p there wanted_is = elim (Contains-append_cases os ps p there) [ inl l ↦ first p l wanted_is | inr r ↦ second p r wanted_is ]

-- a search that was whole and found nothing
pub searched_none : (is_whole : Bool) (all : List Obligation) (wanted : Wanted) (found : Option Found) → is_some found ≡ false → IsSearched is_whole all wanted found → IsTrue is_whole → AreCertified all wanted
searched_none is_whole all wanted None none h = h
searched_none is_whole all wanted (Some f) none h = absurd (let no : true ≡ false = none in cc)

-- ---- numbers

-- an obligation stands at the place that its number says
pub number_at : (n : ℕ) (ts : List Task) (o : Obligation) → Contains (numbered_from n ts) o → (k : ℕ) × (k < length (numbered_from n ts)) × (get_or (numbered_from n ts) k o ≡ o) × (o.number ≡ n + k)
number_at n [] o c = absurd (contains_nothing o c)
number_at n (t ∷ ts) o c = elim (contains_cases (numbered n t) o (numbered_from (suc n) ts) c) [
  | inl same ↦ (0, omega arith, same, let number : n ≡ o.number = ap (λ (p : Obligation). p.number) same in omega (arith, number))
  | inr later ↦ let r = number_at (suc n) ts o later in (suc r.0, omega (arith, r.1), r.2, omega (arith, r.3))
]

get_taken : {X : Type 0} (m k : ℕ) (xs : List X) (d : X) → k < m → get_or (take m xs) k d ≡ get_or xs k d
get_taken zero k xs d lt = absurd (omega (arith, lt))
get_taken (suc m) k [] d lt = refl
get_taken (suc m) zero (x ∷ xs) d lt = refl
get_taken (suc m) (suc k) (x ∷ xs) d lt = get_taken m k xs d (omega (arith, lt))

long_taken : {X : Type 0} (m k : ℕ) (xs : List X) → k < m → k < length xs → k < length (take m xs)
long_taken zero k xs lt low = absurd (omega (arith, lt))
long_taken (suc m) k [] lt low = absurd (omega (arith, low))
long_taken (suc m) zero (x ∷ xs) lt low = omega arith
long_taken (suc m) (suc k) (x ∷ xs) lt low = let r = long_taken m k xs (omega (arith, lt)) (omega (arith, low)) in omega (arith, r)

-- of the first so many obligations is one whose number is no greater
pub in_first : (m : ℕ) (ts : List Task) (o : Obligation) → Contains (numbered_from 1 ts) o → o.number ≤ m → Contains (take m (numbered_from 1 ts)) o
in_first m ts o c low =
    let r = number_at 1 ts o c in
    let lt : r.0 < m = omega (arith, r.3, low) in
    (r.0, long_taken m r.0 (numbered_from 1 ts) lt r.1, get_taken m r.0 (numbered_from 1 ts) o lt ∙ r.2)

pub unnumbered : (n : ℕ) (ts : List Task) (o : Obligation) → Contains (numbered_from n ts) o → Contains ts (task_of o)
unnumbered n [] o c = absurd (contains_nothing o c)
unnumbered n (t ∷ ts) o c = elim (contains_cases (numbered n t) o (numbered_from (suc n) ts) c) [
  | inl same ↦ subst (Contains (t ∷ ts)) (ap task_of same) (contains_here t ts)
  | inr later ↦ contains_later t (task_of o) ts (unnumbered (suc n) ts o later)
]

-- a task is that of an obligation
pub numbered_in : (n : ℕ) (ts : List Task) (k : Task) → Contains ts k → (m : ℕ) × Contains (numbered_from n ts) (numbered m k)
numbered_in n [] k c = absurd (contains_nothing k c)
numbered_in n (t ∷ ts) k c = elim (contains_cases t k ts c) [
  | inl same ↦ (n, subst (λ x. Contains (numbered_from n (t ∷ ts)) (numbered n x)) same (contains_here (numbered n t) (numbered_from (suc n) ts)))
  | inr later ↦ let r = numbered_in (suc n) ts k later in (r.0, contains_later (numbered n t) (numbered r.0 k) (numbered_from (suc n) ts) r.1)
]

-- ---- without numbers

wanted_by_any : (wanted : Wanted) (o : Obligation) (m : ℕ) → IsSought wanted o → IsWanted wanted (numbered m (task_of o))
wanted_by_any First o m h = tt
wanted_by_any (Named cause) o m h = record { lines = h.lines; variable = h.variable; level = h.level; piece = h.piece }
wanted_by_any (Number n) o m h = absurd h

passed_by_any : (wanted : Wanted) (o : Obligation) (m : ℕ) → IsSought wanted o → IsPassed wanted (numbered m (task_of o)) → IsCertified o.system
passed_by_any First o m h p = p
passed_by_any (Named cause) o m h p = p
passed_by_any (Number n) o m h p = absurd h

certified_under : (ts : List Task) (wanted : Wanted) → AreCertified (numbered_from 1 ts) wanted → AreCertifiedUnder ts wanted
certified_under ts wanted all o there sought =
    let r = numbered_in 1 ts (task_of o) there in
    passed_by_any wanted o r.0 sought (all (numbered r.0 (task_of o)) r.1 (wanted_by_any wanted o r.0 sought))

pub searched_under : (is_whole : Bool) (ts : List Task) (wanted : Wanted) (found : Option Found) → IsSearched is_whole (numbered_from 1 ts) wanted found → IsSearchedUnder is_whole ts wanted found
searched_under is_whole ts wanted None h = λ yes. certified_under ts wanted (h yes)
searched_under is_whole ts wanted (Some f) h = record { among = unnumbered 1 ts f.obligation h.among; wanted_is = h.wanted_is; taken = h.taken; found = h.found }

pub searched_under_ok : {E : Type 0} (is_whole : Bool) (ts : List Task) (wanted : Wanted) (r : Result (Option Found) E) → IfOk r (IsSearched is_whole (numbered_from 1 ts) wanted) → IfOk r (IsSearchedUnder is_whole ts wanted)
searched_under_ok is_whole ts wanted (Ok found) h = searched_under is_whole ts wanted found h
searched_under_ok is_whole ts wanted (Err e) h = h

-- a search that found something says it of more, whatever it left out
pub under_more : (is_whole other : Bool) (ts more : List Task) (wanted : Wanted) (found : Option Found) → is_some found ≡ true → ((k : Task) → Contains ts k → Contains more k) → IsSearchedUnder is_whole ts wanted found → IsSearchedUnder other more wanted found
under_more is_whole other ts more wanted None some each h = absurd (let no : false ≡ true = some in cc)
under_more is_whole other ts more wanted (Some f) some each h = record { among = each (task_of f.obligation) h.among; wanted_is = h.wanted_is; taken = h.taken; found = h.found }

pub under_none : (is_whole : Bool) (ts : List Task) (wanted : Wanted) (found : Option Found) → is_some found ≡ false → IsSearchedUnder is_whole ts wanted found → IsTrue is_whole → AreCertifiedUnder ts wanted
under_none is_whole ts wanted None none h = h
under_none is_whole ts wanted (Some f) none h = absurd (let no : true ≡ false = none in cc)

-- ---- the groups of a plan

-- what stands in the groups is among the plan's obligations
pub listed_in : (tree : Tree) (plan : Plan) (most : ℕ) (l : Listed) → l ≡ groups_of tree plan most → (o : Obligation) → Contains (flat_map (obligations_in tree plan) l.groups) o → Contains (obligations_of tree plan) o
listed_in tree plan most l is o c =
    let first = ap (λ (m : Listed). flat_map (obligations_in tree plan) m.groups) is ∙ groups_first tree plan most in
    Contains-take ((groups_of tree plan most).next - 1) (obligations_of tree plan) o (subst (λ os. Contains os o) first c)

-- and an obligation stands there whose number is no greater than the one up to which they go, or each does where all are listed
pub reached : (tree : Tree) (plan : Plan) (most : ℕ) (l : Listed) → l ≡ groups_of tree plan most → (o : Obligation) → Contains (obligations_of tree plan) o → (o.number ≤ most) ⊎ (l.next ≤ most) → Contains (flat_map (obligations_in tree plan) l.groups) o
reached tree plan most l is o there (inr within) = subst (λ os. Contains os o) (sym (of_plan tree plan most l is within)) there
reached tree plan most l is o there (inl low) = elim (cases_Bool (nat_le l.next most)) [
  | inl all ↦ subst (λ os. Contains os o) (sym (of_plan tree plan most l is (leb-true l.next most all))) there
  | inr past ↦
      let beyond = leb-false l.next most past in
      let next = ap (λ (m : Listed). m.next) is in
      let first = ap (λ (m : Listed). flat_map (obligations_in tree plan) m.groups) is ∙ groups_first tree plan most in
      let few : o.number ≤ (groups_of tree plan most).next - 1 = omega (arith, beyond, next, low) in
      subst (λ os. Contains os o) (sym first) (in_first ((groups_of tree plan most).next - 1) (tasks_of tree plan) o there few)
]
