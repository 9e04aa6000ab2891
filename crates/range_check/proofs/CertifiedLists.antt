-- Certified pieces of work, one after another, and their instances.
use Rattle.std.proofs.Common.{◌≡◌, ℕ, zero, suc, ◌+◌, ◌-◌, ◌<◌, ◌≤◌, true, false, Bool, IsTrue, Option, Some, None, List, [], ◌∷◌, ◌++◌, length, get_or, map, take, refl, ap, sym, ◌∙◌, subst, arith}
use Rattle.std.specs.Prelude.{IfSome, is_none, is_some}
use Rattle.std.proofs.lemmas.Bool.{and_parts}
use Rattle.farkas_cert.specs.declared.certificate.Certificate.{Certificate}
use Rattle.nest_tree.specs.declared.tree.Access.{Access}
use Rattle.nest_tree.specs.Layout.{bounds_at}
use Rattle.nest_tree.proofs.Cells.{well_formed_parts}
use Rattle.nest_tree.proofs.Places.{good_declaration}
use Rattle.nest_walk.specs.Places.{IsThere}
use Rattle.std.specs.List.{All, AllByRecursion, AllZip, list_all, slice_get}
use Rattle.std.specs.Option.{option_or}
use Rattle.std.proofs.lemmas.List.{map-append, take_more}
use Rattle.nest_tree.specs.Limits.{line_of_work}
use Rattle.nest_tree.specs.Tree.{Declaration, Tree, param_values}
use Rattle.nest_tree.specs.WellFormed.{IsWellFormed, is_good_declaration}
use Rattle.nest_model.specs.Instances.{Instance, is_executed}
use Rattle.nest_model.specs.Ranges.{accesses_of, is_access_inside}
use Rattle.nest_walk.proofs.Grown.{AllZip-append}
use Rattle.nest_rows.specs.Nested.{IsNestedInstance, Nested, nested_works}
use Rattle.nest_rows.proofs.Nesting.{all-append}
use Rattle.range_check.specs.declared.accesses.Found.{Found}
use Rattle.range_check.specs.Certified.{AreCertified, IsCertified}
use Rattle.range_check.specs.Outside.{instance_outside, instances_outside}
use Rattle.range_check.specs.RangeSystems.{AreProof, HasProof}
use Rattle.range_check.specs.Seen.{accesses_seen}
use Rattle.range_check.specs.Sites.{Site, site_of}
use Rattle.range_check.proofs.Lists.{none-accesses}
use Rattle.range_check.proofs.Solutions.{certified_work}
use Rattle.range_check.proofs.Standing.{good_at}

-- one access more
pub one_access_more : (tree : Tree) (n : Nested) (found : List Found) (k : ℕ) (x : Found) → k < length found → x ≡ get_or found k x → AllByRecursion (IsCertified tree) (map (site_of n) (accesses_seen (take k found))) → IsCertified tree (site_of n x.access.now) →
    AllByRecursion (IsCertified tree) (map (site_of n) (accesses_seen (take (k + 1) found)))
one_access_more tree n found k x lt is before here =
    let split = take_more found k x lt ∙ ap (λ y. take k found ++ y ∷ []) (sym is) in
    let seen = ap accesses_seen split ∙ map-append (λ (f : Found). f.access.now) (take k found) (x ∷ []) in
    let sites = ap (map (site_of n)) seen ∙ map-append (site_of n) (accesses_seen (take k found)) (x.access.now ∷ []) in
    subst (AllByRecursion (IsCertified tree)) (sym sites) (all-append (IsCertified tree) (map (site_of n) (accesses_seen (take k found))) (site_of n x.access.now ∷ []) before (here, tt))

-- one piece of work more
pub one_work_more : (R : Nested → Bool → Type 0) (all : List Nested) (k : ℕ) (n : Nested) (old new : List Bool) (b : Bool) → k < length all → slice_get all k ≡ Some n → AllZip R (take k all) old → R n b → new ≡ old ++ b ∷ [] → AllZip R (take (k + 1) all) new
one_work_more R all k n old new b lt at before here is =
    let split = take_more all k n lt ∙ ap (λ m. take k all ++ m ∷ []) (got all k n at) in
    subst (λ ns. AllZip R ns new) (sym split) (subst (AllZip R (take k all ++ n ∷ [])) (sym is) (AllZip-append R (take k all) (n ∷ []) old (b ∷ []) before (here, tt)))
  where
    got : (xs : List Nested) (k : ℕ) (n : Nested) → slice_get xs k ≡ Some n → get_or xs k n ≡ n
    got [] k n h = refl
    got (x ∷ xs) zero n h = cc
    got (x ∷ xs) (suc k) n h = got xs k n h

-- what is certified by its place
pub certified-at : (tree : Tree) (all : List Nested) (bs : List Bool) (k : ℕ) (n : Nested) → AllZip (λ n b. IsTrue b → AreCertified tree n) all bs → slice_get bs k ≡ Some true → slice_get all k ≡ Some n → AreCertified tree n
certified-at tree [] [] k n h is at = absurd (let no : None ≡ Some n = at in cc)
certified-at tree [] (b ∷ bs) k n h is at = absurd h
certified-at tree (m ∷ all) [] k n h is at = absurd h
certified-at tree (m ∷ all) (b ∷ bs) zero n h is at =
    let here : b ≡ true = cc in
    let same : m ≡ n = cc in
    subst (AreCertified tree) same (h.0 here)
certified-at tree (m ∷ all) (b ∷ bs) (suc k) n h is at = certified-at tree all bs k n h.1 is at

nothing : {X : Type 0} (o : Option X) → is_none o ≡ true → o ≡ None
nothing None h = refl
nothing (Some x) h = absurd (let no : false ≡ true = h in cc)

-- an instance of certified work has no subscript out of range
pub certified_instance : (tree : Tree) → IsWellFormed tree → (i : Instance) → IsNestedInstance (param_values tree) (nested_works tree) i → ((n : Nested) → slice_get (nested_works tree) (i.statement - 1) ≡ Some n → AreCertified tree n) → instance_outside tree i ≡ None
certified_instance tree formed i nested certified =
    let n = nested.nested in
    let good = good_at tree formed (i.statement - 1) n nested.at in
    let executed = ap (λ w. is_executed w i.loops (param_values tree)) nested.what ∙ nested.executed in
    let inside = certified_work tree formed n good i.loops nested.ns nested.trips executed (certified n nested.at) in
    let inside' = sym (ap (λ w. list_all (is_access_inside tree i.loops) (accesses_of w)) nested.what) ∙ inside in
    nothing (instance_outside tree i) (none-accesses tree i.loops (line_of_work i.what) (accesses_of i.what) ∙ inside')

-- where each is certified, no instance has
pub all_certified : (tree : Tree) → IsWellFormed tree → (is : List Instance) → AllByRecursion (IsNestedInstance (param_values tree) (nested_works tree)) is → ((k : ℕ) (n : Nested) → slice_get (nested_works tree) k ≡ Some n → AreCertified tree n) → instances_outside tree is ≡ None
all_certified tree formed [] nested certified = refl
all_certified tree formed (i ∷ rest) nested certified =
    ap (λ o. option_or o (instances_outside tree rest)) (certified_instance tree formed i nested.0 (λ n at. certified (i.statement - 1) n at)) ∙ all_certified tree formed rest nested.1 certified

-- each flag is set
pub all-true : (all : List Nested) (bs : List Bool) (R : Nested → Bool → Type 0) (k : ℕ) (n : Nested) → AllZip R all bs → All (λ b. b ≡ true) bs → slice_get all k ≡ Some n → slice_get bs k ≡ Some true
all-true [] bs R k n h set at = absurd (let no : None ≡ Some n = at in cc)
all-true (m ∷ all) [] R k n h set at = absurd h
all-true (m ∷ all) (b ∷ bs) R zero n h set at = ap Some (set 0 true (omega arith))
all-true (m ∷ all) (b ∷ bs) R (suc k) n h set at = all-true all bs R k n h.1 (λ j d lt. set (suc j) d (omega (arith, lt))) at

-- a proof that is there
pub some_proof : (tree : Tree) (site : Site) (d : ℕ) (o : Option (Certificate × Certificate)) → is_some o ≡ true → IfSome o (AreProof tree site d) → HasProof tree site d
some_proof tree site d None there h = absurd (let no : false ≡ true = there in cc)
some_proof tree site d (Some proof) there h = (proof, h)

-- an access has at most three subscripts
bounds_few : (vs : List Declaration) (k : ℕ) → list_all is_good_declaration vs ≡ true → length (bounds_at vs k) ≤ 3
bounds_few [] k good = omega arith
bounds_few (v ∷ vs) zero good = (good_declaration v (and_parts (is_good_declaration v) (list_all is_good_declaration vs) good).0).1
bounds_few (v ∷ vs) (suc k) good = bounds_few vs k (and_parts (is_good_declaration v) (list_all is_good_declaration vs) good).1

pub few_subscripts : (tree : Tree) (a : Access) → IsWellFormed tree → IsThere tree a → length a.subscripts ≤ 3
few_subscripts tree a formed there = omega (arith, there.as_many, bounds_few tree.variables (a.variable - 1) (well_formed_parts tree formed).variables)
