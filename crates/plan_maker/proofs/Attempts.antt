-- The tries of loops, one behind another.
use Rattle.std.proofs.Common.{◌≡◌, ℕ, zero, suc, ◌+◌, true, false, List, [], ◌∷◌, ◌++◌, take, drop, map, Some, None, refl, ap, sym, ◌∙◌, subst}
use Rattle.std.specs.Prelude.{slice_get, unwrap_or, if◌then◌else◌}
use Rattle.std.specs.List.{AllByRecursion, AllZip}
use Rattle.std.proofs.lemmas.List.{map-append}
use Rattle.std.proofs.lemmas.Grind.{flat_map-append}
use Rattle.nest_walk.proofs.Grown.{AllZip-append}
use Rattle.nest_rows.proofs.Nesting.{all-append}
use Rattle.nest_tree.specs.Tree.{Statements, done, Tree}
use Rattle.comm_system.proofs.InPlace.{take_got}
use Rattle.owner_partition.specs.declared.cut.Mark.{Mark}
use Rattle.plan_maker.specs.declared.cause.Cause.{Cause}
use Rattle.plan_maker.specs.declared.reasons.Bar.TheVariants.{Print, Meeting}
use Rattle.plan_maker.specs.declared.reasons.LoopReason.{LoopReason}
use Rattle.maker_marks.specs.declared.tries.Tried.{Tried}
use Rattle.maker_marks.specs.declared.tries.Tried.TheVariants.{Doall}
use Rattle.plan_maker.specs.Asked.{IsCause}
use Rattle.plan_maker.specs.Bars.{AreOwn, IsFirst, IsLoopReason, IsSureBarred, all_attempts, attempt, attempts_of, loop_prints, open_loop}
use Rattle.plan_maker.specs.Cut.{loop_asked}
use Rattle.plan_maker.specs.declared.loops.Dealt.{Dealt}
use Rattle.plan_maker.specs.declared.verdict.Verdict.TheVariants.{Refuted}
use Rattle.plan_maker.specs.Loops.{IsDealt, IsLoopVerdict}
use Rattle.maker_marks.specs.Tries.{body_among, body_of, tries_of}

pub body_there : (tree : Tree) (n : ℕ) (body : Statements) → body_among n tree.items ≡ Some body → body_of tree n ≡ body
body_there tree n body at = ap (λ o. unwrap_or o done) at

-- one try more fails
pub fails_more : (tree : Tree) (n : ℕ) (ts : List Tried) (k : ℕ) (t : Tried) (old : List LoopReason) (cause : Cause) → slice_get ts k ≡ Some t → loop_prints tree n ≡ false → AllZip (IsLoopReason tree) (map (attempt n) (take k ts)) old → IsCause (loop_asked tree n t) cause →
    AllZip (IsLoopReason tree) (map (attempt n) (take (k + 1) ts)) (old ++ record { number = n; tried = t; bar = Meeting cause } ∷ [])
fails_more tree n ts k t old cause at silent h kept =
    let reason : LoopReason = record { number = n; tried = t; bar = Meeting cause } in
    let why : IsLoopReason tree (attempt n t) reason = record { number = refl; tried = refl; bar = (silent, kept) } in
    let split = ap (map (attempt n)) (take_got ts k t at) ∙ map-append (attempt n) (take k ts) (t ∷ []) in
    subst (λ tried. AllZip (IsLoopReason tree) tried (old ++ reason ∷ [])) (sym split) (AllZip-append (IsLoopReason tree) (map (attempt n) (take k ts)) (attempt n t ∷ []) old (reason ∷ []) h (why, tt))

pub split_at : {X : Type 0} (xs : List X) (k : ℕ) (x : X) → slice_get xs k ≡ Some x → xs ≡ take k xs ++ x ∷ drop (suc k) xs
split_at [] k x at = absurd (let no : None ≡ Some x = at in cc)
split_at (y ∷ xs) zero x at = let same : y ≡ x = cc in ap (λ z. z ∷ xs) same
split_at (y ∷ xs) (suc k) x at = ap (λ zs. y ∷ zs) (split_at xs k x at)

-- a try that fails, with its reason
pub fails_so : (tree : Tree) (n : ℕ) (t : Tried) (cause : Cause) → loop_prints tree n ≡ false → IsCause (loop_asked tree n t) cause → (reason : LoopReason) × IsLoopReason tree (attempt n t) reason
fails_so tree n t cause silent kept = (record { number = n; tried = t; bar = Meeting cause }, record { number = refl; tried = refl; bar = (silent, kept) })

-- it fails with those of its private scalars alone that are sure, too
pub sure_more : (tree : Tree) (n : ℕ) (ts : List Tried) (k : ℕ) (t : Tried) → slice_get ts k ≡ Some t → AllByRecursion (IsSureBarred tree n) (take k ts) → IsSureBarred tree n t → AllByRecursion (IsSureBarred tree n) (take (k + 1) ts)
sure_more tree n ts k t at h one = subst (AllByRecursion (IsSureBarred tree n)) (sym (take_got ts k t at)) (all-append (IsSureBarred tree n) (take k ts) (t ∷ []) h (one, tt))

-- a loop with a PRINT is tried once, which fails
pub print_bars : (tree : Tree) (n : ℕ) (reasons : List LoopReason) → loop_prints tree n ≡ true → reasons ≡ record { number = n; tried = Doall; bar = Print } ∷ [] →
    AllZip (IsLoopReason tree) (attempts_of tree n) reasons × (loop_prints tree n ≡ false → AllByRecursion (IsSureBarred tree n) (tries_of (body_of tree n)))
print_bars tree n reasons prints are =
    let reason : LoopReason = record { number = n; tried = Doall; bar = Print } in
    let why : IsLoopReason tree (attempt n Doall) reason = record { number = refl; tried = refl; bar = prints } in
    let once : attempts_of tree n ≡ attempt n Doall ∷ [] = ap (λ b. map (attempt n) (if b then Doall ∷ [] else tries_of (body_of tree n))) prints in
    let barred : AllZip (IsLoopReason tree) (attempt n Doall ∷ []) (reason ∷ []) = (why, tt) in
    (subst (λ tried. AllZip (IsLoopReason tree) tried reasons) (sym once) (subst (AllZip (IsLoopReason tree) (attempt n Doall ∷ [])) (sym are) barred), λ silent. absurd (let no : true ≡ false = sym prints ∙ silent in cc))

-- this is the first that doesn't
pub first_of : (tree : Tree) (n : ℕ) (body : Statements) (ts : List Tried) (k : ℕ) (t : Tried) (vs : List ℕ) (old : List LoopReason) → body_among n tree.items ≡ Some body → ts ≡ tries_of body → slice_get ts k ≡ Some t → loop_prints tree n ≡ false → AreOwn tree n t vs →
    AllZip (IsLoopReason tree) (map (attempt n) (take k ts)) old → AllByRecursion (IsSureBarred tree n) (take k ts) → IsFirst tree n t vs
first_of tree n body ts k t vs old there are at silent own h sure =
    record { own = own; silent = silent; before = take k ts; behind = drop (suc k) ts; split = ap tries_of (body_there tree n body there) ∙ sym are ∙ split_at ts k t at; reasons = old; barred = h; sure = sure }

pub first_verdict : (tree : Tree) (n : ℕ) (t : Tried) (vs : List ℕ) (dealt : Dealt) → IsFirst tree n t vs → dealt.tried ≡ t → dealt.privates ≡ vs → IsDealt tree n dealt → IsLoopVerdict tree n (Refuted dealt)
first_verdict tree n t vs dealt first tried own h = (subst (λ u. IsFirst tree n u dealt.privates) (sym tried) (subst (IsFirst tree n t) (sym own) first), h)

-- the tries of one loop more
pub attempts_more : (tree : Tree) (ns : List ℕ) (n : ℕ) (m : Mark) → all_attempts tree (ns ++ open_loop n m) ≡ all_attempts tree ns ++ all_attempts tree (open_loop n m)
attempts_more tree ns n m = flat_map-append (attempts_of tree) ns (open_loop n m)
