-- The loops that a made cut deals out are dealt out by tries that are made of them.
use denote.Enum.Bare.{sameb}
use Rattle.std.proofs.Common.{◌≡◌, ◌≤◌, ℕ, suc, ◌==◌, take, drop, length, Bool, true, false, List, [], ◌∷◌, ◌++◌, Some, None, refl, ap, sym, ◌∙◌, subst, inl, inr, arith}
use Rattle.std.specs.Prelude.{slice_get}
use Rattle.std.specs.List.{list_all}
use Rattle.std.proofs.lemmas.Bool.{and_parts, cases_eq}
use Rattle.nest_tree.specs.Prints.{have_print}
use Rattle.nest_tree.specs.Tree.{Statements, Tree}
use Rattle.nest_tree.specs.WellFormed.{IsWellFormed, Scope, scope_of}
use Rattle.nest_tree.proofs.Cells.{well_formed_parts}
use Rattle.owner_partition.specs.Cuts.{Cutting}
use Rattle.maker_marks.specs.contracts.tries.Tried.{the_type}
use Rattle.maker_marks.specs.declared.tries.Tried.{Tried}
use Rattle.maker_marks.specs.declared.tries.Tried.TheVariants.{Doall, Private, Sum}
use Rattle.plan_maker.specs.Bars.{AreOwn, AreSure, IsChosen, IsFirst, IsReasonedCut, loop_prints}
use Rattle.maker_marks.specs.Cut.{cut_alone, only}
use Rattle.plan_maker.specs.Cut.{IsTriedCut}
use Rattle.maker_marks.specs.Tries.{IsMadeOf, body_among, body_of, is_admitted, tried_at, tried_privates, tries_of}
use Rattle.plan_maker.proofs.Attempts.{body_there, split_at}
use Rattle.plan_maker.proofs.CutFits.{AreGood, found_good, found_within}
use Rattle.plan_maker.proofs.LoopTrips.{alone_own, alone_own_is, only_is}
use Rattle.plan_maker.proofs.OwnRising.{AreNamed, first_named, none_named, pass-filter, passing_named}

pass-there : {X : Type 0} (p : X → Bool) (before behind : List X) (x : X) → list_all p (before ++ x ∷ behind) ≡ true → p x ≡ true
pass-there p [] behind x all = (and_parts (p x) (list_all p behind) all).0
pass-there p (y ∷ before) behind x all = pass-there p before behind x (and_parts (p y) (list_all p (before ++ x ∷ behind)) all).1

-- the private scalars of a try may be named, and so may those that are sure
pub tried_named : (scope : Scope) (body : Statements) (t : Tried) → AreGood scope body → AreNamed body (tried_privates t body)
tried_named scope body Doall g = none_named body
tried_named scope body Private g = first_named scope g.around g.first body g.good
tried_named scope body Sum g = first_named scope g.around g.first body g.good

own-named : (tree : Tree) (n : ℕ) (t : Tried) (vs : List ℕ) → AreGood (scope_of tree) (body_of tree n) → AreOwn tree n t vs → AreNamed (body_of tree n) vs
own-named tree n t vs g (inl are) = subst (AreNamed (body_of tree n)) (sym are) (tried_named (scope_of tree) (body_of tree n) t g)
own-named tree n t vs g (inr h) = subst (AreNamed (body_of tree n)) (sym h.1.are) (passing_named (scope_of tree) g.around g.first (body_of tree n) g.good h.1.sure)

-- a Doall try has none
own-none : (tree : Tree) (n : ℕ) (t : Tried) (vs : List ℕ) → AreOwn tree n t vs → t ≡ Doall → vs ≡ []
own-none tree n t vs (inl are) e = are ∙ ap (λ u. tried_privates u (body_of tree n)) e
own-none tree n t vs (inr h) e = h.0 e

-- the statements of a loop that is found are good
pub body_good : (tree : Tree) (n : ℕ) (body : Statements) → IsWellFormed tree → body_among n tree.items ≡ Some body → AreGood (scope_of tree) body
body_good tree n body formed found = found_good (scope_of tree) [] 1 n tree.items body (well_formed_parts tree formed).statements found

-- the first try that doesn't fail is made of its loop
made-of : (tree : Tree) (n : ℕ) (t : Tried) (vs : List ℕ) (body : Statements) → IsWellFormed tree → body_among n tree.items ≡ Some body → IsFirst tree n t vs → IsMadeOf t vs body
made-of tree n t vs body formed found h =
    let here = body_there tree n body found in
    let admitted = pass-there (λ u. is_admitted u (body_of tree n)) h.before h.behind t (sym (ap (list_all (λ u. is_admitted u (body_of tree n))) h.split) ∙ pass-filter (λ u. is_admitted u (body_of tree n)) (Doall ∷ Private ∷ Sum ∷ [])) in
    let named = own-named tree n t vs (subst (AreGood (scope_of tree)) (sym here) (body_good tree n body formed found)) h.own in
    let made : IsMadeOf t vs (body_of tree n) = record { admitted = admitted; few = named.few; rising = named.rising; private = named.private; none = own-none tree n t vs h.own; silent = h.silent } in
    subst (IsMadeOf t vs) here made

-- a try of a loop is made of it, with all its private scalars
pub try_made : (tree : Tree) (n : ℕ) (body : Statements) (ts : List Tried) (k : ℕ) (t : Tried) → IsWellFormed tree → body_among n tree.items ≡ Some body → ts ≡ tries_of body → slice_get ts k ≡ Some t → loop_prints tree n ≡ false → IsMadeOf t (tried_privates t body) body
try_made tree n body ts k t formed found are at silent =
    let named = tried_named (scope_of tree) body t (body_good tree n body formed found) in
    let passes = λ (u : Tried). is_admitted u body in
    let all : list_all passes ts ≡ true = ap (list_all passes) are ∙ pass-filter passes (Doall ∷ Private ∷ Sum ∷ []) in
    record {
      admitted = pass-there passes (take k ts) (drop (suc k) ts) t (ap (list_all passes) (sym (split_at ts k t at)) ∙ all);
      few = named.few;
      rising = named.rising;
      private = named.private;
      none = λ e. ap (λ u. tried_privates u body) e;
      silent = sym (ap have_print (body_there tree n body found)) ∙ silent;
    }

-- and so it is with those of them alone that are sure
pub sure_made : (tree : Tree) (n : ℕ) (t : Tried) (vs : List ℕ) (body : Statements) → IsWellFormed tree → body_among n tree.items ≡ Some body → IsMadeOf t (tried_privates t body) body → AreSure tree n vs → (t ≡ Doall → vs ≡ []) → IsMadeOf t vs (body_of tree n)
sure_made tree n t vs body formed found made sure none =
    let here = body_there tree n body found in
    let g = subst (AreGood (scope_of tree)) (sym here) (body_good tree n body formed found) in
    let named = subst (AreNamed (body_of tree n)) (sym sure.are) (passing_named (scope_of tree) g.around g.first (body_of tree n) g.good sure.sure) in
    record {
      admitted = ap (is_admitted t) here ∙ made.admitted;
      few = named.few;
      rising = named.rising;
      private = named.private;
      none = none;
      silent = ap have_print here ∙ made.silent;
    }

-- a try with private scalars isn't Doall
pub none_without : (t : Tried) (all vs : List ℕ) (body : Statements) → all ≡ tried_privates t body → (length all == 0) ≡ false → t ≡ Doall → vs ≡ []
none_without t all vs body are some e =
    let none : all ≡ [] = are ∙ ap (λ u. tried_privates u body) e in
    absurd (let no : true ≡ false = ap (λ (xs : List ℕ). length xs == 0) (sym none) ∙ some in cc)

-- a try that equals Private is it
pub private_is : (t : Tried) → sameb the_type t Private ≡ true → t ≡ Private
private_is Doall e = absurd (let no : false ≡ true = e in cc)
private_is Private e = refl
private_is Sum e = absurd (let no : false ≡ true = e in cc)

-- the cut in which a loop alone is dealt out
pub alone_tried : (tree : Tree) (n : ℕ) (t : Tried) (vs : List ℕ) (cut : Cutting) → IsWellFormed tree → 1 ≤ n → IsMadeOf t vs (body_of tree n) → cut ≡ cut_alone tree n t vs → IsTriedCut tree cut
alone_tried tree n t vs cut formed from made is =
    let good = (well_formed_parts tree formed).statements in
    let one = only_is n t from in
    record {
      dealt = tried_at (only n t);
      own = alone_own n vs;
      cut_is = is;
      made = λ k u inner dealt found.
          let low = (found_within (scope_of tree) [] 1 k tree.items inner good found).0 in
          elim (cases_eq k n) [
            | inl same ↦
                let tries : Some u ≡ Some t = sym dealt ∙ ap (tried_at (only n t)) same ∙ one.is in
                let tried : u ≡ t = cc in
                let mine : alone_own n vs k ≡ vs = ap (alone_own n vs) same ∙ alone_own_is n vs in
                let here : body_of tree n ≡ inner = ap (body_of tree) (sym same) ∙ body_there tree k inner found in
                subst (λ x. IsMadeOf x (alone_own n vs k) inner) (sym tried) (subst (λ ws. IsMadeOf t ws inner) (sym mine) (subst (IsMadeOf t vs) here made))
            | inr other ↦ absurd (let no : Some u ≡ None = sym dealt ∙ one.others k low other in cc)
          ];
    }

-- a cut with a reason for each loop
pub reasoned_tried : (tree : Tree) (cut : Cutting) → IsWellFormed tree → IsReasonedCut tree cut → IsTriedCut tree cut
reasoned_tried tree cut formed r = record {
  dealt = r.dealt;
  own = r.own;
  cut_is = r.cut_is;
  made = λ n t body dealt found.
      let within = found_within (scope_of tree) [] 1 n tree.items body (well_formed_parts tree formed).statements found in
      made-of tree n t (r.own n) body formed found (subst (λ o. IsChosen tree n o (r.own n)) dealt (r.why n within.0 (omega (arith, within.1))));
}
