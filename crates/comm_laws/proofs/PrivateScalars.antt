-- The private scalars of a phase are scalars, first stored in each trip of its loop in an assignment without comparison.
use Rattle.std.proofs.Common.{◌≡◌, ℕ, ◌≤◌, ◌&&◌, ◌||◌, ◌==◌, not, nat_le, ℤ, Bool, true, false, true≢false, Some, List, [], ◌∷◌, ◌++◌, length, if◌then◌else◌, refl, ap, sym, ◌∙◌, subst, inl, inr, arith}
use Rattle.std.specs.Prelude.{is_none, slice_get}
use Rattle.std.specs.List.{AllByRecursion, list_all}
use Rattle.std.proofs.lemmas.Bool.{and_parts, cases_Bool, eqb-true, or_cases}
use Rattle.std.proofs.lemmas.List.{nil_from_length}
use Rattle.list_lemmas.proofs.Each.{all_split}
use Rattle.nest_tree.specs.Layout.{bounds_of, element_place, first_cell}
use Rattle.nest_tree.specs.Tree.{Head, Work, assign, print, Statement, Statements, do_loop, work, continue, done, next, Tree}
use Rattle.nest_tree.specs.WellFormed.{is_good_work, rank_of, scope_of}
use Rattle.nest_walk.proofs.GoodAccesses.{good_access-there}
use Rattle.nest_rows.specs.Nested.{Nested, nested_among, nested_in}
use Rattle.nest_rows.proofs.GoodNesting.{IsGoodNested}
use Rattle.nest_rows.proofs.Nesting.{all-append, all-at}
use Rattle.own_scalars.specs.OwnScalars.{is_of, is_plain_store, is_private, loads, some_in, some_of, stores}
use Rattle.owner_partition.specs.Cuts.{Cutting, privates_of}
use Rattle.owner_partition.specs.Marks.{enters_outer, is_doall, mark_of}
use Rattle.owner_partition.specs.declared.cut.Mark.{Mark}
use Rattle.sync_plan.specs.declared.plan.Plan.{Plan}
use Rattle.sync_plan.specs.declared.plan.Version.{Version}
use Rattle.sync_plan.specs.Fit.{IsFit}
use Rattle.sync_plan.specs.Shape.{are_good_privates, do_rise, has_good_privates, has_privates, have_good_privates}
use Rattle.sync_plan.proofs.Fits.{fit_parts}
use Rattle.comm_system.specs.Meetings.{AreFree}
use Rattle.conflict_rules.specs.References.{StaticPhase, phases_among, phases_in, phases_of}
use Rattle.comm_system.specs.Shown.{is_among}
use Rattle.comm_laws.proofs.Cells.{IsElement}
use Rattle.comm_laws.proofs.FirstStores.{first_store, path_among, stored_rank}
use Rattle.comm_laws.proofs.GoodReferences.{stored_good}

-- ---- each may be private

abbrev pub ArePrivate : Cutting → Statement → Type 0
ArePrivate cut (do_loop head body) = AllByRecursion (λ v. is_private v body ≡ true) (privates_of cut.privates head.number)
ArePrivate cut (work w) = Unit {0}
ArePrivate cut (continue line) = Unit {0}

all_pass : (p : ℕ → Bool) (vs : List ℕ) → list_all p vs ≡ true → AllByRecursion (λ v. p v ≡ true) vs
all_pass p [] h = tt
all_pass p (v ∷ vs) h = let parts = and_parts (p v) (list_all p vs) h in (parts.0, all_pass p vs parts.1)

loop_private : (version : Version) (mark : Mark) (body : Statements) (vs : List ℕ) → are_good_privates version mark body vs ≡ true → AllByRecursion (λ v. is_private v body ≡ true) vs
loop_private version mark body [] good = tt
loop_private version mark body (v ∷ vs) good =
    let rest = has_privates version && is_doall mark && nat_le (length (v ∷ vs)) 16 && do_rise 0 (v ∷ vs) && list_all (λ v. is_private v body) (v ∷ vs) in
    elim (cases_Bool (length (v ∷ vs) == 0)) [
      | inl empty ↦ let none = eqb-true (length (v ∷ vs)) 0 empty in absurd (omega (arith, none))
      | inr some ↦ all_pass (λ v. is_private v body) (v ∷ vs) (and_parts (has_privates version && is_doall mark && nat_le (length (v ∷ vs)) 16 && do_rise 0 (v ∷ vs)) (list_all (λ v. is_private v body) (v ∷ vs)) (sym (ap (λ b. b || rest) some) ∙ good)).1
    ]

module _ (version : Version) (cut : Cutting) (enters : ℕ → Bool) where
  mutual
    in_private : (outer : List Head) (s : Statement) → has_good_privates version cut s ≡ true → AllByRecursion (λ (p : StaticPhase). ArePrivate cut p.what) (phases_in enters outer s)
    in_private outer (do_loop head body) good =
        let vs = privates_of cut.privates head.number in
        let parts = and_parts (are_good_privates version (mark_of cut.marks head.number) body vs) (have_good_privates version cut body) good in
        elim (enters head.number) as (λ b. AllByRecursion (λ (p : StaticPhase). ArePrivate cut p.what) (if b then phases_among enters (outer ++ head ∷ []) body else record { what = do_loop head body; outer = outer } ∷ []))
        [ true ↦ among_private (outer ++ head ∷ []) body parts.1 | false ↦ (loop_private version (mark_of cut.marks head.number) body vs parts.0, tt) ]
    in_private outer (work w) good = (tt, tt)
    in_private outer (continue line) good = tt

    among_private : (outer : List Head) (ss : Statements) → have_good_privates version cut ss ≡ true → AllByRecursion (λ (p : StaticPhase). ArePrivate cut p.what) (phases_among enters outer ss)
    among_private outer done good = tt
    among_private outer (next s rest) good =
        let parts = and_parts (has_good_privates version cut s) (have_good_privates version cut rest) good in
        all-append (λ (p : StaticPhase). ArePrivate cut p.what) (phases_in enters outer s) (phases_among enters outer rest) (in_private outer s parts.0) (among_private outer rest parts.1)

pub phase_private : (tree : Tree) (plan : Plan) → IsFit tree plan → (k : ℕ) (s : StaticPhase) → slice_get (phases_of tree plan.cut.marks) k ≡ Some s → ArePrivate plan.cut s.what
phase_private tree plan fits k s at = all-at (λ (p : StaticPhase). ArePrivate plan.cut p.what) (phases_of tree plan.cut.marks) k s (among_private plan.version plan.cut (enters_outer plan.cut.marks) [] tree.items (fit_parts tree plan fits).good_privates) at

-- one of a list
pub among_all : (P : ℕ → Type 0) (vs : List ℕ) (v : ℕ) → is_among vs v ≡ true → AllByRecursion P vs → P v
among_all P [] v among all = absurd (true≢false (sym among))
among_all P (w ∷ vs) v among all = elim (cases_Bool (w == v)) [
  | inl same ↦ subst P (eqb-true w v same) all.0
  | inr other ↦ among_all P vs v (sym (ap (λ b. b || is_among vs v) other) ∙ among) all.1
]

-- ---- it is a scalar

pub record IsScalar (tree : Tree) (v : ℕ) : Type 0 where
  pub low : 1 ≤ v
  pub high : v ≤ length tree.variables
  pub bounds : bounds_of tree v ≡ []
  pub rank : rank_of (scope_of tree) v ≡ 0

stored_scalar : (tree : Tree) (n : Nested) (v : ℕ) → IsGoodNested (scope_of tree) n → stores v n.what ≡ true → IsScalar tree v
stored_scalar tree n v good stored = by n.what good.good stored
  where
    by : (w : Work) → is_good_work (scope_of tree) good.loops w ≡ true → stores v w ≡ true → IsScalar tree v
    by (print p) fine is = absurd (true≢false (sym is))
    by (assign a) fine is =
        let both = and_parts (a.target.variable == v) (length a.target.subscripts == 0) is in
        let same : a.target.variable ≡ v = eqb-true a.target.variable v both.0 in
        let none = eqb-true (length a.target.subscripts) 0 both.1 in
        let access = (stored_good (scope_of tree) good.loops (assign a) fine).0 in
        let there = good_access-there tree good.loops a.target access in
        record {
          low = subst (λ u. 1 ≤ u) same there.low;
          high = subst (λ u. u ≤ length tree.variables) same there.high;
          bounds = nil_from_length (bounds_of tree v) (sym (ap (λ u. length (bounds_of tree u)) same) ∙ sym there.as_many ∙ none);
          rank = (stored_rank (scope_of tree) good.loops v a.target access is).0;
        }

pub private_scalar : (tree : Tree) (v : ℕ) (around : List Head) (body : Statements) → AllByRecursion (IsGoodNested (scope_of tree)) (nested_among around body) → is_private v body ≡ true → IsScalar tree v
private_scalar tree v around body goods is =
    let f = first_store v around body is in
    let n : Nested = record { what = f.store; around = around ++ path_among v body } in
    let split = all_split (IsGoodNested (scope_of tree)) f.before (n ∷ f.after) (subst (AllByRecursion (IsGoodNested (scope_of tree))) f.split goods) in
    stored_scalar tree n v split.1.0 (plain_stores f.store f.plain)
  where
    plain_stores : (w : Work) → is_plain_store v w ≡ true → stores v w ≡ true
    plain_stores (print p) plain = absurd (true≢false (sym plain))
    plain_stores (assign a) plain = (and_parts (is_of v a.target) (not (loads v a.value)) (and_parts (is_of v a.target && not (loads v a.value)) (is_none a.guard) plain).0).0

mutual
  one_stored : (tree : Tree) (v : ℕ) (around : List Head) (s : Statement) → AllByRecursion (IsGoodNested (scope_of tree)) (nested_in around s) → some_in (stores v) s ≡ true → IsScalar tree v
  one_stored tree v around (do_loop head body) goods is = text_stored tree v (around ++ head ∷ []) body goods is
  one_stored tree v around (work w) goods is = stored_scalar tree (record { what = w; around = around }) v goods.0 is
  one_stored tree v around (continue line) goods is = absurd (true≢false (sym is))

  pub text_stored : (tree : Tree) (v : ℕ) (around : List Head) (ss : Statements) → AllByRecursion (IsGoodNested (scope_of tree)) (nested_among around ss) → some_of (stores v) ss ≡ true → IsScalar tree v
  text_stored tree v around done goods is = absurd (true≢false (sym is))
  text_stored tree v around (next s rest) goods is =
      let parts = all_split (IsGoodNested (scope_of tree)) (nested_in around s) (nested_among around rest) goods in
      elim (or_cases (some_in (stores v) s) (some_of (stores v) rest) is) [ inl here ↦ one_stored tree v around s parts.0 here | inr later ↦ text_stored tree v around rest parts.1 later ]

-- its cell
pub scalar_cell : (tree : Tree) (v : ℕ) → IsScalar tree v → IsElement tree v [] (first_cell tree v)
scalar_cell tree v s = record {
  low = s.low;
  high = s.high;
  inside = subst (λ bs. AreFree bs []) (sym s.bounds) tt;
  is = let place : element_place (bounds_of tree v) [] ≡ 0 = ap (λ bs. element_place bs []) s.bounds in omega (arith, place);
}

-- an element of it is at its cell
pub at_scalar_cell : (tree : Tree) (v : ℕ) (ds : List ℤ) (cell : ℕ) → IsScalar tree v → IsElement tree v ds cell → first_cell tree v ≡ cell
at_scalar_cell tree v ds cell s h =
    let none : ds ≡ [] = no_more ds (subst (λ bs. AreFree bs ds) s.bounds h.inside) in
    let place : element_place (bounds_of tree v) ds ≡ 0 = ap (λ bs. element_place bs ds) s.bounds ∙ ap (element_place []) none in
    let is = h.is in
    omega (arith, is, place)
  where
    no_more : (ds : List ℤ) → AreFree [] ds → ds ≡ []
    no_more [] free = refl
    no_more (d ∷ ds) free = absurd free
