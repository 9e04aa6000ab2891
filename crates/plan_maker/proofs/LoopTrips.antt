-- The systems of two trips of the loops that a cut deals out, and those of their private scalars' paths, are those of each of these loops where it alone is.
use Rattle.std.proofs.Common.{◌≡◌, ◌≢◌, ℕ, zero, suc, ◌+◌, ◌-◌, ◌≤◌, false, not, ◌&&◌, ◌||◌, List, [], ◌∷◌, ◌++◌, take, length, map, get_or, Some, None, if◌then◌else◌, refl, ap, ap₂, sym, ◌∙◌, subst, arith, length-take}
use Rattle.std.specs.Prelude.{Option, replicate, slice_get}
use Rattle.std.specs.List.{filter, flat_map}
use Rattle.std.proofs.lemmas.Bool.{and_parts}
use Rattle.std.proofs.lemmas.List.{append-nil}
use Rattle.std.proofs.lemmas.Option.{slice_get_within}
use Rattle.farkas_cert.specs.declared.certificate.Certificate.{Certificate}
use Rattle.nest_tree.specs.Tree.{Head, Statement, Statements, do_loop, work, continue, Tree}
use Rattle.nest_tree.specs.WellFormed.{IsWellFormed, are_good_statements, scope_of}
use Rattle.own_scalars.specs.OwnScalars.{is_sum}
use Rattle.owner_partition.specs.declared.anchor.Anchor.{Anchor}
use Rattle.owner_partition.specs.declared.cut.Mark.{Mark}
use Rattle.owner_partition.specs.Cuts.{Cutting}
use Rattle.owner_partition.specs.Marks.{is_doall, is_sum_mark}
use Rattle.sync_plan.specs.Barriers.{barrier_plan}
use Rattle.sync_plan.specs.declared.plan.Plan.{Plan}
use Rattle.comm_system.specs.Obligations.{trips_task, zero_trip_task}
use Rattle.comm_system.specs.Pairs.{pairs_among}
use Rattle.comm_system.specs.Paths.{path_of}
use Rattle.comm_system.specs.References.{Reference, StaticPhase, phases_of, references_of, variable_of}
use Rattle.comm_system.specs.Shown.{is_among}
use Rattle.comm_system.proofs.InPlace.{take_got}
use Rattle.maker_marks.specs.declared.tries.Tried.{Tried}
use Rattle.plan_maker.specs.Asked.{AreRefuted, Asked, all_paths_asked, all_trips_asked, asked, paths_asked, trips_asked}
use Rattle.maker_marks.specs.Cut.{cut_alone, cut_of, only}
use Rattle.maker_marks.specs.Privates.{own_at}
use Rattle.plan_maker.specs.Cut.{cut_asked, cut_paths_asked}
use Rattle.plan_maker.specs.Loops.{LoopVerdict, by_number, loops_asked, loops_paths_asked, marked_asked, marked_paths_asked, own_in, tried_asked, tried_in}
use Rattle.plan_maker.specs.Trials.{HasMoreCertificates}
use Rattle.maker_marks.specs.Tries.{tried_at}
use Rattle.plan_maker.proofs.DealtPhases.{IsOnly, asked_at, asked_of, by_number-append, by_number-same, laid, laid-one, laid_from, whole-by}
use Rattle.plan_maker.proofs.Marked.{own_is, tried_is}
use Rattle.plan_maker.proofs.Questions.{refuted-append}
use Rattle.plan_maker.proofs.Verdicts.{paths_same, trips_same}

-- ---- what is asked of a phase depends on nothing of a cut but its loop's mark and private scalars

abbrev no-cut : Cutting
no-cut = record { marks = []; privates = [] }

abbrev phase-of : List Head → Head → Statements → StaticPhase
phase-of outer head body = record { what = do_loop head body; outer = outer }

abbrev trips-by : Tree → Mark → List ℕ → List Head → Head → Statements → List Asked
trips-by tree m vs outer head body =
    let refs = references_of (phase-of outer head body) in
    map (asked []) (if is_doall m then map (trips_task tree (barrier_plan no-cut [] 1 []) (phase-of outer head body))
    (pairs_among (filter (λ (r : Reference). not (is_among vs (variable_of r.what) || (is_sum_mark m && is_sum (variable_of r.what) body))) refs) refs) else [])

nothing-by : (tree : Tree) (m : Mark) (outer : List Head) (head : Head) (body : Statements) → is_doall m ≡ false → trips-by tree m [] outer head body ≡ []
nothing-by tree m outer head body closed =
    let refs = references_of (phase-of outer head body) in
    let all = map (trips_task tree (barrier_plan no-cut [] 1 []) (phase-of outer head body)) (pairs_among (filter (λ (r : Reference). not (is_among [] (variable_of r.what) || (is_sum_mark m && is_sum (variable_of r.what) body))) refs) refs) in
    ap (λ b. map (asked []) (if b then all else [])) closed

abbrev paths-by : Tree → Mark → List ℕ → List Head → Head → Statements → List Asked
paths-by tree m vs outer head body = map (asked []) (map (zero_trip_task tree (barrier_plan no-cut [] 1 [])) (flat_map (path_of (phase-of outer head body)) vs))

no-paths-by : (tree : Tree) (m : Mark) (outer : List Head) (head : Head) (body : Statements) → is_doall m ≡ false → paths-by tree m [] outer head body ≡ []
no-paths-by tree m outer head body closed = refl

module _ (tree : Tree) where
  trips-so : (cut : Cutting) (what : Statement) (outer : List Head) → trips_asked tree (barrier_plan cut [] 1 []) (record { what = what; outer = outer }) ≡ asked_at Asked (trips-by tree) (nothing-by tree) cut outer what
  trips-so cut (do_loop head body) outer = refl
  trips-so cut (work w) outer = refl
  trips-so cut (continue line) outer = refl

  all-trips-so : (cut : Cutting) (phases : List StaticPhase) → flat_map (trips_asked tree (barrier_plan cut [] 1 [])) phases ≡ asked_of Asked (trips-by tree) (nothing-by tree) cut phases
  all-trips-so cut [] = refl
  all-trips-so cut (s ∷ phases) = ap₂ (λ xs ys. xs ++ ys) (trips-so cut s.what s.outer) (all-trips-so cut phases)

  paths-so : (cut : Cutting) (what : Statement) (outer : List Head) → paths_asked tree (barrier_plan cut [] 1 []) (record { what = what; outer = outer }) ≡ asked_at Asked (paths-by tree) (no-paths-by tree) cut outer what
  paths-so cut (do_loop head body) outer = refl
  paths-so cut (work w) outer = refl
  paths-so cut (continue line) outer = refl

  all-paths-so : (cut : Cutting) (phases : List StaticPhase) → flat_map (paths_asked tree (barrier_plan cut [] 1 [])) phases ≡ asked_of Asked (paths-by tree) (no-paths-by tree) cut phases
  all-paths-so cut [] = refl
  all-paths-so cut (s ∷ phases) = ap₂ (λ xs ys. xs ++ ys) (paths-so cut s.what s.outer) (all-paths-so cut phases)

-- ---- the cut in which a loop alone is dealt out

at-end : (m : ℕ) (t : Tried) → get_or (replicate m None ++ Some t ∷ []) m None ≡ Some t
at-end zero t = refl
at-end (suc m) t = at-end m t

not-at-end : (m k : ℕ) (t : Tried) → k ≢ m → get_or (replicate m None ++ Some t ∷ []) k None ≡ None
not-at-end zero zero t other = absurd (other refl)
not-at-end zero (suc k) t other = refl
not-at-end (suc m) zero t other = refl
not-at-end (suc m) (suc k) t other = not-at-end m k t (λ e. other (ap suc e))

pub only_is : (n : ℕ) (t : Tried) → 1 ≤ n → IsOnly (tried_at (only n t)) n t
only_is n t from = record { is = at-end (n - 1) t; others = λ k low other. not-at-end (n - 1) (k - 1) t (λ e. other (omega (arith, e, low, from))) }

-- the private scalars of a loop that has these
abbrev pub alone_own : ℕ → List ℕ → ℕ → List ℕ
alone_own n vs = own_at (replicate (n - 1) [] ++ vs ∷ [])

own-end : (m : ℕ) (vs : List ℕ) → get_or (replicate m [] ++ vs ∷ []) m [] ≡ vs
own-end zero vs = refl
own-end (suc m) vs = own-end m vs

pub alone_own_is : (n : ℕ) (vs : List ℕ) → alone_own n vs n ≡ vs
alone_own_is n vs = own-end (n - 1) vs

-- ---- what is asked of the loops of a cut

abbrev marked-by : (Tree → Cutting → List Asked) → Tree → ℕ → Mark → Option Tried → List ℕ → List Asked
marked-by of_cut tree n m tried vs = if is_doall m then tried_asked of_cut tree n tried vs else []

abbrev loops-by : (Tree → Cutting → List Asked) → Tree → (ℕ → Option Tried) → (ℕ → List ℕ) → List Mark → List Asked
loops-by of_cut tree dealt owned marks = by_number (λ k m. marked-by of_cut tree k m (dealt k) (owned k)) 1 marks

module _ (tree : Tree) (ask : Mark → List ℕ → List Head → Head → Statements → List Asked) (nothing : (m : Mark) (outer : List Head) (head : Head) (body : Statements) → is_doall m ≡ false → ask m [] outer head body ≡ [])
    (of_cut : Tree → Cutting → List Asked) (so : (cut : Cutting) → of_cut tree cut ≡ asked_of Asked ask nothing cut (phases_of tree cut.marks)) (dealt : ℕ → Option Tried) (owned : ℕ → List ℕ) (cut : Cutting) where
  abbrev cuts : ℕ → Tried → Cutting
  cuts n t = cut_alone tree n t (owned n)

  abbrev alone : ℕ → Tried → ℕ → Option Tried
  alone n t = tried_at (only n t)

  abbrev owns : ℕ → ℕ → List ℕ
  owns n = alone_own n (owned n)

  abbrev whole : ℕ → Tried → List Asked
  whole n t = of_cut tree (cut_alone tree n t (owned n))

  mine : (n : ℕ) → 1 ≤ n → owns n n ≡ owned n
  mine n from = alone_own_is n (owned n)

  whole-so : (n : ℕ) (o : Option Tried) → whole-by Asked ask nothing cuts alone only_is whole cut dealt owns owned mine n o ≡ tried_asked of_cut tree n o (owned n)
  whole-so n None = refl
  whole-so n (Some t) = refl

  laid-so : loops-by of_cut tree dealt owned cut.marks ≡ laid_from Asked ask nothing cuts alone only_is whole cut dealt owns owned mine 1 cut.marks
  laid-so =
      by_number-same (λ n m. marked-by of_cut tree n m (dealt n) (owned n)) (laid-one Asked ask nothing cuts alone only_is whole cut dealt owns owned mine)
      (λ n m. ap (λ xs. if is_doall m then xs else []) (sym (whole-so n (dealt n)))) 1 cut.marks

  laid-out : IsWellFormed tree → cut ≡ cut_of dealt owned tree → of_cut tree cut ≡ loops-by of_cut tree dealt owned cut.marks
  laid-out formed is =
      let good = and_parts _ (are_good_statements (scope_of tree) [] 1 tree.items) formed in
      so cut
      ∙ laid Asked ask nothing cuts alone only_is whole cut dealt owns owned mine (scope_of tree) tree.items good.1 is (λ n t. refl) (λ n t. so (cut_alone tree n t (owned n)))
      ∙ sym laid-so

pub trips_laid : (tree : Tree) (dealt : ℕ → Option Tried) (owned : ℕ → List ℕ) (cut : Cutting) → IsWellFormed tree → cut ≡ cut_of dealt owned tree → cut_asked tree cut ≡ loops_asked tree dealt owned 1 cut.marks
trips_laid tree dealt owned cut formed is = laid-out tree (trips-by tree) (nothing-by tree) cut_asked (λ u. all-trips-so tree u (phases_of tree u.marks)) dealt owned cut formed is

pub paths_laid : (tree : Tree) (dealt : ℕ → Option Tried) (owned : ℕ → List ℕ) (cut : Cutting) → IsWellFormed tree → cut ≡ cut_of dealt owned tree → cut_paths_asked tree cut ≡ loops_paths_asked tree dealt owned 1 cut.marks
paths_laid tree dealt owned cut formed is = laid-out tree (paths-by tree) (no-paths-by tree) cut_paths_asked (λ u. all-paths-so tree u (phases_of tree u.marks)) dealt owned cut formed is

-- ---- the certificates of one loop more

pub none_asked : (qs : List Asked) (old new : List Certificate) → qs ≡ [] → new ≡ old → HasMoreCertificates qs old new
none_asked qs old new none same = record { more = []; behind = same ∙ sym (append-nil old); refuted = subst (λ (rs : List Asked). AreRefuted rs []) (sym none) tt }

more-by : (of_cut : Tree → Cutting → List Asked) (tree : Tree) (vs : List LoopVerdict) (marks : List Mark) (k : ℕ) (m : Mark) (v : LoopVerdict) (old new : List Certificate) → slice_get marks k ≡ Some m → slice_get vs k ≡ Some v →
    AreRefuted (loops-by of_cut tree (tried_at (map tried_in vs)) (own_at (map own_in vs)) (take k marks)) old → HasMoreCertificates (marked-by of_cut tree (k + 1) m (tried_in v) (own_in v)) old new → AreRefuted (loops-by of_cut tree (tried_at (map tried_in vs)) (own_at (map own_in vs)) (take (k + 1) marks)) new
more-by of_cut tree vs marks k m v old new at there h one =
    let dealt = tried_at (map tried_in vs) in
    let owned = own_at (map own_in vs) in
    let all = loops-by of_cut tree dealt owned in
    let inside = slice_get_within marks k m at in
    let long : length (take k marks) ≡ k = simp length-take (omega (arith, inside)) in
    let number : 1 + length (take k marks) ≡ k + 1 = omega (arith, long) in
    let place : k ≡ k + 1 - 1 = omega arith in
    let tried : tried_in v ≡ dealt (k + 1) = tried_is vs k v there ∙ ap (λ j. get_or (map tried_in vs) j None) place in
    let own : own_in v ≡ owned (k + 1) = own_is vs k v there ∙ ap (λ j. get_or (map own_in vs) j []) place in
    let split = ap all (take_got marks k m at) ∙ by_number-append (λ n x. marked-by of_cut tree n x (dealt n) (owned n)) 1 (take k marks) (m ∷ []) ∙ ap (λ qs. all (take k marks) ++ qs)
    (ap (λ j. marked-by of_cut tree j m (dealt j) (owned j) ++ []) number ∙ append-nil (marked-by of_cut tree (k + 1) m (dealt (k + 1)) (owned (k + 1))) ∙ sym (ap₂ (marked-by of_cut tree (k + 1) m) tried own)) in
    subst (λ qs. AreRefuted qs new) (sym split)
    (subst (AreRefuted (all (take k marks) ++ marked-by of_cut tree (k + 1) m (tried_in v) (own_in v))) (sym one.behind)
    (refuted-append (all (take k marks)) (marked-by of_cut tree (k + 1) m (tried_in v) (own_in v)) old one.more h one.refuted))

pub loops_more : (tree : Tree) (vs : List LoopVerdict) (marks : List Mark) (k : ℕ) (m : Mark) (v : LoopVerdict) (old new : List Certificate) → slice_get marks k ≡ Some m → slice_get vs k ≡ Some v →
    AreRefuted (loops_asked tree (tried_at (map tried_in vs)) (own_at (map own_in vs)) 1 (take k marks)) old → HasMoreCertificates (marked_asked tree (k + 1) m (tried_in v) (own_in v)) old new → AreRefuted (loops_asked tree (tried_at (map tried_in vs)) (own_at (map own_in vs)) 1 (take (k + 1) marks)) new
loops_more = more-by cut_asked

pub paths_more : (tree : Tree) (vs : List LoopVerdict) (marks : List Mark) (k : ℕ) (m : Mark) (v : LoopVerdict) (old new : List Certificate) → slice_get marks k ≡ Some m → slice_get vs k ≡ Some v →
    AreRefuted (loops_paths_asked tree (tried_at (map tried_in vs)) (own_at (map own_in vs)) 1 (take k marks)) old → HasMoreCertificates (marked_paths_asked tree (k + 1) m (tried_in v) (own_in v)) old new → AreRefuted (loops_paths_asked tree (tried_at (map tried_in vs)) (own_at (map own_in vs)) 1 (take (k + 1) marks)) new
paths_more = more-by cut_paths_asked

-- the plan's anchors and workers change nothing
pub cut_trips : (tree : Tree) (cut : Cutting) (anchors : List Anchor) (workers : ℕ) (base : Plan) (cs : List Certificate) → base ≡ barrier_plan cut anchors workers [] → AreRefuted (cut_asked tree cut) cs → AreRefuted (all_trips_asked tree base) cs
cut_trips tree cut anchors workers base cs is h =
    let same = trips_same tree (barrier_plan cut [] 1 []) (barrier_plan cut anchors workers []) refl refl (phases_of tree cut.marks) in
    subst (λ b. AreRefuted (all_trips_asked tree b) cs) (sym is) (subst (λ qs. AreRefuted qs cs) same h)

pub cut_paths : (tree : Tree) (cut : Cutting) (anchors : List Anchor) (workers : ℕ) (base : Plan) (cs : List Certificate) → base ≡ barrier_plan cut anchors workers [] → AreRefuted (cut_paths_asked tree cut) cs → AreRefuted (all_paths_asked tree base) cs
cut_paths tree cut anchors workers base cs is h =
    let same = paths_same tree (barrier_plan cut [] 1 []) (barrier_plan cut anchors workers []) refl refl (phases_of tree cut.marks) in
    subst (λ b. AreRefuted (all_paths_asked tree b) cs) (sym is) (subst (λ qs. AreRefuted qs cs) same h)
