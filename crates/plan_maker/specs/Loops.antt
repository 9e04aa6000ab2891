-- Verdicts on loops.
use Rattle.std.specs.Global.{Vec}
use Rattle.std.specs.Prelude.{ℕ, suc, ◌-◌, ◌≤◌, ◌≡◌, true, false, List, [], ◌∷◌, ◌++◌, Option, Some, None, slice_get, if◌then◌else◌}
use Rattle.std.specs.List.{AllByRecursion, AllZip}
use Rattle.nest_tree.specs.Tree.{Tree}
use Rattle.owner_partition.specs.declared.cut.Mark.{Mark}
use Rattle.owner_partition.specs.Marks.{is_doall}
use Rattle.plan_maker.specs.declared.loops.Dealt.{Dealt}
use Rattle.plan_maker.specs.declared.reasons.LoopReason.{LoopReason}
use Rattle.maker_marks.specs.declared.tries.Tried.{Tried}
use Rattle.maker_marks.specs.declared.tries.Tried.TheVariants.{Doall}
use Rattle.plan_maker.specs.declared.verdict.Verdict.{Verdict}
use Rattle.plan_maker.specs.declared.verdict.Verdict.TheVariants.{Refuted, Kept}
use Rattle.plan_maker.specs.Asked.{AreRefuted, Asked, IsCause}
use Rattle.plan_maker.specs.Bars.{AreSure, IsFirst, IsLoopReason, IsSureBarred, attempts_of, is_open, loop_prints}
use Rattle.plan_maker.specs.Cut.{alone_asked, cut_asked, cut_paths_asked}
use Rattle.maker_marks.specs.Cut.{cut_alone}
use Rattle.maker_marks.specs.Tries.{body_of, tries_of}
use Rattle.owner_partition.specs.Cuts.{Cutting}
use Rattle.plan_maker.specs.declared.cause.Cause.{Cause}

abbrev pub LoopVerdict : Type 0
LoopVerdict = Verdict Dealt (Vec LoopReason)

-- where a loop alone is dealt out so, the systems of two trips of it are refuted, and those of its private scalars' paths
pub record IsDealt (tree : Tree) (n : ℕ) (dealt : Dealt) : Type 0 where
  pub trips : AreRefuted (cut_asked tree (cut_alone tree n dealt.tried dealt.privates))
      dealt.trips.items
  pub paths : AreRefuted (cut_paths_asked tree (cut_alone tree n dealt.tried dealt.privates))
      dealt.paths.items

-- so it is by this try with these private scalars, or this is the first of the systems that is kept
abbrev pub IsDealtVerdict : Tree → ℕ → Tried → List ℕ → Verdict Dealt Cause → Type 0
IsDealtVerdict tree n t vs (Refuted dealt) =
    (dealt.tried ≡ t) × (dealt.privates ≡ vs) × IsDealt tree n dealt
IsDealtVerdict tree n t vs (Kept cause) = IsCause (alone_asked tree n t vs) cause

-- the same with those alone that are sure
abbrev pub IsSureVerdict : Tree → ℕ → Tried → Option Dealt → Type 0
IsSureVerdict tree n t (Some dealt) = (dealt.tried ≡ t) × (t ≡ Doall → dealt.privates ≡ [])
    × AreSure tree n dealt.privates × IsDealt tree n dealt
IsSureVerdict tree n t None = IsSureBarred tree n t

-- a loop may be dealt out by a try, those before it fail, and its systems are refuted; or each of its tries fails, for these reasons
abbrev pub IsLoopVerdict : Tree → ℕ → LoopVerdict → Type 0
IsLoopVerdict tree n (Refuted dealt) =
    IsFirst tree n dealt.tried dealt.privates × IsDealt tree n dealt
IsLoopVerdict tree n (Kept reasons) = AllZip (IsLoopReason tree) (attempts_of tree n) reasons.items
    × (loop_prints tree n ≡ false → AllByRecursion (IsSureBarred tree n)
    (tries_of (body_of tree n)))

-- the try by which a loop may be dealt out
abbrev pub tried_in : LoopVerdict → Option Tried
tried_in (Refuted dealt) = Some dealt.tried
tried_in (Kept reasons) = None

-- and its private scalars then
abbrev pub own_in : LoopVerdict → List ℕ
own_in (Refuted dealt) = dealt.privates
own_in (Kept reasons) = []

-- the verdicts on loops by their numbers, from 1
abbrev pub AreLoopVerdicts : Tree → List LoopVerdict → Type 0
AreLoopVerdicts tree verdicts =
    (n : ℕ) (v : LoopVerdict) → 1 ≤ n → slice_get verdicts (n - 1) ≡ Some v → IsLoopVerdict tree n v

-- each loop whose mark is Outer or Single is barred
abbrev pub AreOpenBarred : List Mark → List LoopVerdict → Type 0
AreOpenBarred marks verdicts = (k : ℕ) (m : Mark) (v : LoopVerdict) → slice_get marks k ≡ Some m
    → slice_get verdicts k ≡ Some v → is_open m ≡ true → tried_in v ≡ None

-- what is asked of two trips of the loop with this number, and of the paths of its private scalars, where it has this mark and may be dealt out so
abbrev pub tried_asked : (Tree → Cutting → List Asked) → Tree → ℕ → Option Tried → List ℕ
    → List Asked
tried_asked of_cut tree n None vs = []
tried_asked of_cut tree n (Some t) vs = of_cut tree (cut_alone tree n t vs)

abbrev pub marked_asked : Tree → ℕ → Mark → Option Tried → List ℕ → List Asked
marked_asked tree n m tried vs = if is_doall m then tried_asked cut_asked tree n tried vs else []

abbrev pub marked_paths_asked : Tree → ℕ → Mark → Option Tried → List ℕ → List Asked
marked_paths_asked tree n m tried vs =
    if is_doall m then tried_asked cut_paths_asked tree n tried vs else []

-- of the loops with these marks, from this number on, one behind another
abbrev pub by_number : {X : Type 0} → (ℕ → Mark → List X) → ℕ → List Mark → List X
by_number f n [] = []
by_number f n (m ∷ marks) = f n m ++ by_number f (suc n) marks

abbrev pub loops_asked : Tree → (ℕ → Option Tried) → (ℕ → List ℕ) → ℕ → List Mark → List Asked
loops_asked tree dealt own n marks =
    by_number (λ k m. marked_asked tree k m (dealt k) (own k)) n marks

abbrev pub loops_paths_asked : Tree → (ℕ → Option Tried) → (ℕ → List ℕ) → ℕ → List Mark → List Asked
loops_paths_asked tree dealt own n marks =
    by_number (λ k m. marked_paths_asked tree k m (dealt k) (own k)) n marks
