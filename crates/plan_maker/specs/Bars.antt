-- Why loops aren't dealt out, or are by one try and not by an earlier one.
use Rattle.std.specs.Prelude.{ℕ, suc, ◌≤◌, ◌≡◌, ◌⊎◌, Bool, true, false, List, [], ◌∷◌, ◌++◌, map, take, Option, Some, None, if◌then◌else◌}
use Rattle.std.specs.List.{AllByRecursion, AllZip, Contains, filter, flat_map}
use Rattle.nest_tree.specs.Prints.{have_print}
use Rattle.nest_tree.specs.Tree.{Tree}
use Rattle.nest_tree.specs.WellFormed.{loops_of}
use Rattle.owner_partition.specs.Cuts.{Cutting}
use Rattle.owner_partition.specs.declared.cut.Mark.{Mark}
use Rattle.owner_partition.specs.declared.cut.Mark.TheVariants.{Outer, Doall, Sum, Single, Inner}
use Rattle.plan_maker.specs.declared.reasons.Bar.{Bar}
use Rattle.plan_maker.specs.declared.reasons.Bar.TheVariants.{Print, Meeting}
use Rattle.plan_maker.specs.declared.reasons.LoopReason.{LoopReason}
use Rattle.maker_marks.specs.declared.tries.Tried.{Tried}
use Rattle.farkas_cert.specs.declared.certificate.Certificate.{Certificate}
use Rattle.own_scalars.specs.OwnScalars.{private_scalars}
use Rattle.plan_maker.specs.declared.cause.Cause.{Cause}
use Rattle.maker_marks.specs.declared.tries.Tried.TheVariants.{Doall, Private}
use Rattle.plan_maker.specs.Asked.{AreRefuted, IsCause}
use Rattle.maker_marks.specs.Cut.{cut_of}
use Rattle.plan_maker.specs.Cut.{alone_asked, loop_asked, path_asked}
use Rattle.maker_marks.specs.Tries.{all_tries, body_of, tried_privates, tries_of}

-- a try of the loop with this number
pub record Attempt : Type 0 where
  pub number : ℕ
  pub tried : Tried

abbrev pub attempt : ℕ → Tried → Attempt
attempt n t = record { number = n; tried = t }

-- a PRINT stands in the loop with this number
abbrev pub loop_prints : Tree → ℕ → Bool
loop_prints tree n = have_print (body_of tree n)

-- what is tried of a loop, in order
abbrev pub attempts_of : Tree → ℕ → List Attempt
attempts_of tree n = map (attempt n) (all_tries (body_of tree n))

-- a try fails for this reason: a PRINT stands in the loop; or none does, and of two trips and of the paths this is the first system that is kept
abbrev pub IsBar : Tree → Attempt → Bar → Type 0
IsBar tree a Print = loop_prints tree a.number ≡ true
IsBar tree a (Meeting cause) =
    (loop_prints tree a.number ≡ false) × IsCause (loop_asked tree a.number a.tried) cause

pub record IsLoopReason (tree : Tree) (a : Attempt) (reason : LoopReason) : Type 0 where
  pub number : reason.number ≡ a.number
  pub tried : reason.tried ≡ a.tried
  pub bar : IsBar tree a reason.bar

-- of the scalars that may be private in a loop these are the first 16 that stay where others are left out: each system of the paths of these has a good certificate, and of each that is left out a system is kept; what stays behind the 16 needn't be asked about
pub record AreSure (tree : Tree) (n : ℕ) (vs : List ℕ) : Type 0 where
  pub sure : ℕ → Bool
  pub are : vs ≡ take 16 (filter sure (private_scalars (body_of tree n)))
  pub refuted : (v : ℕ) → Contains vs v → (certificates : List Certificate)
      × AreRefuted (path_asked tree n v) certificates
  pub kept : (v : ℕ) → Contains (private_scalars (body_of tree n)) v → sure v ≡ false
      → (cause : Cause) × IsCause (path_asked tree n v) cause

-- a try isn't made once more, with those of its private scalars alone that are sure: these are all of them, or they are none and it is no Sum
abbrev pub IsUnmade : Tree → ℕ → Tried → List ℕ → Type 0
IsUnmade tree n t vs = (vs ≡ tried_privates t (body_of tree n)) ⊎ ((vs ≡ []) × (t ≡ Private))

-- a try has no private scalars; or with those alone that are sure it isn't made once more, or fails then too
abbrev pub IsSureBarred : Tree → ℕ → Tried → Type 0
IsSureBarred tree n t = (tried_privates t (body_of tree n) ≡ [])
    ⊎ ((vs : List ℕ) × AreSure tree n vs × (IsUnmade tree n t vs
    ⊎ ((cause : Cause) × IsCause (alone_asked tree n t vs) cause)))

-- a loop is barred from being dealt out: each of its tries fails
pub record IsBarred (tree : Tree) (n : ℕ) : Type 0 where
  pub reasons : List LoopReason
  pub barred : AllZip (IsLoopReason tree) (attempts_of tree n) reasons
  pub sure : loop_prints tree n ≡ false → AllByRecursion (IsSureBarred tree n)
      (tries_of (body_of tree n))

-- these are the private scalars of a try; or those alone that are sure, where the try with all of them fails
abbrev pub AreOwn : Tree → ℕ → Tried → List ℕ → Type 0
AreOwn tree n t vs = (vs ≡ tried_privates t (body_of tree n))
    ⊎ ((t ≡ Doall → vs ≡ []) × AreSure tree n vs
    × ((reason : LoopReason) × IsLoopReason tree (attempt n t) reason))

-- each of its tries before this one, with these private scalars, fails
pub record IsFirst (tree : Tree) (n : ℕ) (t : Tried) (vs : List ℕ) : Type 0 where
  pub own : AreOwn tree n t vs
  pub silent : loop_prints tree n ≡ false
  pub before : List Tried
  pub behind : List Tried
  pub split : tries_of (body_of tree n) ≡ before ++ t ∷ behind
  pub reasons : List LoopReason
  pub barred : AllZip (IsLoopReason tree) (map (attempt n) before) reasons
  pub sure : AllByRecursion (IsSureBarred tree n) before

-- how a loop may be dealt out, and with which private scalars
abbrev pub IsChosen : Tree → ℕ → Option Tried → List ℕ → Type 0
IsChosen tree n None vs = IsBarred tree n
IsChosen tree n (Some t) vs = IsFirst tree n t vs

-- a cut with a reason for each loop: it is that of some loops that may be dealt out by some tries, where each of the others is barred, and none may be dealt out by an earlier try
pub record IsReasonedCut (tree : Tree) (cut : Cutting) : Type 0 where
  pub dealt : ℕ → Option Tried
  pub own : ℕ → List ℕ
  pub cut_is : cut ≡ cut_of dealt own tree
  pub why : (n : ℕ) → 1 ≤ n → n ≤ loops_of tree.items → IsChosen tree n (dealt n) (own n)

-- the numbers of the loops that are Outer or Single, from this number on
abbrev pub is_open : Mark → Bool
is_open Outer = true
is_open Doall = false
is_open Sum = false
is_open Single = true
is_open Inner = false

abbrev pub open_loop : ℕ → Mark → List ℕ
open_loop n m = if is_open m then n ∷ [] else []

abbrev pub open_loops : ℕ → List Mark → List ℕ
open_loops n [] = []
open_loops n (m ∷ marks) =
    if is_open m then n ∷ open_loops (suc n) marks else open_loops (suc n) marks

-- the tries of these loops, one behind another
abbrev pub all_attempts : Tree → List ℕ → List Attempt
all_attempts tree numbers = flat_map (attempts_of tree) numbers

-- reasons of these tries, behind others
pub record HasLoopReasons (tree : Tree) (attempts : List Attempt) (old new : List LoopReason) :
    Type 0 where
  pub more : List LoopReason
  pub behind : new ≡ old ++ more
  pub reasons : AllZip (IsLoopReason tree) attempts more
