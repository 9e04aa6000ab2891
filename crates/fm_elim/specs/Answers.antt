-- What each answer of elimination rests on, and by which answers a system is kept.
use Rattle.std.specs.Prelude.{⊤, ℕ, ◌-◌, ◌≤◌, ◌<◌, ℤ, pos, neg_ℤ, ◌+ℤ◌, ◌<ℤ◌, IsTrue, List, map, slice_index, ◌≡◌}
use Rattle.std.specs.List.{range_with_len}
use Rattle.std.specs.List.Sorted.{IsPermutation}
use Rattle.farkas_cert.specs.declared.system.Row.{Row}
use Rattle.farkas_cert.specs.Inequalities.{Inequalities, IsRationalSolution}
use Rattle.farkas_cert.specs.Combination.{is_narrow}
use Rattle.farkas_cert.specs.declared.certificate.Certificate.{Certificate}
use Rattle.farkas_cert.specs.Good.{IsGood}
use Rattle.fm_elim.specs.declared.answer.Answer.{Answer}
use Rattle.fm_elim.specs.declared.answer.Answer.TheVariants.{Infeasible, Open, Wide, Many, Work}
use Rattle.elim_rows.specs.Pairs.{IsPair, IsWide}
use Rattle.elim_level.specs.Levels.{IsDerived, IsClearTo, HasMoreThan, IsWork}

-- the order names each variable, from 1, once
abbrev pub NamesEachOnce : ℕ → List ℕ → Type 0
NamesEachOnce vars order = IsPermutation (range_with_len 1 vars) order

-- some x / d is a rational solution
abbrev pub HasRationalSolution : Inequalities → Type 0
HasRationalSolution system = (x : List ℤ) × (d : ℤ) × IsRationalSolution system x d

-- level k + 1 combines these two derived rows of level k, and that combination is wide
pub record IsWidePair (system : Inequalities) (order : List ℕ) (k : ℕ) (upper lower : Row) :
    Type 0 where
  pub m : ℤ
  pub n : ℤ
  pub has_upper : IsDerived system order k upper
  pub has_lower : IsDerived system order k lower
  pub pair : IsPair (slice_index order k) upper lower m n
  pub wide : IsWide system.vars m upper n lower

-- what holds of the certificate, if the answer is Infeasible
abbrev pub IfInfeasible : Answer → (Certificate → Type 0) → Type 0
IfInfeasible (Infeasible certificate) P = P certificate
IfInfeasible Open P = ⊤
IfInfeasible (Wide level upper lower) P = ⊤
IfInfeasible (Many level count) P = ⊤
IfInfeasible (Work level pairs) P = ⊤

-- what holds if the answer is Open
abbrev pub IfOpen : Answer → Type 0 → Type 0
IfOpen (Infeasible certificate) P = ⊤
IfOpen Open P = P
IfOpen (Wide level upper lower) P = ⊤
IfOpen (Many level count) P = ⊤
IfOpen (Work level pairs) P = ⊤

-- what holds of the level and its two rows, if the answer is Wide
abbrev pub IfWide : Answer → (ℕ → Row → Row → Type 0) → Type 0
IfWide (Infeasible certificate) P = ⊤
IfWide Open P = ⊤
IfWide (Wide level upper lower) P = P level upper lower
IfWide (Many level count) P = ⊤
IfWide (Work level pairs) P = ⊤

-- what holds of the level and its count, if the answer is Many
abbrev pub IfMany : Answer → (ℕ → ℕ → Type 0) → Type 0
IfMany (Infeasible certificate) P = ⊤
IfMany Open P = ⊤
IfMany (Wide level upper lower) P = ⊤
IfMany (Many level count) P = P level count
IfMany (Work level pairs) P = ⊤

-- what holds of the level and of the pairs, if the answer is Work
abbrev pub IfWork : Answer → (ℕ → ℕ → Type 0) → Type 0
IfWork (Infeasible certificate) P = ⊤
IfWork Open P = ⊤
IfWork (Wide level upper lower) P = ⊤
IfWork (Many level count) P = ⊤
IfWork (Work level pairs) P = P level pairs

-- none of the pairs that level k + 1 is formed from is wide
abbrev pub HasNoWidePair : Inequalities → List ℕ → ℕ → Type 0
HasNoWidePair system order k = (upper lower : Row) → IsWidePair system order k upper lower → ⊥

-- the levels 1 to k are formed of at most 65,536 pairs
abbrev pub IsSoon : Inequalities → List ℕ → ℕ → Type 0
IsSoon system order k = (pairs : ℕ) × IsWork system order k pairs × (pairs ≤ 65536)

-- the levels 0 to k are formed whole: none of them has a row without coefficients, each from 1 on has at most 20,000 rows, they are formed of at most 65,536 pairs, and none of these is wide
pub record IsPassedTo (system : Inequalities) (order : List ℕ) (k : ℕ) : Type 0 where
  pub clear : IsClearTo system order k
  pub few : (j : ℕ) → 1 ≤ j → j ≤ k → HasMoreThan 20000 (IsDerived system order j) → ⊥
  pub soon : IsSoon system order k
  pub narrow : (j : ℕ) → j < k → HasNoWidePair system order j

-- kept as Open: each level is formed whole, and the system has a rational solution
pub record IsOpen (system : Inequalities) (order : List ℕ) : Type 0 where
  pub passed : IsPassedTo system order system.vars
  pub solved : HasRationalSolution system

-- kept as Wide at level k, which is one of those from 1 on: the levels before it are formed whole, those up to it of at most 65,536 pairs, and these two rows of level k - 1 have a wide combination
pub record IsWideAt (system : Inequalities) (order : List ℕ) (k : ℕ) (upper lower : Row) :
    Type 0 where
  pub low : 1 ≤ k
  pub high : k ≤ system.vars
  pub passed : IsPassedTo system order (k - 1)
  pub soon : IsSoon system order k
  pub pair : IsWidePair system order (k - 1) upper lower

-- kept as Many at level k, which is one of those from 1 on: the levels before it are formed whole, those up to it of at most 65,536 pairs, none of the pairs that it is formed from is wide, and it has more than 20,000 rows (so many, and one more, are counted)
pub record IsManyAt (system : Inequalities) (order : List ℕ) (k count : ℕ) : Type 0 where
  pub low : 1 ≤ k
  pub high : k ≤ system.vars
  pub passed : IsPassedTo system order (k - 1)
  pub soon : IsSoon system order k
  pub narrow : HasNoWidePair system order (k - 1)
  pub count_is : count ≡ 20001
  pub more : HasMoreThan 20000 (IsDerived system order k)

-- kept as Work at level k, which is one of those from 1 on: the levels before it are formed whole, and the levels 1 to k are formed of so many pairs, which are more than 65,536
pub record IsWorkAt (system : Inequalities) (order : List ℕ) (k pairs : ℕ) : Type 0 where
  pub low : 1 ≤ k
  pub high : k ≤ system.vars
  pub passed : IsPassedTo system order (k - 1)
  pub work : IsWork system order k pairs
  pub more : 65536 < pairs

-- elimination in this order keeps the system, with this answer: Open, Wide, Many or Work
abbrev pub IsKept : Inequalities → List ℕ → Answer → Type 0
IsKept system order (Infeasible certificate) = ⊥
IsKept system order Open = IsOpen system order
IsKept system order (Wide k upper lower) = IsWideAt system order k upper lower
IsKept system order (Many k count) = IsManyAt system order k count
IsKept system order (Work k pairs) = IsWorkAt system order k pairs

-- what elimination in this order may answer: a good certificate that refutes the system, or by which answer it is kept
abbrev pub IsDecided : Inequalities → List ℕ → Answer → Type 0
IsDecided system order (Infeasible certificate) = IsGood system certificate
IsDecided system order Open = IsKept system order Open
IsDecided system order (Wide k upper lower) = IsKept system order (Wide k upper lower)
IsDecided system order (Many k count) = IsKept system order (Many k count)
IsDecided system order (Work k pairs) = IsKept system order (Work k pairs)

-- each other's opposites but for the bounds, which add to less than 0 (and to no less than - 2 ^ 126)
pub record AreClashing (upper lower : Row) : Type 0 where
  pub opposite : lower.coefs ≡ map neg_ℤ upper.coefs
  pub below : (upper.bound +ℤ lower.bound) <ℤ pos 0
  pub narrow : IsTrue (is_narrow (upper.bound +ℤ lower.bound))

-- no two rows of the set clash
abbrev pub IsFreeOfClashes : (Row → Type 0) → Type 0
IsFreeOfClashes set = (upper lower : Row) → set upper → set lower → AreClashing upper lower → ⊥
