-- Loops of a program with one number are one loop.
use Rattle.std.proofs.Common.{◌≡◌, ℕ, ◌+◌, ◌-◌, ◌≤◌, Bool, true, false, Some, List, [], ◌∷◌, ◌++◌, length, length-append, map, if◌then◌else◌, refl, ap, sym, ◌∙◌, arith}
use Rattle.std.specs.List.{AllByRecursion, slice_get}
use Rattle.std.proofs.lemmas.Bool.{and_parts}
use Rattle.std.proofs.lemmas.Option.{slice_get_within}
use Rattle.list_lemmas.proofs.Gets.{get-front, get-behind}
use Rattle.nest_tree.specs.Tree.{Head, Statement, Statements, do_loop, work, continue, done, next}
use Rattle.nest_tree.specs.WellFormed.{Scope, are_good_statements, is_good_statement, loops_in, loops_of}
use Rattle.nest_tree.proofs.Good.{good_loop}
use Rattle.nest_rows.proofs.Nesting.{all-append, all-weaker}
use Rattle.conflict_rules.specs.References.{StaticPhase}
use Rattle.comm_system.proofs.Lists.{all_mapped}
use Rattle.comm_system.proofs.Stations.{inside, text_among, text_of}

-- the heads of all loops, in text order
abbrev mutual
  pub heads_of : Statement → List Head
  heads_of (do_loop head body) = head ∷ heads_among body
  heads_of (work w) = []
  heads_of (continue line) = []

  pub heads_among : Statements → List Head
  heads_among done = []
  heads_among (next s rest) = heads_of s ++ heads_among rest

mutual
  heads-many : (s : Statement) → length (heads_of s) ≡ loops_in s
  heads-many (do_loop head body) = omega (arith, heads_among-many body)
  heads-many (work w) = refl
  heads-many (continue line) = refl

  heads_among-many : (ss : Statements) → length (heads_among ss) ≡ loops_of ss
  heads_among-many done = refl
  heads_among-many (next s rest) = omega (arith, length-append (heads_of s) (heads_among rest), heads-many s, heads_among-many rest)

-- a loop is the one of these with its number, where the first has this number
pub record IsKnown (all : List Head) (number : ℕ) (h : Head) : Type 0 where
  pub low : number ≤ h.number
  pub at : slice_get all (h.number - number) ≡ Some h

abbrev pub AreKnown : List Head → ℕ → StaticPhase → Type 0
AreKnown all number p = AllByRecursion (IsKnown all number) p.outer

known_first : (xs ys : List Head) (number : ℕ) (h : Head) → IsKnown xs number h → IsKnown (xs ++ ys) number h
known_first xs ys number h k = record { low = k.low; at = get-front xs ys (h.number - number) (slice_get_within xs (h.number - number) h k.at) ∙ k.at }

known_behind : (xs ys : List Head) (number number' : ℕ) (h : Head) → number' ≡ number + length xs → IsKnown ys number' h → IsKnown (xs ++ ys) number h
known_behind xs ys number number' h from k =
    let far : h.number - number ≡ length xs + (h.number - number') = omega (arith, k.low, from) in
    record { low = omega (arith, k.low, from); at = ap (slice_get (xs ++ ys)) far ∙ get-behind xs ys (h.number - number') ∙ k.at }

module _ (scope : Scope) (enters : ℕ → Bool) where
  mutual
    known_of : (around : List ℕ) (number : ℕ) (s : Statement) → is_good_statement scope around number s ≡ true → AllByRecursion (AreKnown (heads_of s) number) (text_of enters s)
    known_of around number (do_loop head body) good = by (enters head.number) (known_among (head.number ∷ around) (number + 1) body (good_loop scope around number head body good).inside)
      where
        by : (b : Bool) → AllByRecursion (AreKnown (heads_among body) (number + 1)) (text_among enters body) → AllByRecursion (AreKnown (head ∷ heads_among body) number) (if b then map (inside head) (text_among enters body) else record { what = do_loop head body; outer = [] } ∷ [])
        by true inner =
            let g = good_loop scope around number head body good in
            let none : head.number - number ≡ 0 = omega (arith, g.number) in
            all_mapped (AreKnown (heads_among body) (number + 1)) (AreKnown (head ∷ heads_among body) number) (inside head) (text_among enters body)
            (λ p known. (record { low = omega (arith, g.number); at = ap (slice_get (head ∷ heads_among body)) none }, all-weaker (IsKnown (heads_among body) (number + 1)) (IsKnown (head ∷ heads_among body) number) p.outer (λ h k. known_behind (head ∷ []) (heads_among body) number (number + 1) h (omega arith) k) known))
            inner
        by false inner = (tt, tt)
    known_of around number (work w) good = (tt, tt)
    known_of around number (continue line) good = tt

    pub known_among : (around : List ℕ) (number : ℕ) (ss : Statements) → are_good_statements scope around number ss ≡ true → AllByRecursion (AreKnown (heads_among ss) number) (text_among enters ss)
    known_among around number done good = tt
    known_among around number (next s rest) good =
        let both = and_parts (is_good_statement scope around number s) (are_good_statements scope around (number + loops_in s) rest) good in
        let Q = AreKnown (heads_of s ++ heads_among rest) number in
        all-append Q (text_of enters s) (text_among enters rest)
        (all-weaker (AreKnown (heads_of s) number) Q (text_of enters s) (λ p known. all-weaker (IsKnown (heads_of s) number) (IsKnown (heads_of s ++ heads_among rest) number) p.outer (λ h k. known_first (heads_of s) (heads_among rest) number h k) known) (known_of around number s both.0))
        (all-weaker (AreKnown (heads_among rest) (number + loops_in s)) Q (text_among enters rest)
        (λ p known. all-weaker (IsKnown (heads_among rest) (number + loops_in s)) (IsKnown (heads_of s ++ heads_among rest) number) p.outer (λ h k. known_behind (heads_of s) (heads_among rest) number (number + loops_in s) h (omega (arith, heads-many s)) k) known)
        (known_among around (number + loops_in s) rest both.1))

pub same_head : (all : List Head) (number : ℕ) (h g : Head) → IsKnown all number h → IsKnown all number g → h.number ≡ g.number → h ≡ g
same_head all number h g k k' same =
    let e : Some h ≡ Some g = sym k.at ∙ ap (λ n. slice_get all (n - number)) same ∙ k'.at in
    cc
