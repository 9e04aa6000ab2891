-- Values that stand one behind another in a list.
use Rattle.std.proofs.Common.{◌≡◌, ℕ, suc, ◌+◌, ℤ, pos, List, [], ◌∷◌, ◌++◌, append_assoc, length, length-append, subst, arith}
use Rattle.nest_tree.specs.Form.{numbered}
use Rattle.nest_tree.specs.Tree.{Head}
use Rattle.nest_rows.specs.Nested.{AreTrips}
use Rattle.nest_rows.specs.Places.{AreLaid, laid}
use Rattle.nest_rows.proofs.Dots.{at-seam}

-- the values from this number on
abbrev pub LiesAt : List ℤ → ℕ → List ℤ → Type 0
LiesAt values n [] = Unit {0}
LiesAt values n (x ∷ xs) = (numbered values n ≡ x) × LiesAt values (suc n) xs

pub lies_behind : (before xs rest : List ℤ) → LiesAt (before ++ (xs ++ rest)) (length before + 1) xs
lies_behind before [] rest = tt
lies_behind before (x ∷ xs) rest =
    let one = before ++ x ∷ [] in
    let as_one : one ++ (xs ++ rest) ≡ before ++ (x ∷ (xs ++ rest)) = append_assoc before (x ∷ []) (xs ++ rest) in
    let long : length one + 1 ≡ suc (length before + 1) = omega (arith, length-append before (x ∷ [])) in
    (at-seam before x (xs ++ rest), subst (λ vs. LiesAt vs (suc (length before + 1)) xs) as_one (subst (λ k. LiesAt (one ++ (xs ++ rest)) k xs) long (lies_behind one xs rest)))

pub lies-left : (values : List ℤ) (n : ℕ) (xs ys : List ℤ) → LiesAt values n (xs ++ ys) → LiesAt values n xs
lies-left values n [] ys h = tt
lies-left values n (x ∷ xs) ys h = (h.0, lies-left values (suc n) xs ys h.1)

pub lies-right : (values : List ℤ) (n : ℕ) (xs ys : List ℤ) → LiesAt values n (xs ++ ys) → LiesAt values (n + length xs) ys
lies-right values n [] ys h = subst (λ k. LiesAt values k ys) (omega arith) h
lies-right values n (x ∷ xs) ys h = subst (λ k. LiesAt values k ys) (omega arith) (lies-right values (suc n) xs ys h.1)

-- the loops of a point
pub laid_there : (values : List ℤ) (n : ℕ) (params loops : List ℤ) (heads : List Head) (ns : List ℕ) → AreTrips params loops heads ns → LiesAt values n (laid loops heads ns) → AreLaid values n loops heads ns
laid_there values n params loops [] ns trips h = tt
laid_there values n params loops (g ∷ heads) [] trips h = absurd trips
laid_there values n params loops (g ∷ heads) (m ∷ ns) trips h =
    let one : suc n ≡ n + 1 = omega arith in
    let two : suc (suc n) ≡ n + 2 = omega arith in
    (h.0, subst (λ k. numbered values k ≡ pos m) one h.1.0, subst (λ k. AreLaid values k loops heads ns) two (laid_there values (suc (suc n)) params loops heads ns trips.1 h.1.1))

pub laid-length : (params loops : List ℤ) (heads : List Head) (ns : List ℕ) → AreTrips params loops heads ns → length (laid loops heads ns) ≡ length heads + length heads
laid-length params loops [] [] h = omega arith
laid-length params loops [] (n ∷ ns) h = absurd h
laid-length params loops (g ∷ heads) [] h = absurd h
laid-length params loops (g ∷ heads) (n ∷ ns) h = omega (arith, laid-length params loops heads ns h.1)
