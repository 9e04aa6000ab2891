-- Moves of a walk keep what stands in the text.
use Rattle.std.proofs.Common.{◌≡◌, ℕ, ◌+◌, ◌-◌, Some, Bool, true, false, List, [], ◌∷◌, ◌++◌, length, if◌then◌else◌, refl, ap, sym, subst, ◌∙◌, append_assoc, length-append, arith}
use Rattle.std.specs.List.{slice_get}
use Rattle.std.proofs.lemmas.List.{append-nil}
use mathlib.Core.Logic.{∥∥₁_map}
use Rattle.nest_tree.specs.Tree.{Head, Statement, Statements, do_loop, work, continue, done, next, Tree}
use Rattle.nest_model.specs.Instances.{works_in, works_of}
use Rattle.nest_model.specs.Visits.{every, stops_in, stops_of}
use Rattle.nest_walk.specs.InText.{AreInText, StretchInText}
use Rattle.nest_walk.specs.Paths.{Round}
use Rattle.nest_walk.specs.Places.{numbers_of}
use Rattle.nest_walk.specs.Texts.{IsInText, Placed, StandFrom, Standing, placed, placed_in, placed_of, works}
use Rattle.nest_walk.specs.Walks.{Level, Stretch, Walk}

-- as many stops as are counted, and as many pieces of work
mutual
  placed_in-length : (enters : ℕ → Bool) (around : List ℕ) (s : Statement) → length (placed_in enters around s) ≡ stops_in enters s
  placed_in-length enters around (do_loop head body) =
      let all = placed_of-length enters (head.number ∷ around) body in
      elim (enters head.number) as (λ b. length (if b then placed_of enters (head.number ∷ around) body else record { what = do_loop head body; around = around } ∷ []) ≡ (if b then stops_of enters body else 1)) [
        | true ↦ all
        | false ↦ refl
      ]
  placed_in-length enters around (work w) = refl
  placed_in-length enters around (continue line) = refl

  placed_of-length : (enters : ℕ → Bool) (around : List ℕ) (ss : Statements) → length (placed_of enters around ss) ≡ stops_of enters ss
  placed_of-length enters around done = refl
  placed_of-length enters around (next s rest) =
      omega (arith, length-append (placed_in enters around s) (placed_of enters around rest), placed_in-length enters around s, placed_of-length enters around rest)

mutual
  pub works-all : (s : Statement) → stops_in every s ≡ works_in s
  works-all (do_loop head body) = works_of-all body
  works-all (work w) = refl
  works-all (continue line) = refl

  pub works_of-all : (ss : Statements) → stops_of every ss ≡ works_of ss
  works_of-all done = refl
  works_of-all (next s rest) = omega (arith, works-all s, works_of-all rest)

-- the first of two parts, the second, and nothing behind a part
front_stands : (all : List Placed) (n : ℕ) (a b : List Placed) → StandFrom all n (a ++ b) → StandFrom all n a
front_stands all n a b stands =
    ∥∥₁_map stands (λ h. record { before = h.before; behind = b ++ h.behind; all_is = h.all_is ∙ ap (λ xs. h.before ++ xs) (append_assoc a b h.behind); number_is = h.number_is })

back_stands : (all : List Placed) (n k : ℕ) (a b : List Placed) → length a ≡ k → StandFrom all n (a ++ b) → StandFrom all (n + k) b
back_stands all n k a b count stands = ∥∥₁_map stands (λ h. record {
  before = h.before ++ a;
  behind = h.behind;
  all_is = h.all_is ∙ ap (λ xs. h.before ++ xs) (append_assoc a b h.behind) ∙ sym (append_assoc h.before a (b ++ h.behind));
  number_is = omega (arith, h.number_is, length-append h.before a, count);
})

end_stands : (all : List Placed) (n k : ℕ) (a : List Placed) → length a ≡ k → StandFrom all n a → StandFrom all (n + k) []
end_stands all n k a count stands = back_stands all n k a [] count (subst (StandFrom all n) (sym (append-nil a)) stands)

at_middle : (before : List Placed) (p : Placed) (behind : List Placed) → slice_get (before ++ (p ∷ behind)) (length before) ≡ Some p
at_middle [] p behind = refl
at_middle (b ∷ before) p behind = at_middle before p behind

-- the whole text
whole : (all : List Placed) → StandFrom all 1 all
whole all = ∣ record { before = []; behind = []; all_is = sym (append-nil all); number_is = refl } ∣₁

pub start_text : (tree : Tree) (enters : ℕ → Bool) → StretchInText tree enters [] (record { statements = tree.items; place = 1; first = 1 })
start_text tree enters = record { stops = whole (placed tree enters); works = whole (works tree) }

-- nothing, in front of all
pub start_stands : (tree : Tree) → StretchInText tree every [] (record { statements = done; place = 1; first = 1 })
start_stands tree =
    let none : StandFrom (works tree) 1 [] = ∣ record { before = []; behind = works tree; all_is = refl; number_is = refl } ∣₁ in
    record { stops = none; works = none }

-- behind a statement
pub behind_text : (tree : Tree) (enters : ℕ → Bool) (around : List ℕ) (s : Statement) (place first : ℕ) → IsInText tree enters around s place first →
    StretchInText tree enters around (record { statements = done; place = place + stops_in enters s; first = first + works_in s })
behind_text tree enters around s place first h = record {
  stops = end_stands (placed tree enters) place (stops_in enters s) (placed_in enters around s) (placed_in-length enters around s) h.stops;
  works = end_stands (works tree) first (works_in s) (placed_in every around s) (placed_in-length every around s ∙ works-all s) h.works;
}

module _ (tree : Tree) (walk : Walk) (around : List ℕ) (rest : Stretch) (s : Statement) (ss : Statements) (at : rest.statements ≡ next s ss) (h : StretchInText tree walk.enters around rest) where
  stops_stand : StandFrom (placed tree walk.enters) rest.place (placed_in walk.enters around s ++ placed_of walk.enters around ss)
  stops_stand = subst (λ all. StandFrom (placed tree walk.enters) rest.place (placed_of walk.enters around all)) at h.stops

  works_stand : StandFrom (works tree) rest.first (placed_in every around s ++ placed_of every around ss)
  works_stand = subst (λ all. StandFrom (works tree) rest.first (placed_of every around all)) at h.works

  pub statement_text : IsInText tree walk.enters around s rest.place rest.first
  statement_text = record {
    stops = front_stands (placed tree walk.enters) rest.place (placed_in walk.enters around s) (placed_of walk.enters around ss) stops_stand;
    works = front_stands (works tree) rest.first (placed_in every around s) (placed_of every around ss) works_stand;
  }

  pub after_text : StretchInText tree walk.enters around (record { statements = ss; place = rest.place + stops_in walk.enters s; first = rest.first + works_in s })
  after_text = record {
    stops = back_stands (placed tree walk.enters) rest.place (stops_in walk.enters s) (placed_in walk.enters around s) (placed_of walk.enters around ss) (placed_in-length walk.enters around s) stops_stand;
    works = back_stands (works tree) rest.first (works_in s) (placed_in every around s) (placed_of every around ss) (placed_in-length every around s ∙ works-all s) works_stand;
  }

-- the body of a loop that is entered
pub body_text : (tree : Tree) (enters : ℕ → Bool) (around : List ℕ) (head : Head) (body : Statements) (place first : ℕ) → enters head.number ≡ true → IsInText tree enters around (do_loop head body) place first →
    StretchInText tree enters (head.number ∷ around) (record { statements = body; place = place; first = first })
body_text tree enters around head body place first entered h = record {
  stops = subst (λ b. StandFrom (placed tree enters) place (if b then placed_of enters (head.number ∷ around) body else record { what = do_loop head body; around = around } ∷ [])) entered h.stops;
  works = h.works;
}

-- the rest, and another in its place
pub rest_text : (tree : Tree) (walk : Walk) (rounds : List Round) (levels : List Level) (rest : Stretch) → AreInText tree walk rounds levels rest → StretchInText tree walk.enters (numbers_of rounds) rest
rest_text tree walk [] levels rest h = h
rest_text tree walk (r ∷ rounds) [] rest h = absurd h
rest_text tree walk (r ∷ rounds) (l ∷ levels) rest h = h.0

pub replace_text : (tree : Tree) (walk : Walk) (rounds : List Round) (levels : List Level) (rest s : Stretch) → AreInText tree walk rounds levels rest → StretchInText tree walk.enters (numbers_of rounds) s →
    AreInText tree walk rounds levels s
replace_text tree walk [] levels rest s h t = t
replace_text tree walk (r ∷ rounds) [] rest s h t = absurd h
replace_text tree walk (r ∷ rounds) (l ∷ levels) rest s h t = (t, h.1, h.2)

-- what stands at a number, from 1
pub stands_at : (all : List Placed) (n : ℕ) (p : Placed) (part : List Placed) → Standing all n (p ∷ part) → slice_get all (n - 1) ≡ Some p
stands_at all n p part h =
    let at : n - 1 ≡ length h.before = omega (arith, h.number_is) in
    ap (λ xs. slice_get xs (n - 1)) h.all_is ∙ ap (slice_get (h.before ++ (p ∷ (part ++ h.behind)))) at ∙ at_middle h.before p (part ++ h.behind)
