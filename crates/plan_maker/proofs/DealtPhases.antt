-- What is asked of the phases of a cut whose loops are dealt out is asked of each of these loops where it alone is.
use Rattle.std.proofs.Common.{◌≡◌, ◌≢◌, ℕ, suc, ◌+◌, ◌-◌, ◌≤◌, ◌<◌, Bool, true, false, not, ◌||◌, List, [], ◌∷◌, ◌++◌, length, append_assoc, Some, None, if◌then◌else◌, refl, ap, ap₂, sym, ◌∙◌, subst, inl, inr, arith}
use Rattle.std.specs.Prelude.{Option, is_some, slice_get}
use Rattle.std.specs.List.{flat_map}
use Rattle.std.proofs.lemmas.Grind.{flat_map-append}
use Rattle.std.proofs.lemmas.List.{append-nil}
use Rattle.std.proofs.lemmas.Bool.{and_parts, cases_eq, cases_lt, or_right}
use Rattle.std.proofs.lemmas.Option.{get_or_from_slice_get}
use Rattle.nest_tree.specs.Tree.{Head, Statement, Statements, do_loop, work, continue, done, next}
use Rattle.nest_tree.specs.WellFormed.{Scope, are_good_statements, is_good_statement, loops_in, loops_of}
use Rattle.owner_partition.specs.declared.cut.Mark.{Mark}
use Rattle.owner_partition.specs.declared.cut.Mark.TheVariants.{Outer, Single}
use Rattle.owner_partition.specs.Cuts.{Cutting, privates_of as own_privates}
use Rattle.owner_partition.specs.Marks.{enters_outer, is_closed, is_doall, mark_of}
use Rattle.comm_system.specs.References.{StaticPhase, phases_among, phases_in}
use Rattle.maker_marks.specs.declared.tries.Tried.{Tried}
use Rattle.maker_marks.specs.declared.tries.Tried.TheVariants as tries
use Rattle.plan_maker.specs.Loops.{by_number}
use Rattle.maker_marks.specs.Marks.{has_free, have_free, inner_in, inner_of, marks_by, marks_in, marks_of}
use Rattle.maker_marks.specs.Privates.{none_of, privates_by, privates_in, privates_of}
use Rattle.maker_marks.specs.Tries.{tried_mark}
use Rattle.maker_marks.proofs.LoopsThere.{IsLoopAt, loop_at}
use Rattle.plan_maker.proofs.Marked.{marks_count_in}
use Rattle.plan_maker.proofs.Standing.{StandsAt, all_stand, enters_at, front_stands, mark_at, more_stand, one_stands, privates_count_in, rest_stands}

-- loops with these numbers aren't dealt out
abbrev NoneFrom : (ℕ → Option Tried) → ℕ → ℕ → Type 0
NoneFrom dealt first count = (k : ℕ) → first ≤ k → k < first + count → dealt k ≡ None

-- among statements with no such loop there is none
module _ (dealt : ℕ → Option Tried) where
  none-or : (o : Option Tried) (b : Bool) → o ≡ None → b ≡ false → (is_some o || b) ≡ false
  none-or None b e h = h
  none-or (Some t) b e h = absurd (cc)

  mutual
    free-none_in : (scope : Scope) (around : List ℕ) (first : ℕ) (s : Statement) → is_good_statement scope around first s ≡ true → NoneFrom dealt first (loops_in s) → has_free dealt s ≡ false
    free-none_in scope around first (do_loop head body) good none =
        let l = loop_at scope around first head body good in
        none-or (dealt head.number) (have_free dealt body) (none head.number (omega (arith, l.number)) (omega (arith, l.number)))
        (free-none scope (head.number ∷ around) (first + 1) body l.inside (λ k from to. none k (omega (arith, from)) (omega (arith, to))))
    free-none_in scope around first (work w) good none = refl
    free-none_in scope around first (continue line) good none = refl

    free-none : (scope : Scope) (around : List ℕ) (first : ℕ) (ss : Statements) → are_good_statements scope around first ss ≡ true → NoneFrom dealt first (loops_of ss) → have_free dealt ss ≡ false
    free-none scope around first done good none = refl
    free-none scope around first (next s rest) good none =
        let parts = and_parts (is_good_statement scope around first s) _ good in
        ap (λ b. b || have_free dealt rest) (free-none_in scope around first s parts.0 (λ k from to. none k from (omega (arith, to))))
        ∙ free-none scope around (first + loops_in s) rest parts.1 (λ k from to. none k (omega (arith, from)) (omega (arith, to)))

  -- among statements with such a loop there is one
  mutual
    free-some_in : (scope : Scope) (around : List ℕ) (first n : ℕ) (t : Tried) (s : Statement) → is_good_statement scope around first s ≡ true → dealt n ≡ Some t → first ≤ n → n < first + loops_in s → has_free dealt s ≡ true
    free-some_in scope around first n t (do_loop head body) good is from to =
        let l = loop_at scope around first head body good in
        elim (cases_eq head.number n) [
          | inl same ↦ ap (λ o. is_some o || have_free dealt body) (ap dealt same ∙ is)
          | inr other ↦ or_right (is_some (dealt head.number)) (have_free dealt body) (free-some scope (head.number ∷ around) (first + 1) n t body l.inside is (omega (arith, l.number, other, from)) (omega (arith, to)))
        ]
    free-some_in scope around first n t (work w) good is from to = absurd (omega (arith, from, to))
    free-some_in scope around first n t (continue line) good is from to = absurd (omega (arith, from, to))

    free-some : (scope : Scope) (around : List ℕ) (first n : ℕ) (t : Tried) (ss : Statements) → are_good_statements scope around first ss ≡ true → dealt n ≡ Some t → first ≤ n → n < first + loops_of ss → have_free dealt ss ≡ true
    free-some scope around first n t done good is from to = absurd (omega (arith, from, to))
    free-some scope around first n t (next s rest) good is from to =
        let parts = and_parts (is_good_statement scope around first s) _ good in
        elim (cases_lt n (first + loops_in s)) [
          | inl lt ↦ ap (λ b. b || have_free dealt rest) (free-some_in scope around first n t s parts.0 is from lt)
          | inr le ↦ or_right (has_free dealt s) (have_free dealt rest) (free-some scope around (first + loops_in s) n t rest parts.1 is le (omega (arith, to)))
        ]

-- this loop is dealt out by this try, and no other is
pub record IsOnly (dealt : ℕ → Option Tried) (n : ℕ) (t : Tried) : Type 0 where
  pub is : dealt n ≡ Some t
  pub others : (k : ℕ) → 1 ≤ k → k ≢ n → dealt k ≡ None

-- the marks and the private scalars of these loops stand in a cut
pub record HasIn (cut : Cutting) (dealt : ℕ → Option Tried) (owned : ℕ → List ℕ) (first : ℕ) (s : Statement) : Type 0 where
  pub marks : StandsAt cut.marks first (marks_in dealt s)
  pub privates : StandsAt cut.privates first (privates_in dealt owned s)

pub record HasOf (cut : Cutting) (dealt : ℕ → Option Tried) (owned : ℕ → List ℕ) (first : ℕ) (ss : Statements) : Type 0 where
  pub marks : StandsAt cut.marks first (marks_of dealt ss)
  pub privates : StandsAt cut.privates first (privates_of dealt owned ss)

pub has-first : (cut : Cutting) (dealt : ℕ → Option Tried) (owned : ℕ → List ℕ) (first : ℕ) (s : Statement) (rest : Statements) → HasOf cut dealt owned first (next s rest) → HasIn cut dealt owned first s
has-first cut dealt owned first s rest h = record { marks = front_stands cut.marks first (marks_in dealt s) (marks_of dealt rest) h.marks; privates = front_stands cut.privates first (privates_in dealt owned s) (privates_of dealt owned rest) h.privates }

pub has-rest : (cut : Cutting) (dealt : ℕ → Option Tried) (owned : ℕ → List ℕ) (first : ℕ) (s : Statement) (rest : Statements) → HasOf cut dealt owned first (next s rest) → HasOf cut dealt owned (first + loops_in s) rest
has-rest cut dealt owned first s rest h = record {
  marks = rest_stands cut.marks first (loops_in s) (marks_in dealt s) (marks_of dealt rest) (marks_count_in dealt s) h.marks;
  privates = rest_stands cut.privates first (loops_in s) (privates_in dealt owned s) (privates_of dealt owned rest) (privates_count_in dealt owned s) h.privates;
}

pub has-all : (cut : Cutting) (dealt : ℕ → Option Tried) (owned : ℕ → List ℕ) (ss : Statements) → cut ≡ record { marks = marks_of dealt ss; privates = privates_of dealt owned ss } → HasOf cut dealt owned 1 ss
has-all cut dealt owned ss is = subst (λ c. HasOf c dealt owned 1 ss) (sym is) (record { marks = all_stand (marks_of dealt ss); privates = all_stand (privates_of dealt owned ss) })

pub tried-closed : (t : Tried) → is_closed (tried_mark t) ≡ true
tried-closed tries.Doall = refl
tried-closed tries.Private = refl
tried-closed tries.Sum = refl

pub tried_dealt : (t : Tried) → is_doall (tried_mark t) ≡ true
tried_dealt tries.Doall = refl
tried_dealt tries.Private = refl
tried_dealt tries.Sum = refl

-- what is said of loops by their numbers and marks
module _ {X : Type 0} where
  pub by_number-append : (f : ℕ → Mark → List X) (n : ℕ) (xs ys : List Mark) → by_number f n (xs ++ ys) ≡ by_number f n xs ++ by_number f (n + length xs) ys
  by_number-append f n [] ys = let e : n ≡ n + 0 = omega arith in ap (λ k. by_number f k ys) e
  by_number-append f n (x ∷ xs) ys =
      let e : suc n + length xs ≡ n + suc (length xs) = omega arith in
      ap (λ zs. f n x ++ zs) (by_number-append f (suc n) xs ys ∙ ap (λ k. by_number f (suc n) xs ++ by_number f k ys) e) ∙ sym (append_assoc (f n x) (by_number f (suc n) xs) (by_number f (n + suc (length xs)) ys))

  pub by_number-same : (f g : ℕ → Mark → List X) → ((n : ℕ) (m : Mark) → f n m ≡ g n m) → (n : ℕ) (marks : List Mark) → by_number f n marks ≡ by_number g n marks
  by_number-same f g each n [] = refl
  by_number-same f g each n (m ∷ marks) = ap₂ (λ xs ys. xs ++ ys) (each n m) (by_number-same f g each (suc n) marks)

-- something is asked of a phase by the mark and the private scalars of its loop, and nothing where it isn't dealt out and has none
module _ (X : Type 0) (ask : Mark → List ℕ → List Head → Head → Statements → List X) (nothing : (m : Mark) (outer : List Head) (head : Head) (body : Statements) → is_doall m ≡ false → ask m [] outer head body ≡ []) where
  abbrev pub asked_at : Cutting → List Head → Statement → List X
  asked_at cut outer (do_loop head body) = ask (mark_of cut.marks head.number) (own_privates cut.privates head.number) outer head body
  asked_at cut outer (work w) = []
  asked_at cut outer (continue line) = []

  abbrev pub asked_of : Cutting → List StaticPhase → List X
  asked_of cut phases = flat_map (λ (s : StaticPhase). asked_at cut s.outer s.what) phases

  abbrev pub asks_in : Cutting → List Head → Statement → List X
  asks_in cut outer s = asked_of cut (phases_in (enters_outer cut.marks) outer s)

  abbrev pub asks : Cutting → List Head → Statements → List X
  asks cut outer ss = asked_of cut (phases_among (enters_outer cut.marks) outer ss)

  asks-next : (cut : Cutting) (outer : List Head) (s : Statement) (rest : Statements) → asks cut outer (next s rest) ≡ asks_in cut outer s ++ asks cut outer rest
  asks-next cut outer s rest = flat_map-append (λ (p : StaticPhase). asked_at cut p.outer p.what) (phases_in (enters_outer cut.marks) outer s) (phases_among (enters_outer cut.marks) outer rest)

  -- of a loop by its mark
  asks-closed : (cut : Cutting) (outer : List Head) (head : Head) (body : Statements) (m : Mark) → slice_get cut.marks (head.number - 1) ≡ Some m → is_closed m ≡ true → asks_in cut outer (do_loop head body) ≡ ask m (own_privates cut.privates head.number) outer head body
  asks-closed cut outer head body m here closed =
      let stops : enters_outer cut.marks head.number ≡ false = enters_at cut.marks head.number m here ∙ ap not closed in
      let phase : StaticPhase = record { what = do_loop head body; outer = outer } in
      ap (λ b. asked_of cut (if b then phases_among (enters_outer cut.marks) (outer ++ head ∷ []) body else phase ∷ [])) stops
      ∙ append-nil (asked_at cut outer (do_loop head body))
      ∙ ap (λ k. ask k (own_privates cut.privates head.number) outer head body) (mark_at cut.marks head.number m here)

  asks-open : (cut : Cutting) (outer : List Head) (head : Head) (body : Statements) → slice_get cut.marks (head.number - 1) ≡ Some Outer → asks_in cut outer (do_loop head body) ≡ asks cut (outer ++ head ∷ []) body
  asks-open cut outer head body here =
      let phase : StaticPhase = record { what = do_loop head body; outer = outer } in
      ap (λ b. asked_of cut (if b then phases_among (enters_outer cut.marks) (outer ++ head ∷ []) body else phase ∷ [])) (enters_at cut.marks head.number Outer here)

  -- of a loop that is dealt out by a try
  abbrev pub ask-by : Tried → List ℕ → List Head → Head → Statements → List X
  ask-by t vs outer head body = ask (tried_mark t) vs outer head body

  asks-dealt : (cut : Cutting) (dealt : ℕ → Option Tried) (owned : ℕ → List ℕ) (first : ℕ) (outer : List Head) (head : Head) (body : Statements) (t : Tried) → head.number ≡ first → HasIn cut dealt owned first (do_loop head body) → dealt head.number ≡ Some t → asks_in cut outer (do_loop head body) ≡ ask-by t (owned head.number) outer head body
  asks-dealt cut dealt owned first outer head body t number has is =
      let marks = subst (λ o. StandsAt cut.marks first (marks_by o (have_free dealt body) body (marks_of dealt body))) is has.marks in
      let privates = subst (λ o. StandsAt cut.privates first (privates_by o (owned head.number) body (privates_of dealt owned body))) is has.privates in
      let here = ap (λ n. slice_get cut.marks (n - 1)) number ∙ one_stands cut.marks first (tried_mark t) (inner_of body) marks in
      let own = ap (λ n. slice_get cut.privates (n - 1)) number ∙ one_stands cut.privates first (owned head.number) (none_of body) privates in
      asks-closed cut outer head body (tried_mark t) here (tried-closed t) ∙ ap (λ vs. ask (tried_mark t) vs outer head body) (get_or_from_slice_get cut.privates (head.number - 1) (owned head.number) [] own)

  -- where no loop is dealt out nothing is asked
  module _ (cut : Cutting) (dealt : ℕ → Option Tried) (owned : ℕ → List ℕ) where
    mutual
      nothing_in : (scope : Scope) (around : List ℕ) (first : ℕ) (outer : List Head) (s : Statement) → is_good_statement scope around first s ≡ true → NoneFrom dealt first (loops_in s) → HasIn cut dealt owned first s → asks_in cut outer s ≡ []
      nothing_in scope around first outer (do_loop head body) good none has =
          let l = loop_at scope around first head body good in
          let no = none head.number (omega (arith, l.number)) (omega (arith, l.number)) in
          let free = free-none dealt scope (head.number ∷ around) (first + 1) body l.inside (λ k from to. none k (omega (arith, from)) (omega (arith, to))) in
          let marks = subst (λ o. StandsAt cut.marks first (marks_by o (have_free dealt body) body (marks_of dealt body))) no has.marks in
          let single = subst (λ b. StandsAt cut.marks first (marks_by None b body (marks_of dealt body))) free marks in
          let here = ap (λ n. slice_get cut.marks (n - 1)) l.number ∙ one_stands cut.marks first Single (inner_of body) single in
          let privates = subst (λ o. StandsAt cut.privates first (privates_by o (owned head.number) body (privates_of dealt owned body))) no has.privates in
          let own = get_or_from_slice_get cut.privates (head.number - 1) [] [] (ap (λ n. slice_get cut.privates (n - 1)) l.number ∙ one_stands cut.privates first [] (privates_of dealt owned body) privates) in
          asks-closed cut outer head body Single here refl ∙ ap (λ vs. ask Single vs outer head body) own ∙ nothing Single outer head body refl
      nothing_in scope around first outer (work w) good none has = refl
      nothing_in scope around first outer (continue line) good none has = refl

      nothing_of : (scope : Scope) (around : List ℕ) (first : ℕ) (outer : List Head) (ss : Statements) → are_good_statements scope around first ss ≡ true → NoneFrom dealt first (loops_of ss) → HasOf cut dealt owned first ss → asks cut outer ss ≡ []
      nothing_of scope around first outer done good none has = refl
      nothing_of scope around first outer (next s rest) good none has =
          let parts = and_parts (is_good_statement scope around first s) _ good in
          asks-next cut outer s rest
          ∙ ap₂ (λ xs ys. xs ++ ys) (nothing_in scope around first outer s parts.0 (λ k from to. none k from (omega (arith, to))) (has-first cut dealt owned first s rest has))
          (nothing_of scope around (first + loops_in s) outer rest parts.1 (λ k from to. none k (omega (arith, from)) (omega (arith, to))) (has-rest cut dealt owned first s rest has))

  -- what is asked of a text where one loop of it is dealt out is asked of the part that has this loop
  module _ (cut : Cutting) (dealt : ℕ → Option Tried) (owned : ℕ → List ℕ) (n : ℕ) (t : Tried) (whole : List X) where
    record AloneIn (first : ℕ) (outer : List Head) (s : Statement) : Type 0 where
      has : HasIn cut dealt owned first s
      is : whole ≡ asks_in cut outer s

    record AloneOf (first : ℕ) (outer : List Head) (ss : Statements) : Type 0 where
      has : HasOf cut dealt owned first ss
      is : whole ≡ asks cut outer ss

    module _ (only : IsOnly dealt n t) (scope : Scope) (around : List ℕ) (first : ℕ) (outer : List Head) (from : 1 ≤ first) where
      alone-first : (s : Statement) (rest : Statements) → are_good_statements scope around first (next s rest) ≡ true → n < first + loops_in s → AloneOf first outer (next s rest) → AloneIn first outer s
      alone-first s rest good to h =
          let parts = and_parts (is_good_statement scope around first s) _ good in
          let none = nothing_of cut dealt owned scope around (first + loops_in s) outer rest parts.1 (λ k low high. only.others k (omega (arith, low, from)) (λ e. omega (arith, e, low, to))) (has-rest cut dealt owned first s rest h.has) in
          record { has = has-first cut dealt owned first s rest h.has; is = h.is ∙ asks-next cut outer s rest ∙ ap (λ ys. asks_in cut outer s ++ ys) none ∙ append-nil (asks_in cut outer s) }

      alone-rest : (s : Statement) (rest : Statements) → are_good_statements scope around first (next s rest) ≡ true → first + loops_in s ≤ n → AloneOf first outer (next s rest) → AloneOf (first + loops_in s) outer rest
      alone-rest s rest good past h =
          let parts = and_parts (is_good_statement scope around first s) _ good in
          let none = nothing_in cut dealt owned scope around first outer s parts.0 (λ k low high. only.others k (omega (arith, low, from)) (λ e. omega (arith, e, high, past))) (has-first cut dealt owned first s rest h.has) in
          record { has = has-rest cut dealt owned first s rest h.has; is = h.is ∙ asks-next cut outer s rest ∙ ap (λ xs. xs ++ asks cut outer rest) none }

      alone-inside : (head : Head) (body : Statements) → is_good_statement scope around first (do_loop head body) ≡ true → first + 1 ≤ n → n < first + 1 + loops_of body → AloneIn first outer (do_loop head body) → AloneOf (first + 1) (outer ++ head ∷ []) body
      alone-inside head body good low high h =
          let l = loop_at scope around first head body good in
          let no = only.others head.number (omega (arith, l.number, from)) (λ e. omega (arith, e, l.number, low)) in
          let free = free-some dealt scope (head.number ∷ around) (first + 1) n t body l.inside only.is low high in
          let marks = subst (λ o. StandsAt cut.marks first (marks_by o (have_free dealt body) body (marks_of dealt body))) no h.has.marks in
          let opened = subst (λ b. StandsAt cut.marks first (marks_by None b body (marks_of dealt body))) free marks in
          let privates = subst (λ o. StandsAt cut.privates first (privates_by o (owned head.number) body (privates_of dealt owned body))) no h.has.privates in
          let here = ap (λ k. slice_get cut.marks (k - 1)) l.number ∙ one_stands cut.marks first Outer (marks_of dealt body) opened in
          record {
            has = record { marks = more_stand cut.marks first Outer (marks_of dealt body) opened; privates = more_stand cut.privates first [] (privates_of dealt owned body) privates };
            is = h.is ∙ asks-open cut outer head body here;
          }

      alone-here : (head : Head) (body : Statements) → head.number ≡ first → n ≡ first → AloneIn first outer (do_loop head body) → whole ≡ ask-by t (owned head.number) outer head body
      alone-here head body number same h =
          let at : dealt head.number ≡ Some t = ap dealt (number ∙ sym same) ∙ only.is in
          h.is ∙ asks-dealt cut dealt owned first outer head body t number h.has at

  -- what is asked of each loop where it alone is dealt out by a try
  module _ (cuts : ℕ → Tried → Cutting) (alone : ℕ → Tried → ℕ → Option Tried) (only : (n : ℕ) (t : Tried) → 1 ≤ n → IsOnly (alone n t) n t) (whole : ℕ → Tried → List X) (cut : Cutting) (dealt : ℕ → Option Tried) (owns : ℕ → ℕ → List ℕ) (owned : ℕ → List ℕ) (mine : (n : ℕ) → 1 ≤ n → owns n n ≡ owned n) where
    abbrev pub whole-by : ℕ → Option Tried → List X
    whole-by n None = []
    whole-by n (Some t) = whole n t

    abbrev pub laid-one : ℕ → Mark → List X
    laid-one n m = if is_doall m then whole-by n (dealt n) else []

    -- of those with these marks that are dealt out, one behind another
    abbrev pub laid_from : ℕ → List Mark → List X
    laid_from n marks = by_number laid-one n marks

    mutual
      laid-inner_in : (n : ℕ) (s : Statement) → laid_from n (inner_in s) ≡ []
      laid-inner_in n (do_loop head body) = laid-inner (suc n) body
      laid-inner_in n (work w) = refl
      laid-inner_in n (continue line) = refl

      laid-inner : (n : ℕ) (ss : Statements) → laid_from n (inner_of ss) ≡ []
      laid-inner n done = refl
      laid-inner n (next s rest) = by_number-append laid-one n (inner_in s) (inner_of rest) ∙ ap₂ (λ xs ys. xs ++ ys) (laid-inner_in n s) (laid-inner (n + length (inner_in s)) rest)

    abbrev AllIn : ℕ → List Head → Statement → Type 0
    AllIn first outer s = (n : ℕ) (t : Tried) → first ≤ n → n < first + loops_in s → AloneIn (cuts n t) (alone n t) (owns n) n t (whole n t) first outer s

    abbrev AllOf : ℕ → List Head → Statements → Type 0
    AllOf first outer ss = (n : ℕ) (t : Tried) → first ≤ n → n < first + loops_of ss → AloneOf (cuts n t) (alone n t) (owns n) n t (whole n t) first outer ss

    mutual
      laid_in : (scope : Scope) (around : List ℕ) (first : ℕ) (outer : List Head) (s : Statement) → is_good_statement scope around first s ≡ true → 1 ≤ first → HasIn cut dealt owned first s → AllIn first outer s → asks_in cut outer s ≡ laid_from first (marks_in dealt s)
      laid_in scope around first outer (do_loop head body) good from has all =
          by (dealt head.number) (have_free dealt body) refl refl (λ has' all'. laid_of scope (head.number ∷ around) (first + 1) (outer ++ head ∷ []) body (loop_at scope around first head body good).inside (omega arith) has' all')
        where
          l : IsLoopAt scope around first head body
          l = loop_at scope around first head body good

          marks : (o : Option Tried) (b : Bool) → dealt head.number ≡ o → have_free dealt body ≡ b → StandsAt cut.marks first (marks_by o b body (marks_of dealt body))
          marks o b is free = subst (λ c. StandsAt cut.marks first (marks_by o c body (marks_of dealt body))) free (subst (λ p. StandsAt cut.marks first (marks_by p (have_free dealt body) body (marks_of dealt body))) is has.marks)

          by : (o : Option Tried) (b : Bool) → dealt head.number ≡ o → have_free dealt body ≡ b → (HasOf cut dealt owned (first + 1) body → AllOf (first + 1) (outer ++ head ∷ []) body → asks cut (outer ++ head ∷ []) body ≡ laid_from (first + 1) (marks_of dealt body)) →
              asks_in cut outer (do_loop head body) ≡ laid_from first (marks_by o b body (marks_of dealt body))
          by (Some t) b is free later =
              let alone_is = alone-here (cuts first t) (alone first t) (owns first) first t (whole first t) (only first t from) scope around first outer from head body l.number refl (all first t (omega arith) (omega arith)) in
              let here : dealt first ≡ Some t = ap dealt (sym l.number) ∙ is in
              let same : owned head.number ≡ owns first head.number = ap owned l.number ∙ sym (mine first from) ∙ ap (owns first) (sym l.number) in
              asks-dealt cut dealt owned first outer head body t l.number has is ∙ ap (λ vs. ask-by t vs outer head body) same ∙ sym alone_is ∙ sym (append-nil (whole first t))
              ∙ sym (ap₂ (λ xs ys. xs ++ ys) (ap (λ d. if d then whole-by first (dealt first) else []) (tried_dealt t) ∙ ap (whole-by first) here) (laid-inner (suc first) body))
          by None true is free later =
              let opened = marks None true is free in
              let here = ap (λ k. slice_get cut.marks (k - 1)) l.number ∙ one_stands cut.marks first Outer (marks_of dealt body) opened in
              let privates = subst (λ o. StandsAt cut.privates first (privates_by o (owned head.number) body (privates_of dealt owned body))) is has.privates in
              let inside = later (record { marks = more_stand cut.marks first Outer (marks_of dealt body) opened; privates = more_stand cut.privates first [] (privates_of dealt owned body) privates })
              (λ n t low high. alone-inside (cuts n t) (alone n t) (owns n) n t (whole n t) (only n t (omega (arith, low))) scope around first outer from head body good low high (all n t (omega (arith, low)) (omega (arith, high)))) in
              let e : first + 1 ≡ suc first = omega arith in
              asks-open cut outer head body here ∙ inside ∙ ap (λ k. laid_from k (marks_of dealt body)) e
          by None false is free later =
              let single = marks None false is free in
              let here = ap (λ k. slice_get cut.marks (k - 1)) l.number ∙ one_stands cut.marks first Single (inner_of body) single in
              let privates = subst (λ o. StandsAt cut.privates first (privates_by o (owned head.number) body (privates_of dealt owned body))) is has.privates in
              let own = get_or_from_slice_get cut.privates (head.number - 1) [] [] (ap (λ k. slice_get cut.privates (k - 1)) l.number ∙ one_stands cut.privates first [] (privates_of dealt owned body) privates) in
              asks-closed cut outer head body Single here refl ∙ ap (λ vs. ask Single vs outer head body) own ∙ nothing Single outer head body refl ∙ sym (laid-inner (suc first) body)
      laid_in scope around first outer (work w) good from has all = refl
      laid_in scope around first outer (continue line) good from has all = refl

      laid_of : (scope : Scope) (around : List ℕ) (first : ℕ) (outer : List Head) (ss : Statements) → are_good_statements scope around first ss ≡ true → 1 ≤ first → HasOf cut dealt owned first ss → AllOf first outer ss → asks cut outer ss ≡ laid_from first (marks_of dealt ss)
      laid_of scope around first outer done good from has all = refl
      laid_of scope around first outer (next s rest) good from has all =
          let parts = and_parts (is_good_statement scope around first s) _ good in
          let front = laid_in scope around first outer s parts.0 from (has-first cut dealt owned first s rest has)
          (λ n t low high. alone-first (cuts n t) (alone n t) (owns n) n t (whole n t) (only n t (omega (arith, from, low))) scope around first outer from s rest good high (all n t low (omega (arith, high)))) in
          let behind = laid_of scope around (first + loops_in s) outer rest parts.1 (omega (arith, from)) (has-rest cut dealt owned first s rest has)
          (λ n t low high. alone-rest (cuts n t) (alone n t) (owns n) n t (whole n t) (only n t (omega (arith, from, low))) scope around first outer from s rest good low (all n t (omega (arith, low)) (omega (arith, high)))) in
          let e : first + loops_in s ≡ first + length (marks_in dealt s) = omega (arith, marks_count_in dealt s) in
          asks-next cut outer s rest ∙ ap₂ (λ xs ys. xs ++ ys) front (behind ∙ ap (λ k. laid_from k (marks_of dealt rest)) e) ∙ sym (by_number-append laid-one first (marks_in dealt s) (marks_of dealt rest))

    -- of a whole text
    pub laid : (scope : Scope) (ss : Statements) → are_good_statements scope [] 1 ss ≡ true → cut ≡ record { marks = marks_of dealt ss; privates = privates_of dealt owned ss } →
        ((n : ℕ) (t : Tried) → cuts n t ≡ record { marks = marks_of (alone n t) ss; privates = privates_of (alone n t) (owns n) ss }) → ((n : ℕ) (t : Tried) → whole n t ≡ asks (cuts n t) [] ss) → asks cut [] ss ≡ laid_from 1 cut.marks
    laid scope ss good is are wholes =
        laid_of scope [] 1 [] ss good (omega arith) (has-all cut dealt owned ss is) (λ n t low high. record { has = has-all (cuts n t) (alone n t) (owns n) ss (are n t); is = wholes n t }) ∙ ap (laid_from 1) (sym (ap (λ (c : Cutting). c.marks) is))
