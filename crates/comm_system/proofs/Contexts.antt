-- What is known of a statement where a walk stands in front of it.
use Rattle.std.proofs.Common.{◌≡◌, ℕ, suc, ◌+◌, ◌-◌, ◌<◌, ◌≤◌, nat_le, nat_lt, ℤ, pos, ◌+ℤ◌, ◌*ℤ◌, ◌&&◌, ◌==◌, true, unsigned_abs, List, [], ◌∷◌, ◌++◌, length, refl, ap, sym, ◌∙◌, subst, arith}
use Rattle.std.specs.List.{AllByRecursion, list_all, list_any}
use Rattle.std.proofs.lemmas.Bool.{and_from, and_parts, le-leb}
use Rattle.std.proofs.lemmas.List.{get_or-set_same, length-replicate, length-set, map-append}
use Rattle.nest_tree.specs.Form.{form_value, is_small}
use Rattle.nest_tree.specs.Tree.{Head, Statement, Statements, do_loop, next, Tree, param_values}
use Rattle.nest_tree.specs.WellFormed.{IsWellFormed, Scope, are_good_statements, is_good_statement, loops_in, loops_of, names_only, scope_of}
use Rattle.nest_tree.proofs.Cells.{well_formed_parts}
use Rattle.nest_tree.proofs.Good.{AreWithin, good_loop}
use Rattle.nest_model.specs.Instances.{no_values, trip_count, with_loop}
use Rattle.nest_rows.specs.Nested.{AreTrips, IsTrip}
use Rattle.nest_rows.proofs.Dots.{numbers}
use Rattle.nest_rows.proofs.GoodNesting.{AreAmong, any-left, any-more, form-among}
use Rattle.nest_rows.proofs.GroupsMet.{is_head_among}
use Rattle.nest_rows.proofs.Nesting.{IsBefore, all-append, all-weaker, before-more, below-more, form-below, is_below, kept-form, trips-inside, within-more}
use Rattle.comm_system.proofs.Stations.{at_trip, trips_of}

-- in front of a statement: the loops round it are at trips of theirs and name those outside them alone, and it is good
pub record IsInFront (params : List ℤ) (scope : Scope) (heads : List Head) (ns : List ℕ) (loops : List ℤ) (number : ℕ) (s : Statement) : Type 0 where
  pub around : List ℕ
  pub good : is_good_statement scope around number s ≡ true
  pub low : 1 ≤ number
  pub count : number + loops_in s ≤ suc (length loops)
  pub within : AreWithin (number - 1) around
  pub among : AreAmong around (numbers heads)
  pub named : AllByRecursion (λ h. is_head_among scope.constants (numbers heads) h ≡ true) heads
  pub before : AllByRecursion (IsBefore number) heads
  pub trips : AreTrips params loops heads ns

-- the same of statements one behind another
pub record AreInFront (params : List ℤ) (scope : Scope) (heads : List Head) (ns : List ℕ) (loops : List ℤ) (number : ℕ) (ss : Statements) : Type 0 where
  pub around : List ℕ
  pub good : are_good_statements scope around number ss ≡ true
  pub low : 1 ≤ number
  pub count : number + loops_of ss ≤ suc (length loops)
  pub within : AreWithin (number - 1) around
  pub among : AreAmong around (numbers heads)
  pub named : AllByRecursion (λ h. is_head_among scope.constants (numbers heads) h ≡ true) heads
  pub before : AllByRecursion (IsBefore number) heads
  pub trips : AreTrips params loops heads ns

-- heads that name these loops name those
pub heads_further : (constants : ℕ) (these those : List ℕ) (hs : List Head) → AreAmong these those → AllByRecursion (λ h. is_head_among constants these h ≡ true) hs → AllByRecursion (λ h. is_head_among constants those h ≡ true) hs
heads_further constants these those [] among all = tt
heads_further constants these those (h ∷ hs) among all =
    let moves = nat_lt 0 (unsigned_abs h.step) in
    let last = and_parts (names_only constants these h.m1 && names_only constants these h.m2) moves all.0 in
    let two = and_parts (names_only constants these h.m1) (names_only constants these h.m2) last.0 in (
      and_from (names_only constants those h.m1 && names_only constants those h.m2) moves
          (and_from (names_only constants those h.m1) (names_only constants those h.m2) (form-among constants these those h.m1 among two.0) (form-among constants these those h.m2 among two.1)) last.1,
      heads_further constants these those hs among all.1,
    )

module _ (params : List ℤ) (scope : Scope) (heads : List Head) (ns : List ℕ) (loops : List ℤ) (number : ℕ) where
  pub front : (s : Statement) (rest : Statements) → AreInFront params scope heads ns loops number (next s rest) → IsInFront params scope heads ns loops number s
  front s rest h =
      let both = and_parts (is_good_statement scope h.around number s) (are_good_statements scope h.around (number + loops_in s) rest) h.good in
      record { around = h.around; good = both.0; low = h.low; count = omega (arith, h.count); within = h.within; among = h.among; named = h.named; before = h.before; trips = h.trips }

  pub behind : (s : Statement) (rest : Statements) → AreInFront params scope heads ns loops number (next s rest) → AreInFront params scope heads ns loops (number + loops_in s) rest
  behind s rest h =
      let both = and_parts (is_good_statement scope h.around number s) (are_good_statements scope h.around (number + loops_in s) rest) h.good in
      record {
        around = h.around;
        good = both.1;
        low = omega (arith, h.low);
        count = omega (arith, h.count);
        within = within-more (number - 1) (number + loops_in s - 1) h.around (omega arith) h.within;
        among = h.among;
        named = h.named;
        before = all-weaker (IsBefore number) (IsBefore (number + loops_in s)) heads (λ g b. before-more number (number + loops_in s) g (omega arith) b) h.before;
        trips = h.trips;
      }

  pub loop_number : (head : Head) (body : Statements) → IsInFront params scope heads ns loops number (do_loop head body) → (head.number ≡ number) × (1 ≤ number) × (number ≤ length loops)
  loop_number head body h = let g = good_loop scope h.around number head body h.good in (g.number, h.low, omega (arith, h.count))

  -- at a trip of a loop
  pub entered : (head : Head) (body : Statements) (n : ℕ) → IsInFront params scope heads ns loops number (do_loop head body) → n < trips_of params head loops → AreInFront params scope (heads ++ head ∷ []) (ns ++ n ∷ []) (at_trip params head loops n) (number + 1) body
  entered head body n h lt =
      let g = good_loop scope h.around number head body h.good in
      let d = and_parts _ (is_small head.step) g.bounds in
      let e = and_parts _ (nat_lt 0 (unsigned_abs head.step)) d.0 in
      let f = and_parts (names_only scope.constants h.around head.m1) (names_only scope.constants h.around head.m2) e.0 in
      let below1 = form-below scope.constants number h.around head.m1 h.low h.within f.0 in
      let below2 = form-below scope.constants number h.around head.m2 h.low h.within f.1 in
      let here : IsBefore (number + 1) head = record {
        low = omega (arith, g.number, h.low);
        high = omega (arith, g.number);
        m1 = below-more number (number + 1) head.m1.loops (omega arith) below1;
        m2 = below-more number (number + 1) head.m2.loops (omega arith) below2;
      } in
      let longer : numbers (heads ++ head ∷ []) ≡ numbers heads ++ head.number ∷ [] = map-append (λ (x : Head). x.number) heads (head ∷ []) in
      let more : AreAmong (numbers heads) (numbers (heads ++ head ∷ [])) = λ n k. ap (list_any (λ l. l == n)) longer ∙ any-left (numbers heads) (head.number ∷ []) n k in
      let inner = and_from (nat_le head.number (number + 1 - 1)) (list_all (λ l. nat_le l (number + 1 - 1)) h.around) (le-leb head.number (number + 1 - 1) (omega (arith, g.number))) (within-more (number - 1) (number + 1 - 1) h.around (omega arith) h.within) in
      let m1 = form_value head.m1 loops params in
      let m2 = form_value head.m2 loops params in
      let v = m1 +ℤ (pos n *ℤ head.step) in
      let now = with_loop loops head.number v in
      let same1 = kept-form loops params head.number v head.m1 (subst (λ k. is_below k head.m1 ≡ true) (sym g.number) below1) in
      let same2 = kept-form loops params head.number v head.m2 (subst (λ k. is_below k head.m2 ≡ true) (sym g.number) below2) in
      let short : head.number - 1 < length loops = omega (arith, g.number, h.low, h.count) in
      let at : IsTrip params now head n = record {
        value = get_or-set_same loops (head.number - 1) v (pos 0) short ∙ ap (λ z. z +ℤ (pos n *ℤ head.step)) (sym same1);
        within = subst (λ z. n < trip_count z (form_value head.m2 now params) head.step) (sym same1) (subst (λ z. n < trip_count m1 z head.step) (sym same2) lt);
      } in
      let earlier = all-weaker (IsBefore number) (IsBefore head.number) heads (λ x b. before-more number head.number x (omega (arith, g.number)) b) h.before in
      record {
        around = head.number ∷ h.around;
        good = g.inside;
        low = omega arith;
        count = omega (arith, h.count, length-set loops (head.number - 1) v);
        within = inner;
        among = λ n k. ap (list_any (λ l. l == n)) longer ∙ any-more h.around (numbers heads) head.number h.among n k;
        named = all-append (λ x. is_head_among scope.constants (numbers (heads ++ head ∷ [])) x ≡ true) heads (head ∷ []) (heads_further scope.constants (numbers heads) (numbers (heads ++ head ∷ [])) heads more h.named)
            (heads_further scope.constants h.around (numbers (heads ++ head ∷ [])) (head ∷ []) (λ n k. more n (h.among n k)) (d.0, tt));
        before = all-append (IsBefore (number + 1)) heads (head ∷ []) (all-weaker (IsBefore number) (IsBefore (number + 1)) heads (λ x b. before-more number (number + 1) x (omega arith) b) h.before) (here, tt);
        trips = trips-inside params loops head.number v heads ns head n earlier h.trips at;
      }

-- in front of a program's first statement
pub at_first : (tree : Tree) → IsWellFormed tree → AreInFront (param_values tree) (scope_of tree) [] [] (no_values tree) 1 tree.items
at_first tree formed = record {
  around = [];
  good = (well_formed_parts tree formed).statements;
  low = omega arith;
  count = omega (arith, length-replicate (loops_of tree.items) (pos 0));
  within = refl;
  among = λ n k. k;
  named = tt;
  before = tt;
  trips = tt;
}
