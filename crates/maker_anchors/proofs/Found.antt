-- The anchors that are looked for.
use Rattle.std.proofs.Common.{◌≡◌, ℕ, zero, suc, ◌+◌, ◌<◌, ◌==◌, ℤ, Bool, true, false, List, [], ◌∷◌, ◌++◌, drop, length, map, get_or, Option, Some, None, if◌then◌else◌, refl, ap, sym, ◌∙◌, subst}
use Rattle.std.specs.Prelude.{◌≢◌, slice_get}
use Rattle.std.specs.List.{list_any}
use Rattle.std.specs.Option.{option_or}
use Rattle.nest_tree.specs.declared.tree.Access.{Access}
use Rattle.std.proofs.lemmas.List.{at_drop_more}
use Rattle.nest_tree.specs.declared.tree.Expr.{Expr}
use Rattle.nest_tree.specs.Loads.{loads_among, loads_in}
use Rattle.nest_tree.specs.Tree.{Assignment, Statement, Statements, assign, continue, do_loop, done, next, print, work, Tree}
use Rattle.nest_tree.specs.View.{expression_of, expressions_from}
use Rattle.nest_tree.proofs.Wide.{option_or-assoc}
use Rattle.owner_partition.specs.declared.anchor.Anchor.{Anchor}
use Rattle.owner_partition.specs.declared.cut.Mark.{Mark}
use Rattle.sync_plan.specs.Shape.{is_good_anchor, is_sum_mark, mark_of}
use Rattle.maker_anchors.specs.Anchors.{anchor_sought, element_anchor, first_among, first_found, first_of, if_one_good, if_one_names, loaded_anchor, own_anchor, stored_anchor, summed_anchor}

pub mapped_get : {X Y : Type 0} (f : X → Y) (xs : List X) (k : ℕ) (o : Option X) → o ≡ slice_get xs k → (x : X) → o ≡ Some x → slice_get (map f xs) k ≡ Some (f x)
mapped_get f [] k o is x e = absurd (let no : None ≡ Some x = sym is ∙ e in cc)
mapped_get f (y ∷ xs) zero o is x e = let same : y ≡ x = cc in ap (λ z. Some (f z)) same
mapped_get f (y ∷ xs) (suc k) o is x e = mapped_get f xs k o is x e

pub mapped_none : {X Y : Type 0} (f : X → Y) (xs : List X) (k : ℕ) → None ≡ slice_get xs k → slice_get (map f xs) k ≡ None
mapped_none f [] k e = refl
mapped_none f (y ∷ xs) zero e = absurd (cc)
mapped_none f (y ∷ xs) (suc k) e = mapped_none f xs k e

pub if_good_good : (constants : ℕ) (loops : List ℕ) (o : Option Anchor) (a : Anchor) → if_one_good constants loops o ≡ Some a → is_good_anchor constants loops a ≡ true
if_good_good constants loops None a e = absurd (cc)
if_good_good constants loops (Some b) a e = by (is_good_anchor constants loops b) refl
  where
    by : (t : Bool) → is_good_anchor constants loops b ≡ t → is_good_anchor constants loops a ≡ true
    by true h =
        let at : Some b ≡ Some a = sym (ap (λ t. if t then Some b else None) h) ∙ e in
        let same : b ≡ a = cc in
        subst (λ x. is_good_anchor constants loops x ≡ true) same h
    by false h = absurd (let no : None ≡ Some a = sym (ap (λ t. if t then Some b else None) h) ∙ e in cc)

pub either : (P : Anchor → Type 0) (x y : Option Anchor) (a : Anchor) → ((b : Anchor) → x ≡ Some b → P b) → ((b : Anchor) → y ≡ Some b → P b) → option_or x y ≡ Some a → P a
either P None y a h k e = k a e
either P (Some b) y a h k e = h a e

if_some : (b : Bool) (x : Option Anchor) (a : Anchor) → (if b then x else None) ≡ Some a → x ≡ Some a
if_some true x a e = e
if_some false x a e = absurd (cc)

-- one that names a loop is the one that was there
names_some : (n : ℕ) (o : Option Anchor) (a : Anchor) → if_one_names n o ≡ Some a → o ≡ Some a
names_some n None a e = absurd (cc)
names_some n (Some b) a e = if_some (list_any (λ (p : ℕ × ℤ). p.0 == n) b.form.loops) (Some b) a e

pub first_append : (f : Access → Option Anchor) (xs ys : List Access) → first_of f (xs ++ ys) ≡ option_or (first_of f xs) (first_of f ys)
first_append f [] ys = refl
first_append f (x ∷ xs) ys = ap (option_or (f x)) (first_append f xs ys) ∙ sym (option_or-assoc (f x) (first_of f xs) (first_of f ys))

pub none_is : (o : Option Anchor) → ((a : Anchor) → o ≢ Some a) → o ≡ None
none_is None other = refl
none_is (Some a) other = absurd (other a refl)

-- of one argument and those behind it
pub first_next : (f : Access → Option Anchor) (es : List Expr) (i : ℕ) (e : Expr) → i < length es → e ≡ get_or es i e →
    first_of f (loads_among (expressions_from (drop i es))) ≡ option_or (first_of f (loads_in (expression_of e))) (first_of f (loads_among (expressions_from (drop (i + 1) es))))
first_next f es i e lt is =
    let rest = drop (i + 1) es in
    at_drop_more (λ xs. first_of f (loads_among (expressions_from xs))) es i e lt ∙ ap (λ x. first_of f (loads_among (expressions_from (x ∷ rest)))) (sym is)
    ∙ first_append f (loads_in (expression_of e)) (loads_among (expressions_from rest))

module _ (P : Anchor → Type 0) where
  of_good : (f : Access → Option Anchor) → ((x : Access) (a : Anchor) → f x ≡ Some a → P a) → (xs : List Access) (a : Anchor) → first_of f xs ≡ Some a → P a
  of_good f all [] a e = absurd (cc)
  of_good f all (x ∷ xs) a e = either P (f x) (first_of f xs) a (all x) (of_good f all xs) e

  module _ (f : Assignment → Option Anchor) (all : (x : Assignment) (a : Anchor) → f x ≡ Some a → P a) where
    mutual
      first_good : (s : Statement) (a : Anchor) → first_found f s ≡ Some a → P a
      first_good (do_loop head body) a e = among_good body a e
      first_good (work (assign x)) a e = all x a e
      first_good (work (print p)) a e = absurd (cc)
      first_good (continue line) a e = absurd (cc)

      among_good : (ss : Statements) (a : Anchor) → first_among f ss ≡ Some a → P a
      among_good done a e = absurd (cc)
      among_good (next s rest) a e = either P (first_found f s) (first_among f rest) a (first_good s) (among_good rest) e

  module _ (f : Access → Option Anchor) (all : (x : Access) (a : Anchor) → f x ≡ Some a → P a) where
    stored_good : (s : Statement) (a : Anchor) → stored_anchor f s ≡ Some a → P a
    stored_good s a e = first_good (λ (x : Assignment). f x.target) (λ x. all x.target) s a e

    loaded_good : (s : Statement) (a : Anchor) → loaded_anchor f s ≡ Some a → P a
    loaded_good s a e = first_good (λ (x : Assignment). first_of f (loads_in x.value)) (λ x. of_good f all (loads_in x.value)) s a e

  summed_good : (marks : List Mark) (f : Access → Option Anchor) → ((x : Access) (a : Anchor) → f x ≡ Some a → P a) → (s : Statement) (a : Anchor) → summed_anchor marks f s ≡ Some a → P a
  summed_good marks f all (do_loop head body) a e =
      let g : Access → Option Anchor = λ x. if_one_names head.number (f x) in
      loaded_good g (λ x b h. all x b (names_some head.number (f x) b h)) (do_loop head body) a
      (if_some (is_sum_mark (mark_of marks head.number)) (loaded_anchor g (do_loop head body)) a e)
  summed_good marks f all (work w) a e = absurd (cc)
  summed_good marks f all (continue line) a e = absurd (cc)

-- one that is sought is good
pub sought_good : (tree : Tree) (marks : List Mark) (workers u : ℕ) (loops : List ℕ) (what : Statement) (a : Anchor) → anchor_sought tree marks workers u loops what ≡ Some a → is_good_anchor (length tree.params) loops a ≡ true
sought_good tree marks workers u loops what a e =
    let P : Anchor → Type 0 = λ b. is_good_anchor (length tree.params) loops b ≡ true in
    let good : Option Anchor → Option Anchor = if_one_good (length tree.params) loops in
    let f : Access → Option Anchor = λ x. good (element_anchor tree workers x) in
    let all : (x : Access) (b : Anchor) → f x ≡ Some b → P b = λ x b h. if_good_good (length tree.params) loops (element_anchor tree workers x) b h in
    let own = good (own_anchor tree marks workers u what) in
    either P (stored_anchor f what) (option_or (summed_anchor marks f what) own) a (stored_good P f all what)
    (λ b h. either P (summed_anchor marks f what) own b (summed_good P marks f all what) (λ c k. if_good_good (length tree.params) loops (own_anchor tree marks workers u what) c k) h) e
