-- Things that are written one behind another.
use Rattle.std.proofs.Common.{◌≡◌, ℕ, ◌+◌, ◌<◌, ◌≤◌, ◌==◌, ◌&&◌, ℤ, true, false, Bool, List, [], ◌∷◌, ◌++◌, codes, length, get_or, map, take, refl, ap, sym, ◌∙◌, subst, append_assoc, append-nil}
use Rattle.std.specs.Fmt.{decimal}
use Rattle.std.specs.List.{flat_map}
use Rattle.std.proofs.lemmas.List.{take_more, take_all}
use Rattle.std.proofs.lemmas.List.Folds.{list_all-append}
use Rattle.list_lemmas.proofs.Appending.{append_two}
use Rattle.nest_tree.specs.Tree.{Expression, Tree}
use Rattle.nest_tree.specs.View.{printed_of, statement_of, statements_from}
use Rattle.nest_tree.specs.declared.tree.Access.{Access}
use Rattle.nest_tree.specs.declared.tree.Guard.{Guard}
use Rattle.nest_tree.specs.declared.tree.Item.{Item}
use Rattle.nest_tree.specs.declared.tree.PrintItem.{PrintItem}
use Rattle.c_expressions.specs.Sums.{AppendsNumber, Values}
use Rattle.c_expressions.specs.Told.{AppendsAccess, AppendsComparison, AppendsValue}
use Rattle.c_expressions.specs.declared.place.Place.TheVariants.{Sum}
use Rattle.c_statements.specs.Layout.{CountText, item_text, statement_text, statements_text}
use Rattle.c_statements.specs.Pieces.{IsCell, IsComparison, IsNumber, IsValue}
use Rattle.c_statements.specs.Texts.{Written, chosen, code, each_of, indent, nothing, ◌⨾◌}

pub joined : {P Q : List ℕ → Type 0} {old m new : List ℕ} → Written P old m → Written Q m new → Written (P ⨾ Q) old new
joined {P = P} {Q = Q} {old = old} {m = m} {new = new} x y = record {
  text = x.text ++ y.text;
  appended = y.appended ∙ ap (λ z. z ++ y.text) x.appended ∙ regroup old x.text y.text;
  is = record { front = x.text; behind = y.text; is = refl; first = x.is; second = y.is };
}
  where
    regroup : (a b c : List ℕ) → (a ++ b) ++ c ≡ a ++ (b ++ c)
    regroup a b c = simp append_assoc

pub exactly : (bytes : List ℕ) {old new : List ℕ} → new ≡ old ++ bytes → Written (code bytes) old new
exactly bytes e = record { text = bytes; appended = e; is = refl }

pub unchanged : (old : List ℕ) → Written nothing old old
unchanged old = record { text = []; appended = sym (append-nil old); is = refl }

pub as_well : {P Q : List ℕ → Type 0} {old new : List ℕ} → ((text : List ℕ) → P text → Q text) → Written P old new → Written Q old new
as_well h x = record { text = x.text; appended = x.appended; is = h x.text x.is }

pub chosen_true : {P : List ℕ → Type 0} {old new : List ℕ} (Q : List ℕ → Type 0) (b : Bool) → b ≡ true → Written P old new → Written (chosen b P Q) old new
chosen_true {P = P} {old = old} {new = new} Q b e x = subst (λ c. Written (chosen c P Q) old new) (sym e) x

pub chosen_false : {Q : List ℕ → Type 0} {old new : List ℕ} (P : List ℕ → Type 0) (b : Bool) → b ≡ false → Written Q old new → Written (chosen b P Q) old new
chosen_false {Q = Q} {old = old} {new = new} P b e x = subst (λ c. Written (chosen c P Q) old new) (sym e) x

pub three : (old m n new a b c : List ℕ) → m ≡ old ++ a → n ≡ m ++ b → new ≡ n ++ c → new ≡ old ++ (a ++ (b ++ c))
three old m n new a b c e f g = append_two old m new a (b ++ c) e (append_two m n new b c f g)

pub four : (old m n o new a b c d : List ℕ) → m ≡ old ++ a → n ≡ m ++ b → o ≡ n ++ c → new ≡ o ++ d → new ≡ old ++ (a ++ (b ++ (c ++ d)))
four old m n o new a b c d e f g h = append_two old m new a (b ++ (c ++ d)) e (three m n o new b c d f g h)

-- what is written for each of a list
pub flat_more : (f : ℕ → List ℕ) (xs : List ℕ) (i d : ℕ) → i < length xs → flat_map f (take (i + 1) xs) ≡ flat_map f (take i xs) ++ f (get_or xs i d)
flat_more f xs i d lt = ap (flat_map f) (take_more xs i d lt) ∙ pushed (take i xs) (get_or xs i d)
  where
    regroup : (a b c : List ℕ) → a ++ (b ++ c) ≡ (a ++ b) ++ c
    regroup a b c = simp append_assoc

    pushed : (ys : List ℕ) (y : ℕ) → flat_map f (ys ++ y ∷ []) ≡ flat_map f ys ++ f y
    pushed [] y = append-nil (f y)
    pushed (x ∷ ys) y = ap (λ z. f x ++ z) (pushed ys y) ∙ regroup (f x) (flat_map f ys) (f y)

-- ---- expressions

pub number_written : {all : Values → ℤ} {old new : List ℕ} → AppendsNumber old new all → Written (IsNumber all) old new
number_written x = record { text = x.appends.text; appended = x.appends.appended; is = record { expression = x.expression; reads = x.appends.reads; comes = x.comes } }

pub value_written : {tree : Tree} {privates : List ℕ} {e : Expression} {old new : List ℕ} → AppendsValue tree privates e Sum old new → Written (IsValue tree privates e) old new
value_written x = record { text = x.appends.text; appended = x.appends.appended; is = record { expression = x.expression; reads = x.appends.reads; says = x.says } }

pub cell_written : {tree : Tree} {privates : List ℕ} {access : Access} {old new : List ℕ} → AppendsAccess tree privates access old new → Written (IsCell tree privates access) old new
cell_written x = record { text = x.appends.text; appended = x.appends.appended; is = record { expression = x.expression; reads = x.appends.reads; says = x.says } }

pub comparison_written : {tree : Tree} {guard : Guard} {old new : List ℕ} → AppendsComparison tree guard old new → Written (IsComparison tree guard) old new
comparison_written x = record { text = x.text; appended = x.appended; is = record { left = x.left; right = x.right; compares = x.compares; left_comes = x.left_comes; right_comes = x.right_comes } }

pub counted : (n : ℕ) {old new : List ℕ} → new ≡ old ++ decimal n → Written CountText old new
counted n e = record { text = decimal n; appended = e; is = (n, refl) }

-- ---- blanks and lines

pub indent_more : (old m new : List ℕ) → Written indent old m → new ≡ m ++ codes "  " → Written indent old new
indent_more old m new x e = record {
  text = x.text ++ codes "  ";
  appended = e ∙ ap (λ z. z ++ codes "  ") x.appended ∙ regroup old x.text (codes "  ");
  is = list_all-append (λ b. b == 32) x.text (codes "  ") ∙ ap (λ b. b && true) x.is;
}
  where
    regroup : (a b c : List ℕ) → (a ++ b) ++ c ≡ a ++ (b ++ c)
    regroup a b c = simp append_assoc

pub no_indent : (old : List ℕ) → Written indent old old
no_indent old = record { text = []; appended = sym (append-nil old); is = refl }

pub line_written : (bytes : List ℕ) {old m n new : List ℕ} → Written indent old m → n ≡ m ++ bytes → new ≡ n ++ codes "\n" → Written (indent ⨾ code (bytes ++ codes "\n")) old new
line_written bytes {m = m} {new = new} x e f = joined x (exactly (bytes ++ codes "\n") (f ∙ ap (λ z. z ++ codes "\n") e ∙ regroup m bytes (codes "\n")))
  where
    regroup : (a b c : List ℕ) → (a ++ b) ++ c ≡ a ++ (b ++ c)
    regroup a b c = simp append_assoc

-- ---- a thing for each of a list

module _ {A : Type 0} (f : A → List ℕ → Type 0) where
  each_append : (xs : List A) (x : A) (text more : List ℕ) → each_of f xs text → f x more → each_of f (xs ++ x ∷ []) (text ++ more)
  each_append [] x text more e h = record { front = more; behind = []; is = ap (λ z. z ++ more) e ∙ sym (append-nil more); first = h; second = refl }
  each_append (y ∷ xs) x text more both h = record {
    front = both.front;
    behind = both.behind ++ more;
    is = ap (λ z. z ++ more) both.is ∙ regroup both.front both.behind more;
    first = both.first;
    second = each_append xs x both.behind more both.second h;
  }
    where
      regroup : (a b c : List ℕ) → (a ++ b) ++ c ≡ a ++ (b ++ c)
      regroup a b c = simp append_assoc

  pub each_none : (old : List ℕ) → Written (each_of f []) old old
  each_none old = record { text = []; appended = sym (append-nil old); is = refl }

  pub each_next : (xs : List A) (i : ℕ) (d x : A) {old m new : List ℕ} → i < length xs → x ≡ get_or xs i d → Written (each_of f (take i xs)) old m → Written (f x) m new → Written (each_of f (take (i + 1) xs)) old new
  each_next xs i d x {old = old} {new = new} lt at so_far here =
      let more : take (i + 1) xs ≡ take i xs ++ x ∷ [] = take_more xs i d lt ∙ ap (λ y. take i xs ++ y ∷ []) (sym at) in
      subst (λ ys. Written (each_of f ys) old new) (sym more) (record {
        text = so_far.text ++ here.text;
        appended = here.appended ∙ ap (λ z. z ++ here.text) so_far.appended ∙ regroup old so_far.text here.text;
        is = each_append (take i xs) x so_far.text here.text so_far.is here.is;
      })
    where
      regroup : (a b c : List ℕ) → (a ++ b) ++ c ≡ a ++ (b ++ c)
      regroup a b c = simp append_assoc

  pub each_all : (xs : List A) (i : ℕ) {old new : List ℕ} → length xs ≤ i → Written (each_of f (take i xs)) old new → Written (each_of f xs) old new
  each_all xs i {old = old} {new = new} le x = subst (λ ys. Written (each_of f ys) old new) (take_all i xs le) x

-- ---- statements

module _ (tree : Tree) (privates sums : List ℕ) where
  pub items_are : (xs : List Item) (text : List ℕ) → each_of (λ item. statement_text tree privates sums (statement_of item)) xs text → statements_text tree privates sums (statements_from xs) text
  items_are [] text e = e
  items_are (x ∷ xs) text both = record { front = both.front; behind = both.behind; is = both.is; first = both.first; second = items_are xs both.behind both.second }

module _ (tree : Tree) (privates : List ℕ) where
  pub printed_are : (xs : List PrintItem) (text : List ℕ) → each_of (λ item. item_text tree privates (printed_of item)) xs text → each_of (item_text tree privates) (map printed_of xs) text
  printed_are [] text e = e
  printed_are (x ∷ xs) text both = record { front = both.front; behind = both.behind; is = both.is; first = both.first; second = printed_are xs both.behind both.second }
