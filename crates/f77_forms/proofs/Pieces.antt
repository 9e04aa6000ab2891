-- Pieces that are written are read.
use Rattle.std.proofs.Common.{◌≡◌, ℕ, Bool, true, false, List, [], ◌∷◌, ◌++◌, length, Option, Some, None, refl, sym, ap, subst, ◌∙◌, append_assoc, append-nil, if◌then◌else◌}
use Rattle.std.specs.Prelude.{◌==◌, ◌||◌, nat_lt}
use Rattle.std.specs.List.{list_all}
use borrow.Author.Tests.{eqb-true}
use Rattle.f77_forms.specs.Characters.{is_capital_or_digit, is_name, is_number}
use Rattle.f77_forms.specs.Form.{ExpressionForm, number, name, BoundForm, DeclaratorForm, value, constant}
use Rattle.f77_forms.specs.Text.{sum, is_expression, is_optional, is_bound, expression_text, lower_text, bound_text, bounds_text, behind_commas, doubled}
use Rattle.f77_forms.specs.Reading.{◌>>=◌, PendingForm, nothing, ItemForm, printed, declared, PieceForm, OpenerForm, pieces, bounds, LevelForm, bare, OperandForm, missing, word, whole, declarator, quoted, closed, sum_value, term_value, operand_value, word_value, combined, item_value, is_separator, opened, opener_at, open_step, bounds_behind, opener_behind, separate_step, enclosed, close_step, quote_step, symbol_step, plain_step, step_at, step, ended, finished, run, pieces_at}
use Rattle.f77_forms.proofs.Read.{and_parts, at, waits, is_plain, reads, name-read, plain-symbol, close-read, letters-read}
use Rattle.f77_forms.proofs.Written.{item_text, pieces_text}

-- ---- constants

-- a character of a constant, doubled where it is an apostrophe
character-read : (o : List LevelForm) (l : LevelForm) (cs : List ℕ) (c : ℕ) (rest : List ℕ) → run (at o l (quoted cs)) ((if c == 39 then 39 ∷ 39 ∷ rest else c ∷ rest)) ≡ run (at o l (quoted (cs ++ c ∷ []))) rest
unfolding run step step_at
character-read o l cs c rest = by_quote (c == 39) refl
  where
    by_quote : (b : Bool) → (c == 39) ≡ b → run (at o l (quoted cs)) (if c == 39 then 39 ∷ 39 ∷ rest else c ∷ rest) ≡ run (at o l (quoted (cs ++ c ∷ []))) rest
    by_quote true h = rw (eqb-true c 39 h) refl
    by_quote false h = rw h (ap (λ (b : Bool). run (at o l (if b then closed cs else quoted (cs ++ c ∷ []))) rest) h)

characters-read : (o : List LevelForm) (l : LevelForm) (front cs : List ℕ) (rest : List ℕ) → run (at o l (quoted front)) (doubled cs ++ rest) ≡ run (at o l (quoted (front ++ cs))) rest
characters-read o l front [] rest = ap (λ x. run (at o l (quoted x)) rest) (sym (append-nil front))
characters-read o l front (c ∷ cs) rest =
    ap (run (at o l (quoted front))) (next (c == 39)) ∙ character-read o l front c (doubled cs ++ rest) ∙ characters-read o l (front ++ c ∷ []) cs rest ∙ ap (λ x. run (at o l (quoted x)) rest) (append_assoc front (c ∷ []) cs)
  where
    next : (b : Bool) → (if b then 39 ∷ 39 ∷ doubled cs else c ∷ doubled cs) ++ rest ≡ (if b then 39 ∷ 39 ∷ (doubled cs ++ rest) else c ∷ (doubled cs ++ rest))
    next true = refl
    next false = refl

-- the levels of a statement's pieces
abbrev pub among : Bool → List PieceForm → ℕ → LevelForm
among declares front separator = bare (pieces declares front separator)

abbrev pub behind : ℕ → ItemForm → PieceForm
behind separator item = record { separator = separator; item = item }

constant-read : (declares : Bool) (front : List PieceForm) (separator : ℕ) (cs rest : List ℕ) → run (at [] (among declares front separator) missing) ((39 ∷ doubled cs ++ 39 ∷ []) ++ rest) ≡ run (at [] (among declares front separator) (closed cs)) rest
unfolding run step step_at plain_step symbol_step quote_step
constant-read declares front separator cs rest =
    ap (run (at [] (among declares front separator) (quoted []))) (append_assoc (doubled cs) (39 ∷ []) rest) ∙ characters-read [] (among declares front separator) [] cs (39 ∷ rest)

-- ---- items

-- an item is read at the head of a piece: what ends it, and that a separator behind it is no part of it
pub record ItemRead (declares : Bool) (i : ItemForm) : Type 0 where
  pub sum : PendingForm
  pub product : PendingForm
  pub operand : OperandForm
  pub value : item_value sum product operand ≡ Some i
  pub apart : (o : List LevelForm) (opener : OpenerForm) (c : ℕ) → is_separator c ≡ true → step (at o (waits opener sum product) operand) c ≡ symbol_step (at o (waits opener sum product) operand) c
  pub runs : (front : List PieceForm) (separator : ℕ) (rest : List ℕ) → run (at [] (among declares front separator) missing) (item_text i ++ rest) ≡ run (at [] (waits (pieces declares front separator) sum product) operand) rest

-- a fact of each separator
separators : (P : ℕ → Type 0) → P 44 → P 61 → P 46 → P 41 → (c : ℕ) → is_separator c ≡ true → P c
unfolding is_separator
separators P comma equals dot parenthesis c h = by_comma (c == 44) refl
  where
    by_parenthesis : (b : Bool) → (c == 41) ≡ b → b ≡ true → P c
    by_parenthesis true e k = subst P (sym (eqb-true c 41 e)) parenthesis
    by_parenthesis false e k = absurd cc

    by_dot : (b : Bool) → (c == 46) ≡ b → (b || (c == 41)) ≡ true → P c
    by_dot true e k = subst P (sym (eqb-true c 46 e)) dot
    by_dot false e k = by_parenthesis (c == 41) refl k

    by_equals : (b : Bool) → (c == 61) ≡ b → (b || (c == 46) || (c == 41)) ≡ true → P c
    by_equals true e k = subst P (sym (eqb-true c 61 e)) equals
    by_equals false e k = by_dot (c == 46) refl k

    by_comma : (b : Bool) → (c == 44) ≡ b → P c
    by_comma true e = subst P (sym (eqb-true c 44 e)) comma
    by_comma false e = by_equals (c == 61) refl (sym (ap (λ b. b || (c == 61) || (c == 46) || (c == 41)) e) ∙ h)

plain-item : (s p : PendingForm) (x : OperandForm) → is_plain x ≡ true → item_value s p x ≡ (sum_value s p x >>= λ e. Some (printed (value e)))
unfolding item_value
plain-item s p missing h = absurd cc
plain-item s p (word w) h = refl
plain-item s p (whole e) h = refl
plain-item s p (declarator d) h = absurd cc
plain-item s p (quoted cs) h = absurd cc
plain-item s p (closed cs) h = absurd cc

plain-apart : (s p : PendingForm) (x : OperandForm) → is_plain x ≡ true → (o : List LevelForm) (opener : OpenerForm) (c : ℕ) → is_separator c ≡ true → step (at o (waits opener s p) x) c ≡ symbol_step (at o (waits opener s p) x) c
plain-apart s p x h o opener = separators (λ c. step (at o (waits opener s p) x) c ≡ symbol_step (at o (waits opener s p) x) c)
    (plain-symbol (at o (waits opener s p) x) 44 h refl) (plain-symbol (at o (waits opener s p) x) 61 h refl) (plain-symbol (at o (waits opener s p) x) 46 h refl) (plain-symbol (at o (waits opener s p) x) 41 h refl)

pub expression-item : (e : ExpressionForm) → is_expression sum e ≡ true → ItemRead false (printed (value e))
expression-item e h =
    let r = (reads e).as_sum h in
    record {
      sum = r.sum;
      product = r.product;
      operand = r.operand;
      value = plain-item r.sum r.product r.operand r.plain ∙ rw r.value refl;
      apart = plain-apart r.sum r.product r.operand r.plain;
      runs = λ front separator rest. r.runs [] (pieces false front separator) rest refl;
    }

pub constant-item : (declares : Bool) (cs : List ℕ) → nat_lt 0 (length cs) ≡ true → ItemRead declares (printed (constant cs))
unfolding item_value step step_at plain_step
constant-item declares cs h = record {
  sum = nothing;
  product = nothing;
  operand = closed cs;
  value = rw h refl;
  apart = λ o opener. separators (λ c. step (at o (waits opener nothing nothing) (closed cs)) c ≡ symbol_step (at o (waits opener nothing nothing) (closed cs)) c) refl refl refl refl;
  runs = λ front separator rest. constant-read declares front separator cs rest;
}

pub name-item : (n : List ℕ) → is_name n ≡ true → ItemRead true (printed (value (name n)))
unfolding sum_value term_value operand_value word_value combined
name-item n h = record {
  sum = nothing;
  product = nothing;
  operand = word n;
  value = plain-item nothing nothing (word n) refl ∙ rw h refl;
  apart = plain-apart nothing nothing (word n) refl;
  runs = λ front separator rest. name-read n rest [] (among true front separator) h;
}

-- ---- bounds

record BoundRead (lower : Option ExpressionForm) (upper : ExpressionForm) : Type 0 where
  sum : PendingForm
  product : PendingForm
  operand : OperandForm
  plain : is_plain operand ≡ true
  value : sum_value sum product operand ≡ Some upper
  runs : (o : List LevelForm) (n : List ℕ) (front : List BoundForm) (rest : List ℕ) → run (at o (bare (bounds n front None)) missing) ((lower_text lower ++ expression_text upper) ++ rest) ≡ run (at o (waits (bounds n front lower) sum product) operand) rest

colon-read : (n : List ℕ) (front : List BoundForm) (o : List LevelForm) (s p : PendingForm) (x : OperandForm) (e : ExpressionForm) (rest : List ℕ) → is_plain x ≡ true → sum_value s p x ≡ Some e → run (at o (waits (bounds n front None) s p) x) (58 ∷ rest) ≡ run (at o (bare (bounds n front (Some e))) missing) rest
unfolding run symbol_step separate_step opener_behind bounds_behind
colon-read n front o s p x e rest h k = rw (plain-symbol (at o (waits (bounds n front None) s p) x) 58 h refl, k) refl

bound_comma-read : (n : List ℕ) (front : List BoundForm) (lower : Option ExpressionForm) (o : List LevelForm) (s p : PendingForm) (x : OperandForm) (e : ExpressionForm) (rest : List ℕ) → is_plain x ≡ true → sum_value s p x ≡ Some e
    → run (at o (waits (bounds n front lower) s p) x) (44 ∷ rest) ≡ run (at o (bare (bounds n (front ++ record { lower = lower; upper = e } ∷ []) None)) missing) rest
unfolding run symbol_step separate_step opener_behind bounds_behind
bound_comma-read n front lower o s p x e rest h k = rw (plain-symbol (at o (waits (bounds n front lower) s p) x) 44 h refl, k) refl

bound-read : (lower : Option ExpressionForm) (upper : ExpressionForm) → is_optional lower ≡ true → is_expression sum upper ≡ true → BoundRead lower upper
bound-read None upper h k =
    let r = (reads upper).as_sum k in
    record { sum = r.sum; product = r.product; operand = r.operand; plain = r.plain; value = r.value; runs = λ o n front rest. r.runs o (bounds n front None) rest refl }
bound-read (Some lower) upper h k =
    let l = (reads lower).as_sum h in
    let r = (reads upper).as_sum k in
    record {
      sum = r.sum;
      product = r.product;
      operand = r.operand;
      plain = r.plain;
      value = r.value;
      runs = λ o n front rest.
          ap (run (at o (bare (bounds n front None)) missing)) (append_assoc (expression_text lower ++ 58 ∷ []) (expression_text upper) rest ∙ append_assoc (expression_text lower) (58 ∷ []) (expression_text upper ++ rest))
          ∙ l.runs o (bounds n front None) (58 ∷ expression_text upper ++ rest) refl
          ∙ colon-read n front o l.sum l.product l.operand lower (expression_text upper ++ rest) l.plain l.value
          ∙ r.runs o (bounds n front (Some lower)) rest refl;
    }

-- bounds behind one that has been read, and the parenthesis that ends them
bounds-read : (more : List BoundForm) → list_all is_bound more ≡ true → (o : List LevelForm) (l : LevelForm) (n : List ℕ) (front : List BoundForm) (lower : Option ExpressionForm) (s p : PendingForm) (x : OperandForm) (e : ExpressionForm) (rest : List ℕ) → is_plain x ≡ true → sum_value s p x ≡ Some e
    → run (at (l ∷ o) (waits (bounds n front lower) s p) x) (behind_commas bound_text more ++ 41 ∷ rest) ≡ run (at o l (declarator (record { name = n; bounds = (front ++ record { lower = lower; upper = e } ∷ []) ++ more }))) rest
unfolding enclosed
bounds-read [] g o l n front lower s p x e rest h k =
    close-read o l (bounds n front lower) s p x e rest refl h k
    ∙ ap (λ bs. run (at o l (declarator (record { name = n; bounds = bs }))) rest) (sym (append-nil (front ++ record { lower = lower; upper = e } ∷ [])))
bounds-read (b ∷ more) g o l n front lower s p x e rest h k =
    let q = and_parts (is_bound b) (list_all is_bound more) g in
    let u = and_parts (is_optional b.lower) (is_expression sum b.upper) q.0 in
    let r = bound-read b.lower b.upper u.0 u.1 in
    let first : BoundForm = record { lower = lower; upper = e } in
    ap (λ t. run (at (l ∷ o) (waits (bounds n front lower) s p) x) (44 ∷ t)) (append_assoc (bound_text b) (behind_commas bound_text more) (41 ∷ rest))
    ∙ bound_comma-read n front lower (l ∷ o) s p x e (bound_text b ++ (behind_commas bound_text more ++ 41 ∷ rest)) h k
    ∙ r.runs (l ∷ o) n (front ++ first ∷ []) (behind_commas bound_text more ++ 41 ∷ rest)
    ∙ bounds-read more q.1 o l n (front ++ first ∷ []) b.lower r.sum r.product r.operand b.upper rest r.plain r.value
    ∙ ap (λ bs. run (at o l (declarator (record { name = n; bounds = bs }))) rest) (append_assoc (front ++ first ∷ []) (b ∷ []) more)

-- a parenthesis behind a name whose bounds follow
bounds_open-read : (n : List ℕ) (front : List PieceForm) (separator : ℕ) (rest : List ℕ) → is_name n ≡ true → run (at [] (among true front separator) (word n)) (40 ∷ rest) ≡ run (at (among true front separator ∷ []) (bare (bounds n [] None)) missing) rest
unfolding run step step_at plain_step symbol_step open_step opener_at opened
bounds_open-read n front separator rest h = rw h refl

pub bounded-item : (n : List ℕ) (b : BoundForm) (bs : List BoundForm) → is_name n ≡ true → list_all is_bound (b ∷ bs) ≡ true → ItemRead true (declared (record { name = n; bounds = b ∷ bs }))
unfolding item_value step step_at plain_step
bounded-item n b bs h g =
    let q = and_parts (is_bound b) (list_all is_bound bs) g in
    let u = and_parts (is_optional b.lower) (is_expression sum b.upper) q.0 in
    let r = bound-read b.lower b.upper u.0 u.1 in
    let d : DeclaratorForm = record { name = n; bounds = b ∷ bs } in
    record {
      sum = nothing;
      product = nothing;
      operand = declarator d;
      value = refl;
      apart = λ o opener. separators (λ c. step (at o (waits opener nothing nothing) (declarator d)) c ≡ symbol_step (at o (waits opener nothing nothing) (declarator d)) c) refl refl refl refl;
      runs = λ front separator rest.
          let l : LevelForm = among true front separator in
          ap (run (at [] l missing)) (append_assoc n (bounds_text (b ∷ bs)) rest)
          ∙ name-read n (bounds_text (b ∷ bs) ++ rest) [] l h
          ∙ bounds_open-read n front separator (((bound_text b ++ behind_commas bound_text bs) ++ 41 ∷ []) ++ rest) h
          ∙ ap (run (at (l ∷ []) (bare (bounds n [] None)) missing)) (append_assoc (bound_text b ++ behind_commas bound_text bs) (41 ∷ []) rest ∙ append_assoc (bound_text b) (behind_commas bound_text bs) (41 ∷ rest))
          ∙ r.runs (l ∷ []) n [] (behind_commas bound_text bs ++ 41 ∷ rest)
          ∙ bounds-read bs q.1 [] l n [] b.lower r.sum r.product r.operand b.upper rest r.plain r.value;
    }

-- ---- pieces

-- each item is read, and stands behind a separator
abbrev pub AllRead : Bool → List PieceForm → Type 0
AllRead declares [] = Unit {0}
AllRead declares (p ∷ ps) = (is_separator p.separator ≡ true) × ItemRead declares p.item × AllRead declares ps

separated : (declares : Bool) (front : List PieceForm) (separator : ℕ) (s p : PendingForm) (x : OperandForm) (c : ℕ) → is_separator c ≡ true → symbol_step (at [] (waits (pieces declares front separator) s p) x) c ≡ separate_step (at [] (waits (pieces declares front separator) s p) x) c
unfolding symbol_step close_step
separated declares front separator s p x = separators (λ c. symbol_step (at [] (waits (pieces declares front separator) s p) x) c ≡ separate_step (at [] (waits (pieces declares front separator) s p) x) c) refl refl refl refl

item-goes : (declares : Bool) (i : ItemForm) → ItemRead declares i → (front : List PieceForm) (separator c : ℕ) (rest : List ℕ) → is_separator c ≡ true
    → run (at [] (among declares front separator) missing) (item_text i ++ c ∷ rest) ≡ run (at [] (among declares (front ++ behind separator i ∷ []) c) missing) rest
unfolding run separate_step opener_behind
item-goes declares i r front separator c rest h =
    r.runs front separator (c ∷ rest) ∙ rw (r.apart [] (pieces declares front separator) c h, separated declares front separator r.sum r.product r.operand c h, h, r.value) refl

item-ends : (declares : Bool) (i : ItemForm) → ItemRead declares i → (front : List PieceForm) (separator : ℕ) → run (at [] (among declares front separator) missing) (item_text i) ≡ Some (front ++ behind separator i ∷ [])
unfolding run finished ended
item-ends declares i r front separator =
    ap (run (at [] (among declares front separator) missing)) (sym (append-nil (item_text i))) ∙ r.runs front separator [] ∙ rw r.value refl

pub pieces-on : (declares : Bool) (i : ItemForm) (ps : List PieceForm) → ItemRead declares i → AllRead declares ps → (front : List PieceForm) (separator : ℕ) → run (at [] (among declares front separator) missing) (item_text i ++ pieces_text ps) ≡ Some (front ++ behind separator i ∷ ps)
pieces-on declares i [] r all front separator = ap (run (at [] (among declares front separator) missing)) (append-nil (item_text i)) ∙ item-ends declares i r front separator
pieces-on declares i (p ∷ ps) r all front separator =
    item-goes declares i r front separator p.separator (item_text p.item ++ pieces_text ps) all.0
    ∙ pieces-on declares p.item ps all.1 all.2 (front ++ behind separator i ∷ []) p.separator
    ∙ ap Some (append_assoc front (behind separator i ∷ []) (p ∷ ps))

word-item : (w : List ℕ) → is_number w ≡ false → item_value nothing nothing (word w) ≡ (if is_name w then Some (printed (value (name w))) else None)
unfolding item_value sum_value term_value operand_value word_value combined
word-item w n = by_name (is_name w) refl
  where
    by_name : (b : Bool) → is_name w ≡ b → ((((if is_name w then Some (name w) else (if is_number w then Some (number w) else None)) >>= λ e. Some e) >>= λ e. Some e) >>= λ e. Some (printed (value e))) ≡ (if is_name w then Some (printed (value (name w))) else None)
    by_name true e = rw e refl
    by_name false e = rw (e, n) refl

word-ends : (w : List ℕ) (front : List PieceForm) (separator c : ℕ) (rest : List ℕ) → is_number w ≡ false → is_separator c ≡ true
    → run (at [] (among false front separator) (word w)) (c ∷ rest) ≡ (if is_name w then run (at [] (among false (front ++ behind separator (printed (value (name w))) ∷ []) c) missing) rest else None)
unfolding run separate_step opener_behind
word-ends w front separator c rest n k =
    rw (plain-apart nothing nothing (word w) refl [] (pieces false front separator) c k, separated false front separator nothing nothing (word w) c k, k, word-item w n) (by_name (is_name w))
  where
    by_name : (b : Bool) → ((((if b then Some (printed (value (name w))) else None) >>= λ i. Some (pieces false (front ++ behind separator i ∷ []) c)) >>= λ opener. Some (at [] (bare opener) missing)) >>= λ t. run t rest) ≡ (if b then run (at [] (among false (front ++ behind separator (printed (value (name w))) ∷ []) c) missing) rest else None)
    by_name true = refl
    by_name false = refl

-- a word that begins with DO, and a separator
pub word-goes : (cs : List ℕ) (front : List PieceForm) (separator c : ℕ) (rest : List ℕ) → list_all is_capital_or_digit cs ≡ true → is_separator c ≡ true
    → run (at [] (among false front separator) missing) (68 ∷ 79 ∷ cs ++ c ∷ rest) ≡ (if is_name (68 ∷ 79 ∷ cs) then run (at [] (among false (front ++ behind separator (printed (value (name (68 ∷ 79 ∷ cs)))) ∷ []) c) missing) rest else None)
word-goes cs front separator c rest h k = letters-read 68 (79 ∷ cs) (c ∷ rest) [] (among false front separator) refl h ∙ ends
  where
    w : List ℕ
    w = 68 ∷ 79 ∷ cs

    ends : run (at [] (among false front separator) (word w)) (c ∷ rest) ≡ (if is_name w then run (at [] (among false (front ++ behind separator (printed (value (name w))) ∷ []) c) missing) rest else None)
    ends = word-ends w front separator c rest refl k

-- the text of pieces behind a first one
pub pieces-read : (declares : Bool) (i : ItemForm) (ps : List PieceForm) → ItemRead declares i → AllRead declares ps → pieces_at declares (item_text i ++ pieces_text ps) ≡ Some (behind 44 i ∷ ps)
unfolding pieces_at
pieces-read declares i ps r all = pieces-on declares i ps r all [] 44
