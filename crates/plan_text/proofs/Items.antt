-- Items taken one by one.
use Rattle.std.proofs.Common.{◌≡◌, ℕ, ◌+◌, ◌<◌, Bool, true, ◌&&◌, List, [], ◌∷◌, ◌++◌, length, refl, sym, ap, ◌∙◌, append-nil, append_assoc, length-append, arith}
use Rattle.std.proofs.Common.{subst}
use Rattle.std.specs.List.{list_all}
use Rattle.std.proofs.lemmas.Bool.{and_from}
use Rattle.std.proofs.lemmas.List.Concat.{flat_map-append}
use Rattle.std.proofs.lemmas.List.Folds.{list_all-append}
use Rattle.plan_text.specs.declared.syntax.PlanSyntax.{PlanSyntax}
use Rattle.plan_text.specs.declared.syntax.PlanSyntax.TheVariants.{Line, NoMemory}
use Rattle.plan_text.specs.PlanText.{numbered, text_of}
use Rattle.plan_text.specs.Stops.{AreItems, ItemsRead, RefusesLine, RefusesPart, Stops}
use Rattle.plan_text.proofs.Counting.{numbered-append, stops_item}
use Rattle.plan_text.proofs.LineLaws.{stops_line}
use Rattle.plan_text.proofs.Stopping.{IsFree}

-- a line in front of the rest
pub one_line : (line rest : List ℕ) → line ++ (10 ∷ rest) ≡ text_of (line ∷ []) ++ rest
one_line line rest = sym (ap (λ t. t ++ rest) (append-nil (line ++ 10 ∷ [])) ∙ append_assoc line (10 ∷ []) rest)

module _ {X : Type 0} (lines : ℕ → X → List (List ℕ)) (shown : X → Bool) where
  pub none_read : (rest : List ℕ) (taken : ℕ) → ItemsRead lines shown rest taken rest taken [] 0
  none_read rest taken = record { read = refl; counted = omega arith; items = (refl, refl) }

  pub one_more : (rest middle later : List ℕ) (taken now next n : ℕ) (xs ys : List X) (x : X) → ys ≡ xs ++ x ∷ [] → ItemsRead lines shown rest taken middle now xs n →
      middle ≡ text_of (lines (n + 1) x) ++ later → next ≡ now + length (lines (n + 1) x) → shown x ≡ true → ItemsRead lines shown rest taken later next ys (n + 1)
  one_more rest middle later taken now next n xs ys x is r more len good =
      let place : n + 1 ≡ 1 + length xs = omega (arith, r.items.0) in
      let here : numbered lines 1 ys ≡ numbered lines 1 xs ++ lines (n + 1) x =
      ap (numbered lines 1) is ∙ numbered-append lines shown 1 xs (x ∷ []) ∙ ap (λ ls. numbered lines 1 xs ++ ls) (append-nil (lines (1 + length xs) x)) ∙ ap (λ k. numbered lines 1 xs ++ lines k x) (sym place) in
      record {
        read = r.read ∙ ap (λ t. text_of (numbered lines 1 xs) ++ t) more ∙ sym (append_assoc (text_of (numbered lines 1 xs)) (text_of (lines (n + 1) x)) later)
            ∙ ap (λ t. t ++ later) (sym (flat_map-append (λ l. l ++ 10 ∷ []) (numbered lines 1 xs) (lines (n + 1) x)) ∙ ap text_of (sym here));
        counted = omega (arith, len, r.counted, ap length here, length-append (numbered lines 1 xs) (lines (n + 1) x));
        items = (omega (arith, ap length is, length-append xs (x ∷ []), r.items.0), ap (list_all shown) is ∙ list_all-append shown xs (x ∷ []) ∙ and_from (list_all shown xs) (shown x && true) r.items.1 (and_from (shown x) true good refl));
      }

  pub item_refused : ((k : ℕ) → IsFree (lines k) (λ x. shown x ≡ true)) → (d : X) → shown d ≡ true → (rest middle : List ℕ) (taken now n count : ℕ) (xs : List X) (e : PlanSyntax) → n < count → ItemsRead lines shown rest taken middle now xs n →
      RefusesPart (lines (n + 1)) (λ x. shown x ≡ true) middle now e → RefusesPart (numbered lines 1) (AreItems shown count) rest taken e
  item_refused free d good rest middle taken now n count xs NoMemory lt r h = tt
  item_refused free d good rest middle taken now n count xs (Line m) lt r h =
      let place : n + 1 ≡ 1 + length xs = omega (arith, r.items.0) in
      let P : ℕ → ℕ → Type 0 = λ k t. Stops (lines k) (λ x. shown x ≡ true) middle t m in
      let Q : ℕ → Type 0 = λ k. P k now in
      let moved = subst Q place h in
      let W : ℕ → Type 0 = λ t. P (1 + length xs) t in
      stops_item lines shown free d good count xs rest middle taken m (omega (arith, lt, r.items.0)) r.items.1 r.read (subst W r.counted moved)

-- a line of its own
pub line_refused : {X : Type 0} (line : X → List ℕ) (shown : X → Bool) (d : X) → shown d ≡ true → (rest : List ℕ) (taken : ℕ) (e : PlanSyntax) → RefusesLine line shown rest taken e → RefusesPart (λ x. line x ∷ []) (λ x. shown x ≡ true) rest taken e
line_refused line shown d good rest taken NoMemory h = tt
line_refused line shown d good rest taken (Line n) h =
    let P : ℕ → Type 0 = λ m. Stops (λ x. line x ∷ []) (λ x. shown x ≡ true) rest taken m in
    subst P (sym h.0) (stops_line line shown d good rest taken h.1)
