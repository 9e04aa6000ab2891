use Rattle.std.proofs.Common.{◌≡◌, ℕ, ◌+◌, ◌-◌, ◌<◌, Bool, true, false, not, cond, ◌&&◌, ◌⊎◌, inl, inr, [], ◌==◌, List, ◌∷◌, ◌++◌, length, get_or, take, drop, Some, None, refl, sym, ap, ◌∙◌, arith}
use Rattle.std.specs.List.{position, position_or_len}
use Rattle.std.proofs.lemmas.Bool.{eqb-true, lt-ltb}
use Rattle.std.proofs.lemmas.List.{drop_more, get_or-take, get_or_default, length-take, take-append-drop, take_rest}
use Rattle.std.proofs.lemmas.List.Quantifiers.{position-Some}
use Rattle.std.proofs.lemmas.List.Sums.{list_all-from_AllPass}
use Rattle.plan_text.specs.Unbroken.{is_unbroken}
use Rattle.plan_text.proofs.lines.Lines.next.Goals as goal

cut_at : (text : List ℕ) (i : ℕ) → position (λ b. b == 10) text ≡ Some i → text ≡ take i text ++ (10 ∷ take (length text - (i + 1)) (drop (i + 1) text))
cut_at text i is =
    let found = position-Some (λ b. b == 10) text i 0 is in
    sym (take-append-drop i text)
    ∙ ap (λ r. take i text ++ r) (drop_more text i 0 found.0)
    ∙ ap (λ b. take i text ++ (b ∷ drop (i + 1) text)) (eqb-true (get_or text i 0) 10 found.1)
    ∙ ap (λ r. take i text ++ (10 ∷ r)) (sym (take_rest text (i + 1)))

whole_before : (text : List ℕ) (i : ℕ) → position (λ b. b == 10) text ≡ Some i → is_unbroken (take i text) ≡ true
whole_before text i is =
    let found = position-Some (λ b. b == 10) text i 0 is in
    list_all-from_AllPass (λ b. not (b == 10)) (take i text) (λ k d lt.
    let below : k < i = omega (arith, lt, length-take i text, found.0) in
    let inside : k < length text = omega (arith, below, found.0) in
    ap (λ b. not (b == 10)) (get_or-take i text k d below ∙ get_or_default text k d 0 inside) ∙ ap not (found.2 k below))

-- an element passes, or none does
found_or : (text : List ℕ) → (position_or_len (λ b. b == 10) text < length text) ⊎ (is_unbroken text ≡ true)
found_or [] = inr refl
found_or (x ∷ xs) = by_case (found_or xs) (x == 10) refl
  where
    by_case : ((position_or_len (λ b. b == 10) xs < length xs) ⊎ (is_unbroken xs ≡ true)) → (b : Bool) → (x == 10) ≡ b → (position_or_len (λ b. b == 10) (x ∷ xs) < length (x ∷ xs)) ⊎ (is_unbroken (x ∷ xs) ≡ true)
    by_case rest true e = inl (let none : position_or_len (λ b. b == 10) (x ∷ xs) ≡ 0 = ap (λ t. cond (not t) (1 + position_or_len (λ b. b == 10) xs) 0) e in omega (arith, none))
    by_case rest false e = elim rest [
      | inl lt ↦ inl (let one : position_or_len (λ b. b == 10) (x ∷ xs) ≡ 1 + position_or_len (λ b. b == 10) xs = ap (λ t. cond (not t) (1 + position_or_len (λ b. b == 10) xs) 0) e in omega (arith, one, lt))
      | inr h ↦ inr (ap (λ t. not t && is_unbroken xs) e ∙ h)
    ]

no_end : (text : List ℕ) → position (λ b. b == 10) text ≡ None → is_unbroken text ≡ true
no_end text is = elim (found_or text) [
  | inl lt ↦ (let some = sym (ap (λ b. cond b (Some (position_or_len (λ b. b == 10) text)) None) (lt-ltb (position_or_len (λ b. b == 10) text) (length text) lt)) ∙ is in absurd (cc))
  | inr h ↦ h
]

pub returns-in_default-clause-none : goal.returns-in_default-clause-none
returns-in_default-clause-none c = no_end c.args.self.now.rest.now (sym c.line_end.ensures ∙ c.in_default.is)

pub returns-clause-cut : goal.returns-clause-cut
returns-clause-cut c = cut_at c.args.self.now.rest.now c.in-Some.place (sym c.in-Some.ensures)

pub returns-clause-whole : goal.returns-clause-whole
returns-clause-whole c = whole_before c.args.self.now.rest.now c.in-Some.place (sym c.in-Some.ensures)
