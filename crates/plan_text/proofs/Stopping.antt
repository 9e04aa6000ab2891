-- How a stop within a part of a text is one of the whole.
use Rattle.std.proofs.Common.{◌≡◌, ℕ, ◌+◌, ◌⊎◌, List, [], ◌∷◌, ◌++◌, length, refl, sym, ap, ◌∙◌, inl, inr, append-nil, append_assoc, length-append, arith}
use Rattle.std.proofs.lemmas.List.{append_cancel_left}
use Rattle.std.proofs.lemmas.List.Concat.{flat_map-append}
use Rattle.plan_text.specs.PlanText.{text_of}
use Rattle.plan_text.specs.Stops.{Stops}

-- of two lists with one end each, one begins with the other
pub compared : {A : Type 0} (a b c d : List A) → a ++ b ≡ c ++ d → ((e : List A) × (a ≡ c ++ e) × (e ++ b ≡ d)) ⊎ ((e : List A) × (c ≡ a ++ e) × (b ≡ e ++ d))
compared [] b c d h = inr (c, refl, h)
compared (x ∷ a) b [] d h = inl (x ∷ a, refl, h)
compared (x ∷ a) b (y ∷ c) d h =
    let head : x ≡ y = cc in
    let tail : a ++ b ≡ c ++ d = cc in
    elim (compared a b c d tail) [
      | inl (e, p, q) ↦ inl (e, ap (λ z. z ∷ a) head ∙ ap (λ zs. y ∷ zs) p, q)
      | inr (e, p, q) ↦ inr (e, ap (λ z. z ∷ c) (sym head) ∙ ap (λ zs. x ∷ zs) p, q)
    ]

-- a value's lines tell it apart, whatever stands behind them
abbrev pub IsFree : {X : Type 0} → (X → List (List ℕ)) → (X → Type 0) → Type 0
IsFree {X} lines IsShown = (x y : X) (r s : List (List ℕ)) → IsShown x → IsShown y → lines x ++ r ≡ lines y ++ s → x ≡ y

module _ {X : Type 0} (lines : X → List (List ℕ)) (IsShown : X → Type 0) where
  -- no value whose lines stand in front has the line at which the reading stops, in its lines or behind them
  pub alien_front : IsFree lines IsShown → (rest : List ℕ) (taken n : ℕ) (s : Stops lines IsShown rest taken n) (x : X) (tail : List (List ℕ)) (line : List ℕ) (later : List (List ℕ)) (after : List ℕ) →
      IsShown x → lines x ++ tail ≡ s.front ++ line ∷ later → s.behind ≡ line ++ (10 ∷ after) → ⊥
  alien_front free rest taken n s x tail line later after shown e cut = elim (compared (lines x) tail s.front (line ∷ later) e) [
    | inl (d, p, q) ↦ inside d p q
    | inr (d, p, q) ↦ outside d p
  ]
    where
      -- the lines of x are a front of the opened value's
      outside : (d : List (List ℕ)) → s.front ≡ lines x ++ d → ⊥
      outside d p =
          let longer : lines s.whole ++ [] ≡ lines x ++ (d ++ s.next ∷ s.more) = append-nil (lines s.whole) ∙ s.opened ∙ ap (λ f. f ++ s.next ∷ s.more) p ∙ append_assoc (lines x) d (s.next ∷ s.more) in
          let same = free s.whole x [] (d ++ s.next ∷ s.more) s.shown shown longer in
          let long = ap length (sym (append-nil (lines s.whole)) ∙ longer) in
          let long' = ap (λ y. length (lines y)) same in
          let all = length-append (lines x) (d ++ s.next ∷ s.more) in
          let last = length-append d (s.next ∷ s.more) in
          omega (arith, long, long', all, last)

      inside : (d : List (List ℕ)) → lines x ≡ s.front ++ d → d ++ tail ≡ line ∷ later → ⊥
      inside [] p q = outside [] (sym (append-nil s.front) ∙ sym p ∙ sym (append-nil (lines x)))
      inside (l ∷ d) p q = (let here : l ≡ line = cc in s.alien x line d after shown (p ∙ ap (λ z. s.front ++ z ∷ d) here) cut)

  -- one line
  pub stops_mapped : {Y : Type 0} (of : Y → X) (make : X → Y) → ((x : X) → of (make x) ≡ x) → (IsGood : Y → Type 0) → ((x : X) → IsShown x → IsGood (make x)) → ((y : Y) → IsGood y → IsShown (of y)) →
      (rest : List ℕ) (taken n : ℕ) → Stops lines IsShown rest taken n → Stops (λ y. lines (of y)) IsGood rest taken n
  stops_mapped of make back IsGood good shown rest taken n s = record {
    front = s.front;
    behind = s.behind;
    cut = s.cut;
    count = s.count;
    whole = make s.whole;
    shown = good s.whole s.shown;
    next = s.next;
    more = s.more;
    opened = ap lines (back s.whole) ∙ s.opened;
    alien = λ y line later after h. s.alien (of y) line later after (shown y h);
  }

-- a part in front
pub stops_first : {X Y : Type 0} (whole : X → List (List ℕ)) (IsShown : X → Type 0) (part : X → Y) (lines : Y → List (List ℕ)) (IsPart : Y → Type 0) (behind : X → List (List ℕ)) →
    ((x : X) → IsShown x → whole x ≡ lines (part x) ++ behind x) → ((x : X) → IsShown x → IsPart (part x)) → IsFree lines IsPart →
    (make : Y → X) → ((y : Y) → IsPart y → IsShown (make y)) → ((y : Y) → part (make y) ≡ y) →
    (rest : List ℕ) (taken n : ℕ) → Stops lines IsPart rest taken n → Stops whole IsShown rest taken n
stops_first whole IsShown part lines IsPart behind split parts free make shown back rest taken n s =
    let x = make s.whole in
    let here = shown s.whole s.shown in record {
      front = s.front;
      behind = s.behind;
      cut = s.cut;
      count = s.count;
      whole = x;
      shown = here;
      next = s.next;
      more = s.more ++ behind x;
      opened = split x here ∙ ap (λ y. lines y ++ behind x) (back s.whole) ∙ ap (λ ls. ls ++ behind x) s.opened ∙ append_assoc s.front (s.next ∷ s.more) (behind x);
      alien = λ y line later after h e cut. alien_front lines IsPart free rest taken n s (part y) (behind y) line later after (parts y h) (sym (split y h) ∙ e) cut;
    }

-- a part behind one that was read
pub stops_second : {X Y : Type 0} (whole : X → List (List ℕ)) (IsShown : X → Type 0) (part : X → Y) (lines : Y → List (List ℕ)) (IsPart : Y → Type 0) (behind : X → List (List ℕ)) →
    ((x : X) → IsShown x → whole x ≡ lines (part x) ++ behind x) → ((x : X) → IsShown x → IsPart (part x)) → IsFree lines IsPart →
    (y : Y) → IsPart y → (rest later : List ℕ) (taken now n : ℕ) → rest ≡ text_of (lines y) ++ later → now ≡ taken + length (lines y) → Stops behind (λ x. IsShown x × (part x ≡ y)) later now n → Stops whole IsShown rest taken n
stops_second whole IsShown part lines IsPart behind split parts free y good rest later taken now n is next s = record {
  front = lines y ++ s.front;
  behind = s.behind;
  cut = is ∙ ap (λ b. text_of (lines y) ++ b) s.cut ∙ sym (append_assoc (text_of (lines y)) (text_of s.front) s.behind) ∙ ap (λ t. t ++ s.behind) (sym (flat_map-append (λ l. l ++ 10 ∷ []) (lines y) s.front));
  count = omega (arith, length-append (lines y) s.front, s.count, next);
  whole = s.whole;
  shown = s.shown.0;
  next = s.next;
  more = s.more;
  opened = split s.whole s.shown.0 ∙ ap (λ z. lines z ++ behind s.whole) s.shown.1 ∙ ap (λ ls. lines y ++ ls) s.opened ∙ sym (append_assoc (lines y) s.front (s.next ∷ s.more));
  alien = λ x line more after h e cut.
      let both : lines (part x) ++ behind x ≡ lines y ++ (s.front ++ line ∷ more) = sym (split x h) ∙ e ∙ append_assoc (lines y) s.front (line ∷ more) in
      let same = free (part x) y (behind x) (s.front ++ line ∷ more) (parts x h) good both in
      s.alien x line more after (h, same) (append_cancel_left (lines y) (behind x) (s.front ++ line ∷ more) (sym (ap (λ z. lines z ++ behind x) same) ∙ both)) cut;
}
