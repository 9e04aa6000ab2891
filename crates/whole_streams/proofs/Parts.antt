-- What was written of a text.
use Rattle.std.proofs.Common.{◌≡◌, ℕ, ◌+◌, ◌-◌, ◌≤◌, arith, length-drop, List, [], ◌++◌, Option, Some, None, sym, ap, ◌∙◌, append_assoc, subst, length, take, drop, append-nil}
use Rattle.std.proofs.Math.Seq.{take-add}
use Rattle.std.proofs.lemmas.List.{take-append-drop, take_all}
use Rattle.std.specs.Io.KnownBytes.{Appends, Keeps}
use Rattle.whole_streams.specs.Streams.{WritesPart}

-- one text behind another
pub Appends-trans : (a b c : Option (List ℕ)) (bs cs : List ℕ) → Appends a b bs → Appends b c cs → Appends a c (bs ++ cs)
Appends-trans None b c bs cs p q = tt
Appends-trans (Some x) None c bs cs p q = absurd p
Appends-trans (Some x) (Some y) None bs cs p q = absurd q
Appends-trans (Some x) (Some y) (Some z) bs cs p q = q ∙ ap (λ l. l ++ cs) p ∙ append_assoc x bs cs

pub Appends-kept : (a b c : Option (List ℕ)) (bs : List ℕ) → Appends a b bs → Keeps b c → Appends a c bs
Appends-kept None b c bs p q = tt
Appends-kept (Some x) None c bs p q = absurd p
Appends-kept (Some x) (Some y) None bs p q = absurd q
Appends-kept (Some x) (Some y) (Some z) bs p q = q ∙ p

-- a part stays where a write fails
pub part_kept : (a b c : Option (List ℕ)) (text : List ℕ) (n : ℕ) → Appends a b (take n text) → Keeps b c → WritesPart a c text
part_kept a b c text n p q = (take n text, drop n text, sym (take-append-drop n text), Appends-kept a b c (take n text) p q)

-- and where it takes nothing
pub part_none : (a b c : Option (List ℕ)) (text bs : List ℕ) (n k : ℕ) → k ≡ 0 → Appends a b (take n text) → Appends b c (take k bs) → WritesPart a c text
part_none a b c text bs n k e p q =
    let none = subst (λ j. Appends b c (take j bs)) e q in
    (take n text, drop n text, sym (take-append-drop n text), subst (Appends a c) (append-nil (take n text)) (Appends-trans a b c (take n text) [] p none))

-- more of the text, from what is left of it
pub part_more : (a b c : Option (List ℕ)) (text : List ℕ) (n k : ℕ) → Appends a b (take n text) → Appends b c (take k (take (length text - n) (drop n text))) → Appends a c (take (n + k) text)
part_more a b c text n k p q =
    let le : length (drop n text) ≤ length text - n = omega (arith, length-drop n text) in
    let all : take (length text - n) (drop n text) ≡ drop n text = take_all (length text - n) (drop n text) le in
    let more = subst (λ (rest : List ℕ). Appends b c (take k rest)) all q in
    subst (Appends a c) (sym (take-add n k text)) (Appends-trans a b c (take n text) (take k (drop n text)) p more)
