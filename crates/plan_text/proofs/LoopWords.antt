-- The words of a loop are read as its mark and its private scalars.
use Rattle.std.proofs.Common.{◌≡◌, ℕ, true, List, [], ◌∷◌, map, refl, ap, ◌∙◌, codes}
use Rattle.std.specs.Fmt.{decimal}
use Rattle.std.specs.List.{list_all}
use Rattle.std.proofs.lemmas.Bool.{and_from, and_parts}
use Rattle.owner_partition.specs.declared.cut.Mark.{Mark}
use Rattle.owner_partition.specs.declared.cut.Mark.TheVariants.{Outer, Doall, Sum, Single, Inner}
use Rattle.plan_text.specs.Loose.{loop_of, mark_of, private_of}
use Rattle.plan_text.specs.PlanText.{is_32}
use Rattle.plan_text.specs.Words.{mark_word, private_word, private_words}
use Rattle.plan_text.proofs.PairWords.{read-32, word-32}
use Rattle.plan_text.proofs.Splitting.{is_word}

mark-read : (m : Mark) → mark_of (mark_word m) ≡ m
mark-read Outer = refl
mark-read Doall = refl
mark-read Sum = refl
mark-read Single = refl
mark-read Inner = refl

pub word-mark : (m : Mark) → is_word (mark_word m) ≡ true
word-mark Outer = refl
word-mark Doall = refl
word-mark Sum = refl
word-mark Single = refl
word-mark Inner = refl

-- private scalars
privates-read : (vs : List ℕ) → list_all is_32 vs ≡ true → map private_of (map private_word vs) ≡ vs
privates-read [] h = refl
privates-read (v ∷ vs) h =
    let parts = and_parts (is_32 v) (list_all is_32 vs) h in
    ap (λ n. n ∷ map private_of (map private_word vs)) (read-32 v parts.0) ∙ ap (λ ns. v ∷ ns) (privates-read vs parts.1)

words-scalars : (vs : List ℕ) → list_all is_32 vs ≡ true → list_all is_word (map private_word vs) ≡ true
words-scalars [] h = refl
words-scalars (v ∷ vs) h =
    let parts = and_parts (is_32 v) (list_all is_32 vs) h in
    and_from (is_word (private_word v)) (list_all is_word (map private_word vs)) (and_from true (is_word (decimal v)) refl (word-32 v parts.0)) (words-scalars vs parts.1)

pub words-privates : (vs : List ℕ) → list_all is_32 vs ≡ true → list_all is_word (private_words vs) ≡ true
words-privates [] h = refl
words-privates (v ∷ vs) h = and_from (is_word (codes "PRIVATE")) (list_all is_word (map private_word (v ∷ vs))) refl (words-scalars (v ∷ vs) h)

pub loop-read : (number : List ℕ) (l : Mark × List ℕ) → list_all is_32 l.1 ≡ true → loop_of (number ∷ mark_word l.0 ∷ private_words l.1) ≡ l
loop-read number (m, []) h = (let P : Mark → Mark × List ℕ = λ n. (n, []) in ap P (mark-read m))
loop-read number (m, v ∷ vs) h =
    let P : Mark → Mark × List ℕ = λ n. (n, map private_of (map private_word (v ∷ vs))) in
    let Q : List ℕ → Mark × List ℕ = λ ns. (m, ns) in
    ap P (mark-read m) ∙ ap Q (privates-read (v ∷ vs) h)
