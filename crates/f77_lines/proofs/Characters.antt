-- Texts of characters that stand behind one another.
use Rattle.std.proofs.Common.{◌≡◌, ℕ, zero, suc, Bool, true, false, List, [], ◌∷◌, ◌++◌, ◌+◌, ◌-◌, arith, take, drop, length, replicate, refl, sym, ap, ◌∙◌, append_assoc}
use Rattle.std.proofs.lemmas.List.{append-nil, take_all}
use Rattle.f77_lines.specs.Columns.{body_of}
use Rattle.f77_lines.specs.Texts.{quoted_after, counted, text_from}
use Rattle.f77_lines.specs.Walk.{quoted_behind}

pub text_from-append : (quoted : Bool) (xs ys : List ℕ) → text_from quoted (xs ++ ys) ≡ text_from quoted xs ++ text_from (quoted_behind quoted xs) ys
text_from-append quoted [] ys = refl
text_from-append quoted (x ∷ xs) ys =
    ap (λ (t : List ℕ). counted quoted x ++ t) (text_from-append (quoted_after quoted x) xs ys)
    ∙ sym (append_assoc (counted quoted x) (text_from (quoted_after quoted x) xs) (text_from (quoted_behind (quoted_after quoted x) xs) ys))

pub quoted_behind-append : (quoted : Bool) (xs ys : List ℕ) → quoted_behind quoted (xs ++ ys) ≡ quoted_behind (quoted_behind quoted xs) ys
quoted_behind-append quoted [] ys = refl
quoted_behind-append quoted (x ∷ xs) ys = quoted_behind-append (quoted_after quoted x) xs ys

-- blanks end no constant and begin none
pub quoted_behind-blanks : (quoted : Bool) (n : ℕ) → quoted_behind quoted (replicate n 32) ≡ quoted
quoted_behind-blanks quoted zero = refl
quoted_behind-blanks quoted (suc n) = quoted_behind-blanks quoted n

-- outside constants blanks have no meaning
pub text_from-blanks : (quoted : Bool) (n : ℕ) → quoted ≡ false → text_from quoted (replicate n 32) ≡ []
text_from-blanks true n h = cc
text_from-blanks false zero h = refl
text_from-blanks false (suc n) h = text_from-blanks false n h

-- inside a constant they are kept
pub text_from-quoted_blanks : (quoted : Bool) (n : ℕ) → quoted ≡ true → text_from quoted (replicate n 32) ≡ replicate n 32
text_from-quoted_blanks false n h = cc
text_from-quoted_blanks true zero h = refl
text_from-quoted_blanks true (suc n) h = ap (λ (t : List ℕ). 32 ∷ t) (text_from-quoted_blanks true n h)

-- how a line of fewer columns is filled
pub ruleset filling = (text_from-append, quoted_behind-append, quoted_behind-blanks, text_from-blanks, text_from-quoted_blanks)

-- what was appended and what is to come are all
pub text-pushed : (front new : List ℕ) (quoted after : Bool) (body more all : List ℕ) → front ++ text_from quoted (body ++ more) ≡ all → new ≡ front ++ text_from quoted body → after ≡ quoted_behind quoted body → new ++ text_from after more ≡ all
text-pushed front new quoted after body more all whole is behind =
    rw (is, behind) (append_assoc front (text_from quoted body) (text_from (quoted_behind quoted body) more) ∙ ap (λ (t : List ℕ). front ++ t) (sym (text_from-append quoted body more)) ∙ whole)

pub text-ended : (front : List ℕ) (quoted : Bool) (more all : List ℕ) → front ++ text_from quoted more ≡ all → more ≡ [] → front ≡ all
text-ended front quoted more all whole none = sym (append-nil front) ∙ ap (λ (t : List ℕ). front ++ text_from quoted t) (sym none) ∙ whole

-- a line that was appended and filled
pub line-pushed : (old one new columns body : List ℕ) (quoted after : Bool) (n : ℕ) → body ≡ drop 6 columns → one ≡ old ++ text_from quoted body → after ≡ quoted_behind quoted body → n ≡ 66 - length body → new ≡ one ++ text_from after (replicate n 32) → new ≡ old ++ text_from quoted (body_of columns)
line-pushed old one new columns body quoted after n is front behind count filled =
    let joined = text_from-append quoted body (replicate n 32) in
    let grouped = append_assoc old (text_from quoted body) (text_from (quoted_behind quoted body) (replicate n 32)) in
    cc

-- so many blanks behind an open constant
pub blanks-filled : (old new : List ℕ) (quoted : Bool) (size count : ℕ) → size ≡ length old → quoted ≡ true → new ≡ take (size + count) old ++ replicate (size + count - size) 32 → new ≡ old ++ text_from quoted (replicate count 32)
blanks-filled old new quoted size count sized inside filled =
    let front : take (size + count) old ≡ old = take_all (size + count) old (omega arith) in
    let blanks = text_from-quoted_blanks quoted count inside in
    let more : size + count - size ≡ count = omega arith in
    cc
