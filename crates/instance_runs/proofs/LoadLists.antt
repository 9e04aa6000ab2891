-- Loads that are done one behind another.
use Rattle.std.proofs.Common.{◌≡◌, ◌≤◌, ◌<◌, ℕ, zero, suc, ◌+◌, ℤ, length, drop, get_or, take, refl, List, [], ◌∷◌, ◌++◌, map, sym, ap, ◌∙◌, append_assoc, arith}
use Rattle.std.specs.List.{range_with_len}
use borrow.Rule.Slice.PartMut.{put_mid}
use Rattle.std.proofs.Math.Seq.{split_at, take-append-add}
use Rattle.std.proofs.lemmas.List.{append_cancel_left, length-take-le, map-append, map_more, take-take}
use Rattle.std.proofs.lemmas.Slice.{take-put_mid}
use Rattle.spmd_model.specs.Deeds.{Deed, loading}

-- what comes next of loads of which some are done
pub loads_next : (all done mid later : List ℕ) (first now rest : List Deed) → all ≡ done ++ (mid ++ later) → first ≡ map loading all ++ rest → first ≡ map loading done ++ now → now ≡ map loading mid ++ (map loading later ++ rest)
loads_next all done mid later first now rest split is behind =
    let parts = map-append loading done (mid ++ later) ∙ ap (λ l. map loading done ++ l) (map-append loading mid later) in
    append_cancel_left (map loading done) now (map loading mid ++ (map loading later ++ rest))
    (sym behind ∙ is ∙ ap (λ l. map loading l ++ rest) split ∙ ap (λ l. l ++ rest) parts ∙ append_assoc (map loading done) (map loading mid ++ map loading later) rest
    ∙ ap (λ l. map loading done ++ l) (append_assoc (map loading mid) (map loading later) rest))

-- and some more are done
pub loads_more : (done mid more : List ℕ) (first now new : List Deed) → more ≡ done ++ mid → first ≡ map loading done ++ now → now ≡ map loading mid ++ new → first ≡ map loading more ++ new
loads_more done mid more first now new is behind went =
    behind ∙ ap (λ l. map loading done ++ l) went ∙ sym (append_assoc (map loading done) (map loading mid) new) ∙ ap (λ l. l ++ new) (sym (map-append loading done mid)) ∙ ap (λ l. map loading l ++ new) (sym is)

-- numbers from one on, with one of them
pub range_split : (a k m : ℕ) → range_with_len a (k + suc m) ≡ range_with_len a k ++ ((a + k) ∷ range_with_len (a + k + 1) m)
range_split a zero m =
    let none : zero + suc m ≡ suc m = omega arith in
    let here : a ≡ a + zero = omega arith in
    let behind : a + 1 ≡ a + zero + 1 = omega arith in
    ap (range_with_len a) none ∙ ap (λ b. b ∷ range_with_len (a + 1) m) here ∙ ap (λ b. (a + zero) ∷ range_with_len b m) behind
range_split a (suc k) m =
    let more : suc k + suc m ≡ suc (k + suc m) = omega arith in
    let here : a + 1 + k ≡ a + suc k = omega arith in
    ap (range_with_len a) more ∙ ap (λ l. a ∷ l) (range_split (a + 1) k m) ∙ ap (λ b. (a ∷ range_with_len (a + 1) k) ++ (b ∷ range_with_len (b + 1) m)) here

pub range_more : (a k : ℕ) → range_with_len a (k + 1) ≡ range_with_len a k ++ ((a + k) ∷ [])
range_more a k = range_split a k 0

-- the front of a list of which a part behind so many was written
pub front_written : (a k w : ℕ) (xs ys : List ℤ) → a ≤ length xs → w ≤ length ys → take (a + w) (put_mid a k xs ys) ≡ take a xs ++ take w ys
front_written a k w xs ys inside few =
    let more : a + w ≤ a + length ys = omega (arith, few) in
    let long : length (take a xs) ≡ a = length-take-le a xs inside in
    let at : a + w ≡ length (take a xs) + w = omega (arith, long) in
    sym (take-take (a + w) (a + length ys) (put_mid a k xs ys) more) ∙ ap (take (a + w)) (take-put_mid a k xs ys (a + length ys) refl inside) ∙ ap (λ n. take n (take a xs ++ ys)) at ∙ take-append-add (take a xs) ys w

-- what a list's elements become, with one of them
pub map_split : {A : Type 0} (f : A → ℕ) (xs : List A) (k : ℕ) (d : A) (n : ℕ) → k < length xs → n ≡ f (get_or xs k d) → map f xs ≡ map f (take k xs) ++ ((n ∷ []) ++ map f (drop (suc k) xs))
map_split f xs k d n lt is = ap (map f) (split_at xs k d lt) ∙ map-append f (take k xs) (get_or xs k d ∷ drop (suc k) xs) ∙ ap (λ m. map f (take k xs) ++ (m ∷ map f (drop (suc k) xs))) (sym is)

pub map_next : {A : Type 0} (f : A → ℕ) (xs : List A) (k : ℕ) (d : A) (n : ℕ) → k < length xs → n ≡ f (get_or xs k d) → map f (take (k + 1) xs) ≡ map f (take k xs) ++ (n ∷ [])
map_next f xs k d n lt is = map_more f xs k d lt ∙ ap (λ m. map f (take k xs) ++ (m ∷ [])) (sym is)
