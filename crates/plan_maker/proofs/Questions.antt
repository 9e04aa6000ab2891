-- Systems one behind another: which are refuted, and the first that is kept.
use Rattle.std.proofs.Common.{◌≡◌, ℕ, zero, suc, ◌+◌, ◌<◌, List, [], ◌∷◌, ◌++◌, take, drop, get_or, length, map, refl, ap, sym, ◌∙◌, subst}
use Rattle.std.specs.Prelude.{slice_get, Some}
use Rattle.std.specs.List.{flat_map}
use Rattle.list_lemmas.proofs.Appending.{take-behind}
use Rattle.list_lemmas.proofs.Gets.{get-front, get-behind}
use Rattle.farkas_cert.specs.declared.certificate.Certificate.{Certificate}
use Rattle.farkas_cert.specs.Good.{IsGood}
use Rattle.std.proofs.lemmas.Grind.{flat_map-append}
use Rattle.std.proofs.lemmas.List.{append-nil, at_drop_more, take-append-drop, take_more}
use Rattle.std.proofs.lemmas.List.Concat.{flat_map_single}
use Rattle.std.proofs.lemmas.List.Folds.{flat_map-map}
use Rattle.std.proofs.lemmas.Option.{slice_get_within}
use Rattle.nest_walk.proofs.Grown.{AllZip-append}
use Rattle.plan_maker.specs.Asked.{AreRefuted, Asked, IsCause, IsSaid}
use Rattle.plan_maker.specs.declared.cause.Cause.{Cause}

pub refuted-append : (qs rs : List Asked) (cs ds : List Certificate) → AreRefuted qs cs → AreRefuted rs ds → AreRefuted (qs ++ rs) (cs ++ ds)
refuted-append qs rs cs ds h k = AllZip-append (λ (q : Asked) (c : Certificate). IsGood q.task.system c) qs rs cs ds h k

take-front : {X : Type 0} (xs ys : List X) (n : ℕ) (x : X) → slice_get xs n ≡ Some x → take n (xs ++ ys) ≡ take n xs
take-front [] ys n x at = absurd (cc)
take-front (z ∷ xs) ys zero x at = refl
take-front (z ∷ xs) ys (suc n) x at = ap (λ zs. z ∷ zs) (take-front xs ys n x at)

-- behind systems that are refuted
pub cause-behind : (qs rs : List Asked) (cs : List Certificate) (cause : Cause) → AreRefuted qs cs → IsCause rs cause → IsCause (qs ++ rs) cause
cause-behind qs rs cs cause h k = record {
  place = length qs + k.place;
  certificates = cs ++ k.certificates;
  before = subst (λ zs. AreRefuted zs (cs ++ k.certificates)) (sym (take-behind qs rs k.place)) (refuted-append qs (take k.place rs) cs k.certificates h k.before);
  question = k.question;
  at = get-behind qs rs k.place ∙ k.at;
  said = k.said;
}

-- in front of any
pub cause-front : (qs rs : List Asked) (cause : Cause) → IsCause qs cause → IsCause (qs ++ rs) cause
cause-front qs rs cause k = record {
  place = k.place;
  certificates = k.certificates;
  before = subst (λ zs. AreRefuted zs k.certificates) (sym (take-front qs rs k.place k.question k.at)) k.before;
  question = k.question;
  at = get-front qs rs k.place (slice_get_within qs k.place k.question k.at) ∙ k.at;
  said = k.said;
}

-- one more of things that each ask something
module _ {X : Type 0} (f : X → List Asked) (xs : List X) (i : ℕ) (x : X) (lt : i < length xs) (is : x ≡ get_or xs i x) where
  one-more : flat_map f (take (i + 1) xs) ≡ flat_map f (take i xs) ++ f x
  one-more =
      ap (flat_map f) (take_more xs i x lt ∙ ap (λ y. take i xs ++ y ∷ []) (sym is)) ∙ flat_map-append f (take i xs) (x ∷ []) ∙ ap (λ ys. flat_map f (take i xs) ++ ys) (append-nil (f x))

  whole : flat_map f xs ≡ flat_map f (take i xs) ++ (f x ++ flat_map f (drop (i + 1) xs))
  whole =
      ap (flat_map f) (sym (take-append-drop i xs)) ∙ flat_map-append f (take i xs) (drop i xs)
      ∙ ap (λ ys. flat_map f (take i xs) ++ ys) (at_drop_more (flat_map f) xs i x lt ∙ ap (λ y. f y ++ flat_map f (drop (i + 1) xs)) (sym is))

  pub flat_more : (cs ds : List Certificate) → AreRefuted (flat_map f (take i xs)) cs → AreRefuted (f x) ds → AreRefuted (flat_map f (take (i + 1) xs)) (cs ++ ds)
  flat_more cs ds h k = subst (λ qs. AreRefuted qs (cs ++ ds)) (sym one-more) (refuted-append (flat_map f (take i xs)) (f x) cs ds h k)

  pub flat_kept : (cs : List Certificate) (cause : Cause) → AreRefuted (flat_map f (take i xs)) cs → IsCause (f x) cause → IsCause (flat_map f xs) cause
  flat_kept cs cause h k =
      subst (λ qs. IsCause qs cause) (sym whole) (cause-behind (flat_map f (take i xs)) (f x ++ flat_map f (drop (i + 1) xs)) cs cause h (cause-front (f x) (flat_map f (drop (i + 1) xs)) cause k))

-- of things that each ask one
pub one_said : (q : Asked) (cause : Cause) → IsSaid q cause → IsCause (q ∷ []) cause
one_said q cause said = record { place = 0; certificates = []; before = tt; question = q; at = refl; said = said }

module _ {X : Type 0} (f : X → Asked) (xs : List X) (i : ℕ) (x : X) (lt : i < length xs) (is : x ≡ get_or xs i x) where
  each : (ys : List X) → map f ys ≡ flat_map (λ y. f y ∷ []) ys
  each ys = sym (flat_map_single f ys)

  pub map_more : (cs : List Certificate) (c : Certificate) → AreRefuted (map f (take i xs)) cs → IsGood (f x).task.system c → AreRefuted (map f (take (i + 1) xs)) (cs ++ c ∷ [])
  map_more cs c h good =
      subst (λ qs. AreRefuted qs (cs ++ c ∷ [])) (sym (each (take (i + 1) xs))) (flat_more (λ y. f y ∷ []) xs i x lt is cs (c ∷ []) (subst (λ qs. AreRefuted qs cs) (each (take i xs)) h) (good, tt))

  pub map_kept : (cs : List Certificate) (cause : Cause) → AreRefuted (map f (take i xs)) cs → IsSaid (f x) cause → IsCause (map f xs) cause
  map_kept cs cause h said =
      subst (λ qs. IsCause qs cause) (sym (each xs)) (flat_kept (λ y. f y ∷ []) xs i x lt is cs cause (subst (λ qs. AreRefuted qs cs) (each (take i xs)) h) (one_said (f x) cause said))

-- of things by what is seen of them
module _ {X Y : Type 0} (f : Y → List Asked) (v : X → Y) (xs : List X) (i : ℕ) (x : X) (lt : i < length xs) (is : x ≡ get_or xs i x) where
  pub seen_more : (cs ds : List Certificate) → AreRefuted (flat_map f (map v (take i xs))) cs → AreRefuted (f (v x)) ds → AreRefuted (flat_map f (map v (take (i + 1) xs))) (cs ++ ds)
  seen_more cs ds h k =
      subst (λ qs. AreRefuted qs (cs ++ ds)) (sym (flat_map-map f v (take (i + 1) xs)))
      (flat_more (λ y. f (v y)) xs i x lt is cs ds (subst (λ qs. AreRefuted qs cs) (flat_map-map f v (take i xs)) h) k)

  pub seen_kept : (cs : List Certificate) (cause : Cause) → AreRefuted (flat_map f (map v (take i xs))) cs → IsCause (f (v x)) cause → IsCause (flat_map f (map v xs)) cause
  seen_kept cs cause h k =
      subst (λ qs. IsCause qs cause) (sym (flat_map-map f v xs))
      (flat_kept (λ y. f (v y)) xs i x lt is cs cause (subst (λ qs. AreRefuted qs cs) (flat_map-map f v (take i xs)) h) k)
