-- Lists that grow by one item for each of some others.
use Rattle.std.proofs.Common.{◌≡◌, List, [], ◌∷◌, ◌++◌, ap, sym, ◌∙◌, subst, append_assoc, append-nil}
use Rattle.std.specs.List.{AllZip}
use Rattle.nest_walk.specs.Grown.{GrewBy}

pub AllZip-append : {A B : Type 0} (R : A → B → Type 0) (xs xs' : List A) (ys ys' : List B) → AllZip R xs ys → AllZip R xs' ys' → AllZip R (xs ++ xs') (ys ++ ys')
AllZip-append R [] xs' [] ys' h k = k
AllZip-append R [] xs' (y ∷ ys) ys' h k = absurd h
AllZip-append R (x ∷ xs) xs' [] ys' h k = absurd h
AllZip-append R (x ∷ xs) xs' (y ∷ ys) ys' h k = (h.0, AllZip-append R xs xs' ys ys' h.1 k)

pub grew-none : {A B : Type 0} (R : A → B → Type 0) (old : List B) → GrewBy R [] old old
grew-none R old = record { added = []; behind = sym (append-nil old); each = tt }

pub grew-one : {A B : Type 0} (R : A → B → Type 0) (x : A) (old new : List B) (y : B) → R x y → new ≡ old ++ y ∷ [] → GrewBy R (x ∷ []) old new
grew-one R x old new y h is = record { added = y ∷ []; behind = is; each = (h, tt) }

pub grew-both : {A B : Type 0} (R : A → B → Type 0) (xs ys : List A) (old middle new : List B) → GrewBy R xs old middle → GrewBy R ys middle new → GrewBy R (xs ++ ys) old new
grew-both R xs ys old middle new h k = record {
  added = h.added ++ k.added;
  behind = k.behind ∙ ap (λ zs. zs ++ k.added) h.behind ∙ append_assoc old h.added k.added;
  each = AllZip-append R xs ys h.added k.added h.each k.each;
}

pub grew-from_none : {A B : Type 0} (R : A → B → Type 0) (xs : List A) (old new : List B) → old ≡ [] → GrewBy R xs old new → AllZip R xs new
grew-from_none R xs old new none h = subst (AllZip R xs) (sym (h.behind ∙ ap (λ zs. zs ++ h.added) none)) h.each
