-- Owners meet their rows, and the sides of a piece its last rows.
use Rattle.std.proofs.Common.{◌≡◌, ℕ, suc, ◌+◌, ◌<◌, ℤ, pos, negsuc, ◌+ℤ◌, ◌*ℤ◌, ◌-ℤ◌, neg_ℤ, true, List, [], ◌∷◌, map, length, refl, ap, subst, arith}
use Rattle.std.specs.List.{AllByRecursion}
use Rattle.std.proofs.lemmas.Int.{ints}
use Rattle.nest_tree.specs.Form.{dot, form_value, numbered}
use Rattle.nest_tree.specs.WellFormed.{names_only}
use Rattle.nest_rows.specs.declared.constraint.Sign.TheVariants.{Plus, Minus}
use Rattle.nest_rows.specs.Constraints.{IsMet}
use Rattle.nest_rows.specs.Places.{AreLaid, terms_of}
use Rattle.nest_rows.specs.Signs.{with_sign}
use Rattle.nest_rows.proofs.Dots.{AreConstants, dot-append, dot-form, dot-signed, neg-mul, numbers}
use Rattle.nest_rows.proofs.GroupsMet.{both_met}
use Rattle.owner_partition.specs.declared.anchor.Dist.{Dist}
use Rattle.owner_partition.specs.declared.anchor.Dist.TheVariants.{Block, Cyclic}
use Rattle.comm_system.specs.Meetings.{Holder, Holds, LiesAmong, LiesBeside, holder_values, holders_values}
use Rattle.comm_system.specs.OwnerRows.{Direction, Piece, Placed, above, below, beside, distance, last_rows, owner_has, owner_numbers, owner_unknowns, owners_have, owns, sign_of}
use Rattle.comm_system.specs.PairRows.{apart}
use Rattle.comm_laws.proofs.Lies.{LiesAt, lies-left, lies-right}
use Rattle.comm_laws.proofs.PairMet.{apart_met}

-- the value of an anchor's form
owns_met : (values : List ℤ) (dist : Dist) (workers q : ℕ) (terms : List (ℕ × ℤ)) (constant w : ℤ) (o : Holder) → constant +ℤ dot terms values ≡ w → LiesAt values q (holder_values dist o) → Holds dist workers w o →
    AllByRecursion (IsMet values) (owns dist workers q terms constant)
owns_met values (Block b) workers q terms constant w o is lies holds =
    let at : pos b *ℤ numbered values q ≡ pos b *ℤ pos o.owner = ap (λ z. pos b *ℤ z) lies.0 in (
      omega (arith, ints, dot-signed Minus terms values, at, is, holds.1),
      (omega (arith, ints, dot-append (with_sign Plus terms) ((q, neg_ℤ (pos b)) ∷ []) values, dot-signed Plus terms values, neg-mul (pos b) (numbered values q), at, is, holds.2), tt),
    )
owns_met values Cyclic workers q terms constant w o is lies holds =
    let round : pos workers *ℤ numbered values (suc q) ≡ pos workers *ℤ o.round = ap (λ z. pos workers *ℤ z) lies.1.0 in (
      omega (arith, ints, dot-append (with_sign Plus terms) ((suc q, neg_ℤ (pos workers)) ∷ (q, negsuc 0) ∷ []) values, dot-signed Plus terms values, neg-mul (pos workers) (numbered values (suc q)), round, lies.0, is, holds.1),
      (omega (arith, ints, dot-append (with_sign Minus terms) ((suc q, pos workers) ∷ (q, pos 1) ∷ []) values, dot-signed Minus terms values, round, lies.0, is, holds.1), tt),
    )

holder_first : (values : List ℤ) (dist : Dist) (q : ℕ) (o : Holder) → LiesAt values q (holder_values dist o) → numbered values q ≡ pos o.owner
holder_first values (Block b) q o lies = lies.0
holder_first values Cyclic q o lies = lies.0

pub holds_below : (dist : Dist) (workers : ℕ) (w : ℤ) (o : Holder) → Holds dist workers w o → o.owner < workers
holds_below (Block b) workers w o h = h.0
holds_below Cyclic workers w o h = h.0

-- an anchor at a point's loops, and its owner
pub record Seated (values params : List ℤ) (workers : ℕ) (p : Placed) (o : Holder) : Type 0 where
  pub loops : List ℤ
  pub trips : List ℕ
  pub laid : AreLaid values p.first loops p.around trips
  pub named : names_only (length params) (numbers p.around) p.anchor.form ≡ true
  pub holds : Holds p.anchor.dist workers (form_value p.anchor.form loops params) o

owner_met : (values params : List ℤ) (workers q : ℕ) (p : Placed) (o : Holder) → AreConstants values params → Seated values params workers p o → LiesAt values q (holder_values p.anchor.dist o) → AllByRecursion (IsMet values) (owner_has workers q p)
owner_met values params workers q p o constants s lies =
    let f = p.anchor.form in
    let terms = terms_of p.first p.around f in
    let first = holder_first values p.anchor.dist q o lies in
    let less = holds_below p.anchor.dist workers (form_value f s.loops params) o s.holds in
    both_met values (owns p.anchor.dist workers q terms f.constant) (record { terms = (q, negsuc 0) ∷ []; bound = pos 0 } ∷ record { terms = (q, pos 1) ∷ []; bound = pos workers -ℤ pos 1 } ∷ [])
    (owns_met values p.anchor.dist workers q terms f.constant (form_value f s.loops params) o (dot-form values p.first s.loops p.around s.trips params f s.laid constants s.named) lies s.holds)
    (omega (arith, ints, first), (omega (arith, ints, first, less), tt))

-- owners one behind another
abbrev pub AreSeated : List ℤ → List ℤ → ℕ → List Placed → List Holder → Type 0
AreSeated values params workers [] [] = Unit {0}
AreSeated values params workers [] (o ∷ os) = ⊥
AreSeated values params workers (p ∷ placed) [] = ⊥
AreSeated values params workers (p ∷ placed) (o ∷ os) = Seated values params workers p o × AreSeated values params workers placed os

pub holder-length : (dist : Dist) (o : Holder) → length (holder_values dist o) ≡ owner_unknowns dist
holder-length (Block b) o = refl
holder-length Cyclic o = refl

pub owners_met : (values params : List ℤ) (workers q : ℕ) (placed : List Placed) (os : List Holder) → AreConstants values params → AreSeated values params workers placed os → LiesAt values q (holders_values placed os) → AllByRecursion (IsMet values) (owners_have workers q placed)
owners_met values params workers q [] os constants seated lies = tt
owners_met values params workers q (p ∷ placed) [] constants seated lies = absurd seated
owners_met values params workers q (p ∷ placed) (o ∷ os) constants seated lies =
    let here = lies-left values q (holder_values p.anchor.dist o) (holders_values placed os) lies in
    let later = lies-right values q (holder_values p.anchor.dist o) (holders_values placed os) lies in
    let next : q + length (holder_values p.anchor.dist o) ≡ q + owner_unknowns p.anchor.dist = ap (λ n. q + n) (holder-length p.anchor.dist o) in
    both_met values (owner_has workers q p) (owners_have workers (q + owner_unknowns p.anchor.dist) placed) (owner_met values params workers q p o constants seated.0 here)
    (owners_met values params workers (q + owner_unknowns p.anchor.dist) placed os constants seated.1 (subst (λ n. LiesAt values n (holders_values placed os)) next later))

-- the owners' unknowns have the owners
abbrev pub AreNumbered : List ℤ → List ℕ → List Holder → Type 0
AreNumbered values [] [] = Unit {0}
AreNumbered values [] (o ∷ os) = ⊥
AreNumbered values (n ∷ ns) [] = ⊥
AreNumbered values (n ∷ ns) (o ∷ os) = (numbered values n ≡ pos o.owner) × AreNumbered values ns os

pub owners_numbered : (values params : List ℤ) (workers q : ℕ) (placed : List Placed) (os : List Holder) → AreSeated values params workers placed os → LiesAt values q (holders_values placed os) → AreNumbered values (owner_numbers q placed) os
owners_numbered values params workers q [] [] seated lies = tt
owners_numbered values params workers q [] (o ∷ os) seated lies = absurd seated
owners_numbered values params workers q (p ∷ placed) [] seated lies = absurd seated
owners_numbered values params workers q (p ∷ placed) (o ∷ os) seated lies =
    let here = lies-left values q (holder_values p.anchor.dist o) (holders_values placed os) lies in
    let later = lies-right values q (holder_values p.anchor.dist o) (holders_values placed os) lies in
    let next : q + length (holder_values p.anchor.dist o) ≡ q + owner_unknowns p.anchor.dist = ap (λ n. q + n) (holder-length p.anchor.dist o) in
    (holder_first values p.anchor.dist q o here, owners_numbered values params workers (q + owner_unknowns p.anchor.dist) placed os seated.1 (subst (λ n. LiesAt values n (holders_values placed os)) next later))

-- an owner lies on a side of another
side_met : (values : List ℤ) (d : Direction) (far m n x y : ℕ) → numbered values m ≡ pos x → numbered values n ≡ pos y → LiesBeside d far x y → IsMet values (apart (sign_of d) m n (neg_ℤ (pos far)))
side_met values below far m n x y here there h = apart_met values Plus m n (neg_ℤ (pos far)) (omega (arith, ints, here, there, h))
side_met values above far m n x y here there h = apart_met values Minus m n (neg_ℤ (pos far)) (omega (arith, ints, here, there, h))

-- the owners of holders
abbrev pub owners_in : List Holder → List ℕ
owners_in os = map (λ (o : Holder). o.owner) os

beside_met : (values : List ℤ) (q x : ℕ) (ns : List ℕ) (os : List Holder) (ds : List Direction) → numbered values q ≡ pos x → AreNumbered values ns os → LiesAmong x (owners_in os) ds → AllByRecursion (IsMet values) (beside q ns ds)
beside_met values q x [] os ds at numbered_so among = tt
beside_met values q x (n ∷ ns) os [] at numbered_so among = tt
beside_met values q x (n ∷ ns) [] (d ∷ ds) at numbered_so among = absurd numbered_so
beside_met values q x (n ∷ ns) (o ∷ os) (d ∷ ds) at numbered_so among = (side_met values d 1 q n x o.owner at numbered_so.0 among.0, beside_met values q x ns os ds at numbered_so.1 among.1)

pub last_met : (values : List ℤ) (left right q p x y : ℕ) (ns : List ℕ) (os : List Holder) (piece : Piece) → numbered values q ≡ pos x → numbered values p ≡ pos y → AreNumbered values ns os → LiesBeside piece.range (distance piece.range left right) x y → LiesAmong x (owners_in os) piece.producers →
    AllByRecursion (IsMet values) (last_rows left right q p ns piece)
last_met values left right q p x y ns os piece at at' numbered_so range among =
    (side_met values piece.range (distance piece.range left right) q p x y at at' range, beside_met values q x ns os piece.producers at numbered_so among)
