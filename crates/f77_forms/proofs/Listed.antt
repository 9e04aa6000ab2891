-- Pieces that are taken one behind another.
use Rattle.std.proofs.Common.{◌≡◌, ℕ, zero, suc, ◌<◌, ◌≤◌, Bool, true, false, List, [], ◌∷◌, ◌++◌, length, Option, Some, None, refl, sym, ap, ◌∙◌, map, arith}
use Rattle.std.proofs.lemmas.List.{length-map}
use Rattle.std.specs.Prelude.{◌==◌, ◌&&◌, not, if◌then◌else◌}
use Rattle.f77_forms.specs.declared.fault.Fault.{Fault}
use Rattle.f77_forms.specs.declared.fault.Fault.TheVariants.{Memory, NoForm}
use Rattle.f77_forms.specs.declared.state.Piece.{Piece}
use Rattle.f77_forms.specs.State.{piece_of}
use Rattle.f77_forms.specs.Form.{ExpressionForm, DeclaratorForm, DefinitionForm, PrintedForm}
use Rattle.f77_forms.specs.Text.{has_bounds}
use Rattle.f77_forms.specs.Reading.{◌>>=◌, Fails, ItemForm, PieceForm}
use Rattle.f77_forms.specs.Statements.{Next, value_in, name_of, declarator_in, printed_in, item_next, value_next, name_next, declarator_next, printed_next, definition_next, listed_from}
use Rattle.f77_forms.proofs.Written.{bind_some, guard_some, some_is}

-- ---- each takes a piece at least

item-shorter : (separator : ℕ) (ps : List PieceForm) (r : ItemForm × List PieceForm) → item_next separator ps ≡ Some r → length r.1 < length ps
unfolding item_next
item-shorter separator [] r h = absurd cc
item-shorter separator (p ∷ ps) r h =
    let g = guard_some (p.separator == separator) (Some (p.item, ps)) r h in
    let rest : ps ≡ r.1 = ap (λ x. x.1) (some_is (p.item, ps) r g.1) in
    let same : length ps ≡ length r.1 = ap length rest in
    omega arith

value-shorter : (separator : ℕ) (ps : List PieceForm) (r : ExpressionForm × List PieceForm) → value_next separator ps ≡ Some r → length r.1 < length ps
unfolding value_next
value-shorter separator ps r h =
    let i = bind_some (item_next separator ps) (λ i. value_in i.0 >>= λ e. Some (e, i.1)) r h in
    let e = bind_some (value_in i.0.0) (λ e. Some (e, i.0.1)) r i.2 in
    let rest : length i.0.1 ≡ length r.1 = ap (λ x. length x.1) (some_is (e.0, i.0.1) r e.2) in
    let short = item-shorter separator ps i.0 i.1 in
    omega arith

name-shorter : (separator : ℕ) (ps : List PieceForm) (r : List ℕ × List PieceForm) → name_next separator ps ≡ Some r → length r.1 < length ps
unfolding name_next
name-shorter separator ps r h =
    let e = bind_some (value_next separator ps) (λ e. name_of e.0 >>= λ n. Some (n, e.1)) r h in
    let n = bind_some (name_of e.0.0) (λ n. Some (n, e.0.1)) r e.2 in
    let rest : length e.0.1 ≡ length r.1 = ap (λ x. length x.1) (some_is (n.0, e.0.1) r n.2) in
    let short = value-shorter separator ps e.0 e.1 in
    omega arith

pub declarator-shorter : (bounded : Bool) (ps : List PieceForm) (r : DeclaratorForm × List PieceForm) → declarator_next bounded ps ≡ Some r → length r.1 < length ps
unfolding declarator_next
declarator-shorter bounded ps r h =
    let i = bind_some (item_next 44 ps) (λ i. declarator_in i.0 >>= λ d. (if bounded && not (has_bounds d) then None else Some (d, i.1))) r h in
    let d = bind_some (declarator_in i.0.0) (λ d. (if bounded && not (has_bounds d) then None else Some (d, i.0.1))) r i.2 in
    let rest : length i.0.1 ≡ length r.1 = ap (λ x. length x.1) (unless (bounded && not (has_bounds d.0)) (d.0, i.0.1) d.2) in
    let short = item-shorter 44 ps i.0 i.1 in
    omega arith
  where
    unless : (b : Bool) (x : DeclaratorForm × List PieceForm) → (if b then None else Some x) ≡ Some r → x ≡ r
    unless true x h = absurd cc
    unless false x h = some_is x r h

pub printed-shorter : (ps : List PieceForm) (r : PrintedForm × List PieceForm) → printed_next ps ≡ Some r → length r.1 < length ps
unfolding printed_next
printed-shorter ps r h =
    let i = bind_some (item_next 44 ps) (λ i. printed_in i.0 >>= λ p. Some (p, i.1)) r h in
    let p = bind_some (printed_in i.0.0) (λ p. Some (p, i.0.1)) r i.2 in
    let rest : length i.0.1 ≡ length r.1 = ap (λ x. length x.1) (some_is (p.0, i.0.1) r p.2) in
    let short = item-shorter 44 ps i.0 i.1 in
    omega arith

pub definition-shorter : (ps : List PieceForm) (r : DefinitionForm × List PieceForm) → definition_next ps ≡ Some r → length r.1 < length ps
unfolding definition_next
definition-shorter ps r h =
    let n = bind_some (name_next 44 ps) (λ n. value_next 61 n.1 >>= λ v. Some (record { name = n.0; value = v.0 }, v.1)) r h in
    let v = bind_some (value_next 61 n.0.1) (λ v. Some (record { name = n.0.0; value = v.0 }, v.1)) r n.2 in
    let rest : length v.0.1 ≡ length r.1 = ap (λ x. length x.1) (some_is (record { name = n.0.0; value = v.0.0 }, v.0.1) r v.2) in
    let first = name-shorter 44 ps n.0 n.1 in
    let second = value-shorter 61 n.0.1 v.0 v.1 in
    omega arith

-- ---- turns of a loop

-- what was taken, and the pieces to come, make the whole
pub record Rests {A : Type 0} (next : List PieceForm → Next A) (total : Option (List A)) (front : List A) (ps : List PieceForm) : Type 0 where
  pub count : ℕ
  pub enough : length ps ≤ count
  pub same : listed_from next count front ps ≡ total

pub listed-goes : {A : Type 0} (next : List PieceForm → Next A) (total : Option (List A)) (front : List A) (ps : List PieceForm) (r : A × List PieceForm) → 0 < length ps → length r.1 < length ps → next ps ≡ Some r → Rests next total front ps → Rests next total (front ++ r.0 ∷ []) r.1
unfolding listed_from
listed-goes next total front [] r some short h so_far = absurd (omega arith)
listed-goes {A = A} next total front (p ∷ ps) r some short h so_far = by_count so_far.count so_far.enough so_far.same
  where
    by_count : (n : ℕ) → length (p ∷ ps) ≤ n → listed_from next n front (p ∷ ps) ≡ total → Rests next total (front ++ r.0 ∷ []) r.1
    by_count zero e s = absurd (omega arith)
    by_count (suc n) e s = record { count = n; enough = omega arith; same = sym (ap (λ (o : Option (A × List PieceForm)). o >>= λ r. listed_from next n (front ++ r.0 ∷ []) r.1) h) ∙ s }

pub listed-stops : {A : Type 0} (fault : Fault) (next : List PieceForm → Next A) (total : Option (List A)) (front : List A) (ps : List PieceForm) → 0 < length ps → Fails fault (next ps) → Rests next total front ps → Fails fault total
unfolding listed_from
listed-stops Memory next total front ps some h so_far = tt
listed-stops NoForm next total front [] some h so_far = absurd (omega arith)
listed-stops {A = A} NoForm next total front (p ∷ ps) some h so_far = by_count so_far.count so_far.enough so_far.same
  where
    by_count : (n : ℕ) → length (p ∷ ps) ≤ n → listed_from next n front (p ∷ ps) ≡ total → total ≡ None
    by_count zero e s = absurd (omega arith)
    by_count (suc n) e s = sym s ∙ ap (λ (o : Option (A × List PieceForm)). o >>= λ r. listed_from next n (front ++ r.0 ∷ []) r.1) h

pub listed-ends : {A : Type 0} (next : List PieceForm → Next A) (total : Option (List A)) (front : List A) (ps : List PieceForm) → length ps ≤ 0 → Rests next total front ps → total ≡ Some front
unfolding listed_from
listed-ends next total front [] none so_far = sym so_far.same ∙ by_count so_far.count
  where
    by_count : (n : ℕ) → listed_from next n front [] ≡ Some front
    by_count n = refl
listed-ends next total front (p ∷ ps) none so_far = absurd (omega arith)

-- as many as there are in memory
pub some_left : (xs : List Piece) → 0 < length xs → 0 < length (map piece_of xs)
some_left xs h = omega (arith, length-map xs piece_of)

pub none_left : (xs : List Piece) → length xs ≤ 0 → length (map piece_of xs) ≤ 0
none_left xs h = omega (arith, length-map xs piece_of)

pub fewer_left : (xs ys : List Piece) → length (map piece_of xs) < length (map piece_of ys) → length xs < length ys
fewer_left xs ys h = omega (arith, length-map xs piece_of, length-map ys piece_of)
