use Rattle.std.proofs.Common.{◌≡◌, ◌+◌, Option, Some, None, true, false, slice_get, drop, length, refl, ap, sym, ◌∙◌, arith}
use Rattle.std.specs.Prelude.{is_some}
use Rattle.std.specs.Option.{option_or}
use Rattle.std.proofs.lemmas.List.{drop_all}
use Rattle.plan_shape.proofs.Texts.{from_place}
use Rattle.comm_system.specs.SystemViews.{last_made, obligations_seen}
use Rattle.plan_checker.specs.Certificates.{fault_of, first_of}
use Rattle.plan_checker.proofs.certificates.fault_in_place.Goals as goal

first_stands : {X : Type 0} (o rest : Option X) → is_some o ≡ true → option_or o rest ≡ o
first_stands None rest h = absurd (let no : false ≡ true = h in cc)
first_stands (Some x) rest h = refl

first_passes : {X : Type 0} (o rest : Option X) → is_some o ≡ false → option_or o rest ≡ rest
first_passes None rest h = refl
first_passes (Some x) rest h = absurd (let no : true ≡ false = h in cc)

pub make-requires : goal.make-requires
make-requires c =
    let same = ap length c.loop-index.invariant.same in
    omega (arith, same, c.loop-index-test.true, c.count-index-end.ensures)

pub returns-then-is_some : goal.returns-then-is_some
returns-then-is_some c =
    let os = obligations_seen c.args.systems.now in
    let i = c.loop-index.index in
    let o = last_made c.make.new.self in
    let f = fault_of c.args.certificates.now in
    let same = c.in_ok-make.ensures.same ∙ c.loop-index.invariant.same in
    let at : slice_get os i ≡ Some o = ap (λ xs. slice_get xs i) (sym same) ∙ c.in_ok-make.ensures.made in
    let is : c.in_ok-found.found ≡ f o = c.in_ok-found.ensures in
    let some : is_some (f o) ≡ true = ap is_some (sym is) ∙ sym c.is_some.ensures ∙ c.if-is_some.true in
    is ∙ sym (first_stands (f o) (first_of f (drop (i + 1) os)) some) ∙ sym (ap (first_of f) (from_place os i o at)) ∙ c.loop-index.invariant.first

pub loop-index-preserved : goal.loop-index-preserved
loop-index-preserved c =
    let os = obligations_seen c.args.systems.now in
    let i = c.loop-index.index in
    let o = last_made c.make.new.self in
    let f = fault_of c.args.certificates.now in
    let same = c.in_ok-make.ensures.same ∙ c.loop-index.invariant.same in
    let at : slice_get os i ≡ Some o = ap (λ xs. slice_get xs i) (sym same) ∙ c.in_ok-make.ensures.made in
    let is : c.in_ok-found.found ≡ f o = c.in_ok-found.ensures in
    let none : is_some (f o) ≡ false = ap is_some (sym is) ∙ sym c.is_some.ensures ∙ c.if-is_some.false in
    record {
      same = same;
      first = sym (first_passes (f o) (first_of f (drop (i + 1) os)) none) ∙ sym (ap (first_of f) (from_place os i o at)) ∙ c.loop-index.invariant.first;
    }

pub returns : goal.returns
returns c =
    let os = obligations_seen c.args.systems.now in
    let i = c.loop-index.index in
    let f = fault_of c.args.certificates.now in
    sym (ap (first_of f) (drop_all i os (omega (arith, c.loop-index-test.false, c.count-index-end.ensures)))) ∙ c.loop-index.invariant.first
