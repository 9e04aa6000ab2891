use Rattle.std.proofs.Common.{◌+◌, ◌++◌, length, map, take, get_or, sym, subst}
use Rattle.std.specs.List.{flat_map}
use Rattle.std.proofs.lemmas.List.{take_all}
use Rattle.nest_tree.specs.declared.tree.Parameter.{Parameter}
use Rattle.nest_walk.proofs.TableParts.{pieces_taken}
use Rattle.presolve.specs.Columns.{AreRising}
use Rattle.presolve.proofs.Searching.{at_least}
use Rattle.nest_systems.specs.Kept.{HasKept, numbers_of, value_of}
use Rattle.nest_systems.proofs.KeptPlaces.{here}
use Rattle.nest_systems.proofs.KeptRowLists.{keeps-both, keeps-none, kept-vars}
use Rattle.nest_systems.proofs.kept.KeptRows.push_values.Goals as goal

pub loop-number-init : goal.loop-number-init
loop-number-init c = keeps-none c.args.self.now

pub loop-number-preserved : goal.loop-number-preserved
loop-number-preserved c =
    let vs = map (λ (p : Parameter). p.value) c.args.values.now in
    let ks = c.args.kept.now in
    let count = length c.args.values.now in
    let i = c.loop-number.number-index in
    let k = get_or ks i 0 in
    let old = c.args.self.now in
    let new = c.push_value.new.self in
    let lt = c.loop-number-test.true in
    let both = keeps-both (flat_map (value_of vs) (take i ks)) (value_of vs k) (flat_map (numbers_of count) (take i ks)) (numbers_of count k) old c.loop-number.self new c.loop-number.invariant c.in_ok-push_value.ensures in
    subst (λ cs. HasKept cs (flat_map (numbers_of count) (take (i + 1) ks)) old new) (sym (pieces_taken (value_of vs) ks i k lt (here ks i lt)))
    (subst (λ ns. HasKept (flat_map (value_of vs) (take i ks) ++ value_of vs k) ns old new) (sym (pieces_taken (numbers_of count) ks i k lt (here ks i lt))) both)

pub returns : goal.returns
returns c =
    let vs = map (λ (p : Parameter). p.value) c.args.values.now in
    let ks = c.args.kept.now in
    subst (λ xs. HasKept (flat_map (value_of vs) xs) (flat_map (numbers_of (length c.args.values.now)) xs) c.args.self.now c.loop-number.self) (take_all c.loop-number.number-index ks c.loop-number-test.false) c.loop-number.invariant

pub push_value-requires-clause-number : goal.push_value-requires-clause-number
push_value-requires-clause-number c = let (upto, rising) = c.requires.kept in at_least 1 upto c.args.kept.now c.loop-number.number-index rising c.loop-number-test.true

pub push_value-requires-clause-rising : goal.push_value-requires-clause-rising
push_value-requires-clause-rising c = let (vars, rising) = c.requires.rising in (vars, subst (λ (cols : _). AreRising 0 vars cols.now) (sym c.loop-number.invariant.columns) rising)

pub push_value-requires-clause-vars : goal.push_value-requires-clause-vars
push_value-requires-clause-vars c = kept-vars _ _ c.args.self.now c.loop-number.self c.loop-number.invariant c.requires.vars
