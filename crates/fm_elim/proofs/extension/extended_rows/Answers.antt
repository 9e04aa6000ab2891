use Rattle.std.proofs.Common.{rules, ◌≡◌, ◌+◌, ◌-◌, ◌<◌, ◌≤◌, FitsSigned, to_z, of_z, drop, take, length, get_or, ap, sym, ◌∙◌, subst, arith}
use Rattle.std.specs.Int.{w128}
use Rattle.std.specs.List.{Contains}
use Rattle.std.proofs.lemmas.Int.{to_z-of_z}
use Rattle.std.proofs.lemmas.List.{length-drop, get_or-drop}
use Rattle.std.proofs.lemmas.List.Elements.{Contains-get_or}
use Rattle.elim_rows.specs.declared.candidate.Origin.TheVariants.{Numbered}
use Rattle.elim_level.specs.Forming.{IsFormed}
use Rattle.fm_elim.specs.Moved.{moved_by, moved_held}
use Rattle.elim_rows.specs.Table.{IsPut, candidate_with}
use Rattle.elim_level.specs.Logs.{IsHeld, rows_of}
use Rattle.fm_elim.proofs.Endings.{length-all_rows}
use Rattle.elim_level.proofs.Given.{given_suited}
use Rattle.elim_level.proofs.Leveling.{lowest_from}
use Rattle.fm_elim.proofs.Joining.{IsEither, rest_whole, number_given, taken_held, taken_further, both_formed}
use Rattle.fm_elim.proofs.extension.extended_rows.Goals as goal

pub moved-number-requires : goal.moved-number-requires
moved-number-requires c =
    let given = c.args.given in
    let whole = c.args.whole.now in
    let log = c.args.log.now.items in
    let all = c.rows.result.now in
    let same : all ≡ whole.rows = c.rows.ensures.rows in
    let i = c.loop-held.held-index in
    let h = c.held-item.result in
    let list = c.deref-held-items.ensures.value in
    let is : h ≡ get_or c.args.rows.now.rows.items i h = c.held-item.is ∙ ap (λ xs. get_or xs i h) list in
    let held : IsHeld whole log (moved_held given (length whole.rows - given) h) = subst (λ x. IsHeld whole log (moved_held given (length whole.rows - given) x)) (sym is) (c.requires.held i h (omega (arith, c.loop-held-test.true, ap length list))) in
    let more : length whole.rows - given ≡ length (take (length all - given) (drop given all)) = sym (ap length (rest_whole given all ∙ ap (drop given) same) ∙ length-drop given whole.rows) in
    let high : moved_by given (length whole.rows - given) h.number ≤ length whole.rows + length log = omega (arith, held.number.1, length-all_rows whole log) in
    let fits : length all + length log < 18446744073709551616 = search rules in
    subst (λ n. moved_by given n h.number < 18446744073709551616) more (omega (arith, high, fits, ap length same))

pub loop-held-preserved : goal.loop-held-preserved
loop-held-preserved c =
    let given = c.args.given in
    let whole = c.args.whole.now in
    let log = c.args.log.now.items in
    let rows = c.args.rows.now.rows.items in
    let all = c.rows.result.now in
    let same : all ≡ whole.rows = c.rows.ensures.rows in
    let more : length (take (length all - given) (drop given all)) ≡ length whole.rows - given = ap length (rest_whole given all ∙ ap (drop given) same) ∙ length-drop given whole.rows in
    let i = c.loop-held.held-index in
    let h = c.held-item.result in
    let old = c.loop-held.table.rows.items in
    let new = c.put.new.self.rows.items in
    let list = c.deref-held-items.ensures.value in
    let is : h ≡ get_or rows i h = c.held-item.is ∙ ap (λ xs. get_or xs i h) list in
    let fits : FitsSigned w128 h.row.bound = search rules in
    let back : to_z w128 (of_z w128 h.row.bound) ≡ h.row.bound = to_z-of_z w128 h.row.bound fits in
    let number : c.moved-number.result ≡ moved_by given (length whole.rows - given) h.number = c.moved-number.ensures ∙ ap (λ n. moved_by given n h.number) more in
    let put : IsPut old (candidate_with h.row.coefs h.row.bound (Numbered (moved_by given (length whole.rows - given) h.number))) new =
    subst (λ n. IsPut old (candidate_with h.row.coefs h.row.bound (Numbered n)) new) number (subst (λ xs. IsPut old (candidate_with xs h.row.bound (Numbered c.moved-number.result)) new) c.as_slice.ensures (rw back at c.in_ok-put.ensures.put)) in
    record {
      table = c.in_ok-put.ensures.table;
      taken = taken_held whole log rows (drop given whole.rows) given (length whole.rows - given) i h old new (omega (arith, c.loop-held-test.true, ap length list)) is c.requires.held c.loop-held.invariant.taken put;
    }

pub put_given-requires-clause-narrow : goal.put_given-requires-clause-narrow
put_given-requires-clause-narrow c =
    let given = c.args.given in
    let whole = c.args.whole.now in
    let all = c.rows.result.now in
    let same : all ≡ whole.rows = c.rows.ensures.rows in
    let rest : take (length all - given) (drop given all) ≡ drop given whole.rows = rest_whole given all ∙ ap (drop given) same in
    let i = c.loop-index.index in
    let raw = c.index-further-index.result in
    let within : i < length whole.rows - given = omega (arith, c.loop-index-test.true, ap length rest, length-drop given whole.rows) in
    let at : raw ≡ get_or whole.rows (given + i) raw = c.index-further-index.is ∙ ap (λ xs. get_or xs i raw) rest ∙ get_or-drop given whole.rows i raw in
    let there : Contains whole.rows raw = subst (Contains whole.rows) (sym at) (Contains-get_or whole.rows (given + i) raw (omega arith)) in
    (given_suited whole.vars whole.rows raw c.rows.ensures.full c.requires.narrow there).coefs

pub loop-index-preserved : goal.loop-index-preserved
loop-index-preserved c =
    let given = c.args.given in
    let whole = c.args.whole.now in
    let log = c.args.log.now.items in
    let rows = c.args.rows.now.rows.items in
    let all = c.rows.result.now in
    let same : all ≡ whole.rows = c.rows.ensures.rows in
    let further = drop given whole.rows in
    let rest : take (length all - given) (drop given all) ≡ further = rest_whole given all ∙ ap (drop given) same in
    let i = c.loop-index.index in
    let raw = c.index-further-index.result in
    let long : length further ≡ length whole.rows - given = length-drop given whole.rows in
    let within : i < length further = omega (arith, c.loop-index-test.true, ap length rest) in
    let here : raw ≡ get_or further i raw = c.index-further-index.is ∙ ap (λ xs. get_or xs i raw) rest in
    let at : raw ≡ get_or whole.rows (given + i) raw = here ∙ get_or-drop given whole.rows i raw in
    let low : given + i < length whole.rows = omega (arith, within, long) in
    let there : Contains whole.rows raw = subst (Contains whole.rows) (sym at) (Contains-get_or whole.rows (given + i) raw low) in
    let suited = given_suited whole.vars whole.rows raw c.rows.ensures.full c.requires.narrow there in
    let put = c.in_ok-put_given.ensures.put in
    record {
      table = c.in_ok-put_given.ensures.table;
      taken = taken_further whole log rows further i raw c.loop-index.table.rows.items c.put_given.new.table.rows.items put.0 within here c.loop-index.invariant.taken put.2 (put.3 whole log suited (number_given whole log (given + i) raw low at)) put.1;
    }

pub numbered-requires-clause-lowest : goal.numbered-requires-clause-lowest
numbered-requires-clause-lowest c = lowest_from (IsEither (rows_of c.args.rows.now.rows.items) (drop c.args.given c.args.whole.now.rows)) c.loop-index.table.rows.items c.loop-index.invariant.taken.sound

pub returns-clause-formed : goal.returns-clause-formed
returns-clause-formed c =
    let given = c.args.given in
    let whole = c.args.whole.now in
    let rows = c.args.rows.now.rows.items in
    let all = c.rows.result.now in
    let same : all ≡ whole.rows = c.rows.ensures.rows in
    let further = drop given whole.rows in
    let rest : take (length all - given) (drop given all) ≡ further = rest_whole given all ∙ ap (drop given) same in
    let formed = both_formed whole c.args.log.now.items rows further c.loop-index.index c.loop-index.table.rows.items (omega (arith, c.loop-index-test.false, ap length rest)) c.loop-index.invariant.taken c.loop-index.invariant.table.distinct in
    subst (IsFormed (IsEither (rows_of rows) further)) (sym c.in_ok-rows.ensures.rows) formed
