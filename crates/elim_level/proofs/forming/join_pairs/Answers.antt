use Rattle.std.proofs.Common.{◌≡◌, ◌+◌, ◌<◌, take, length, [], ◌∷◌, ◌++◌, ap, sym, ◌∙◌, subst, arith}
use Rattle.std.specs.List.{Contains}
use Rattle.std.proofs.lemmas.List.{take_more}
use Rattle.std.proofs.lemmas.List.Elements.{Contains-get_or}
use Rattle.list_lemmas.proofs.Elements.{Contains-take}
use Rattle.elim_level.specs.Gathering.{HasApart, IsJoint, IsJoined}
use Rattle.elim_level.proofs.Gathered.{IsJoined-more, HasApart-more, apart_from_rows}
use Rattle.elim_level.proofs.forming.join_pairs.Goals as goal

pub returns-then-len-gt-MOST_ROWS-clause-joined : goal.returns-then-len-gt-MOST_ROWS-clause-joined
returns-then-len-gt-MOST_ROWS-clause-joined c =
    let v = c.args.variable in
    let u = c.args.upper.now in
    let ls = c.args.lowers.now in
    let i = c.loop-lower.lower-index in
    let l = c.lower-item.result in
    let between = c.loop-lower.table.rows.items in
    let new = c.join_pair.new.table.rows.items in
    let there : Contains ls l = subst (Contains ls) (sym c.lower-item.is) (Contains-get_or ls i l c.loop-lower-test.true) in
    let long : 20000 < length new = omega (arith, c.if-len-gt-MOST_ROWS.true, c.len.ensures, c.join_pair.new.table.rows.ok.0) in
    let apart : HasApart 20000 (IsJoint v u (l ∷ []) between) = record { kept = new; many = long; all = c.in_ok-join_pair.ensures.joined.only; apart = apart_from_rows new c.in_ok-join_pair.ensures.table.distinct } in
    HasApart-more 20000 v u (take i ls) l ls c.args.table.now.rows.items between (Contains-take i ls) there c.loop-lower.invariant.joined apart

pub loop-lower-preserved : goal.loop-lower-preserved
loop-lower-preserved c =
    let v = c.args.variable in
    let u = c.args.upper.now in
    let ls = c.args.lowers.now in
    let i = c.loop-lower.lower-index in
    let l = c.lower-item.result in
    let old = c.args.table.now.rows.items in
    let between = c.loop-lower.table.rows.items in
    let new = c.join_pair.new.table.rows.items in
    let more : take (i + 1) ls ≡ take i ls ++ l ∷ [] = take_more ls i l c.loop-lower-test.true ∙ ap (λ h. take i ls ++ h ∷ []) (sym c.lower-item.is) in
    record {
      table = c.in_ok-join_pair.ensures.table;
      joined = subst (λ hs. IsJoined v u hs old new) (sym more) (IsJoined-more v u (take i ls) l old between new c.loop-lower.invariant.joined c.in_ok-join_pair.ensures.joined);
    }
