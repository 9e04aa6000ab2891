use Rattle.std.proofs.Common.{◌≡◌, ◌+◌, take, [], ◌∷◌, ◌++◌, ap, sym, ◌∙◌, subst}
use Rattle.std.specs.Bool.{MatchBool}
use Rattle.std.specs.List.{All, Contains}
use Rattle.std.proofs.lemmas.List.{take_more, take_all}
use Rattle.std.proofs.lemmas.List.Elements.{Contains-get_or}
use Rattle.list_lemmas.proofs.Elements.{Contains-take}
use Rattle.elim_level.specs.Gathering.{IsOpposed, HasApart, IsJoint, IsJoined, IsGathered}
use Rattle.elim_level.proofs.Gathered.{IsGathered-more, HasApart-gathered}
use Rattle.elim_level.proofs.forming.join_all.Goals as goal

pub join_pairs-requires-clause-opposed : goal.join_pairs-requires-clause-opposed
join_pairs-requires-clause-opposed c =
    subst (λ u. All (λ l. IsOpposed c.args.variable u.row l.row) c.args.lowers.now) (sym c.upper-item.is) (c.requires.opposed c.loop-upper.upper-index c.upper-item.result c.loop-upper-test.true)

pub returns-then-not-branch-clause-joined : goal.returns-then-not-branch-clause-joined
returns-then-not-branch-clause-joined c apart start =
    let v = c.args.variable in
    let us = c.args.uppers.now in
    let ls = c.args.lowers.now in
    let i = c.loop-upper.upper-index in
    let u = c.upper-item.result in
    let old = c.loop-upper.table.rows.items in
    let new = c.join_pairs.new.table.rows.items in
    let there : Contains us u = subst (Contains us) (sym c.upper-item.is) (Contains-get_or us i u c.loop-upper-test.true) in
    let many = subst (λ b. MatchBool b (IsJoined v u ls old new) (HasApart 20000 (IsJoint v u ls old))) c.if-not-branch.true c.in_ok-join_pairs.ensures.joined in
    HasApart-gathered 20000 v apart (take i us) us ls u old (Contains-take i us) there (c.loop-upper.invariant.gathered apart start) many

pub loop-upper-preserved : goal.loop-upper-preserved
loop-upper-preserved c =
    let v = c.args.variable in
    let us = c.args.uppers.now in
    let ls = c.args.lowers.now in
    let i = c.loop-upper.upper-index in
    let u = c.upper-item.result in
    let old = c.loop-upper.table.rows.items in
    let new = c.join_pairs.new.table.rows.items in
    let joined = subst (λ b. MatchBool b (IsJoined v u ls old new) (HasApart 20000 (IsJoint v u ls old))) c.if-not-branch.false c.in_ok-join_pairs.ensures.joined in
    let more : take (i + 1) us ≡ take i us ++ u ∷ [] = take_more us i u c.loop-upper-test.true ∙ ap (λ h. take i us ++ h ∷ []) (sym c.upper-item.is) in
    record {
      table = c.in_ok-join_pairs.ensures.table;
      gathered = λ apart start. subst (λ hs. IsGathered v apart hs ls new) (sym more) (IsGathered-more v apart (take i us) ls u old new (c.loop-upper.invariant.gathered apart start) joined);
    }

pub returns-clause-joined : goal.returns-clause-joined
returns-clause-joined c apart start =
    subst (λ hs. IsGathered c.args.variable apart hs c.args.lowers.now c.loop-upper.table.rows.items) (take_all c.loop-upper.upper-index c.args.uppers.now c.loop-upper-test.false) (c.loop-upper.invariant.gathered apart start)
