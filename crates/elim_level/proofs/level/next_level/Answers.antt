use Rattle.std.proofs.Common.{◌≡◌, ℕ, ◌<◌, ℤ, Bool, true, false, List, [], map, length, ap, sym, ◌∙◌, subst, arith}
use Rattle.std.specs.Bool.{MatchBool}
use Rattle.std.specs.List.{All, Contains}
use Rattle.std.proofs.lemmas.List.{length-map}
use Rattle.farkas_cert.specs.Inequalities.{Inequalities}
use Rattle.elim_rows.specs.declared.derivation.Derivation.{Derivation}
use Rattle.elim_level.specs.declared.level.Held.{Held}
use Rattle.elim_rows.specs.declared.candidate.Candidate.{Candidate}
use Rattle.elim_level.specs.Levels.{IsRaw}
use Rattle.elim_level.specs.Forming.{IsFormed}
use Rattle.elim_level.specs.Logs.{IsHeld, rows_of}
use Rattle.elim_rows.specs.Table.{IsTable}
use Rattle.elim_rows.specs.Candidates.{IsUseful}
use Rattle.elim_level.specs.Gathering.{IsSplit, apart_of, candidate_of, IsSource, IsGathered, HasApart}
use Rattle.elim_rows.specs.Pairs.{IsPair, IsWide}
use Rattle.elim_level.proofs.Splitting.{uppers_known, lowers_known, opposed}
use Rattle.elim_level.proofs.Leveling.{wide_there, nowhere_wide, many_there, start_gathered, next_formed, next_lowest, next_founded, next_many}
use Rattle.elim_level.proofs.level.next_level.Goals as goal

-- the rows by sign, as slices
split_by : {v : ℕ} {level xs ys us ls : List Held} → us ≡ xs → ls ≡ ys → IsSplit v level xs ys → IsSplit v level us ls
split_by a b s = record { uppers_from = a ∙ s.uppers_from; lowers_from = b ∙ s.lowers_from }

-- what joining all pairs came to
module _ (v : ℕ) (level us ls : List Held) (split : IsSplit v level us ls) (system : Inequalities) (log : List Derivation) (held : All (IsHeld system log) level) (useful : All (λ h. IsUseful h.row) level) (first table : List Candidate) (is : first ≡ map candidate_of (apart_of v level)) (whole : Bool) (joined : (apart : List Held) → IsGathered v apart [] ls first → MatchBool whole (IsGathered v apart us ls table) (HasApart 20000 (IsSource v apart us ls))) where
  met : MatchBool whole (IsGathered v (apart_of v level) us ls table) (HasApart 20000 (IsSource v (apart_of v level) us ls))
  met = joined (apart_of v level) (start_gathered v level us ls split system log held useful first is)

  gathered : whole ≡ true → IsGathered v (apart_of v level) us ls table
  gathered all = subst (λ b. MatchBool b (IsGathered v (apart_of v level) us ls table) (HasApart 20000 (IsSource v (apart_of v level) us ls))) all met

  parted : whole ≡ false → HasApart 20000 (IsSource v (apart_of v level) us ls)
  parted not = subst (λ b. MatchBool b (IsGathered v (apart_of v level) us ls table) (HasApart 20000 (IsSource v (apart_of v level) us ls))) not met

pub wide_pair-requires-clause-uppers_known : goal.wide_pair-requires-clause-uppers_known
wide_pair-requires-clause-uppers_known c =
    uppers_known c.args.variable c.args.level.rows.items c.as_slice-above.result.now c.as_slice-below.result.now (split_by c.as_slice-above.ensures.value c.as_slice-below.ensures.value c.in_ok-apart.ensures.split) c.args.system.now c.args.log.now.items c.requires.variable.0 c.requires.variable.1 c.requires.held

pub wide_pair-requires-clause-lowers_known : goal.wide_pair-requires-clause-lowers_known
wide_pair-requires-clause-lowers_known c =
    lowers_known c.args.variable c.args.level.rows.items c.as_slice-above.result.now c.as_slice-below.result.now (split_by c.as_slice-above.ensures.value c.as_slice-below.ensures.value c.in_ok-apart.ensures.split) c.args.system.now c.args.log.now.items c.requires.variable.0 c.requires.variable.1 c.requires.held

pub wide_pair-requires-clause-opposed : goal.wide_pair-requires-clause-opposed
wide_pair-requires-clause-opposed c =
    opposed c.args.variable c.args.level.rows.items c.as_slice-above.result.now c.as_slice-below.result.now (split_by c.as_slice-above.ensures.value c.as_slice-below.ensures.value c.in_ok-apart.ensures.split) c.args.system.now c.args.log.now.items c.requires.variable.0 c.requires.variable.1 c.requires.held

pub join_all-requires-clause-opposed : goal.join_all-requires-clause-opposed
join_all-requires-clause-opposed c =
    opposed c.args.variable c.args.level.rows.items c.as_slice-above.result.now c.as_slice-below.result.now (split_by c.as_slice-above.ensures.value c.as_slice-below.ensures.value c.in_ok-apart.ensures.split) c.args.system.now c.args.log.now.items c.requires.variable.0 c.requires.variable.1 c.requires.held

pub returns-in-Some-clause-next : goal.returns-in-Some-clause-next
returns-in-Some-clause-next c =
    let v = c.args.variable in
    let system = c.args.system.now in
    let rows = rows_of c.args.level.rows.items in
    let split = split_by c.as_slice-above.ensures.value c.as_slice-below.ensures.value c.in_ok-apart.ensures.split in
    let wide = c.in-Some.ensures in
    let there = wide_there v c.args.level.rows.items c.as_slice-above.result.now c.as_slice-below.result.now split system c.args.log.now.items c.requires.held c.in-Some.upper.now c.in-Some.lower.now wide.0 wide.1 wide.2 in
    subst (λ u. Contains rows u × Contains rows c.in_ok-lower.lower × ((m : ℤ) × (n : ℤ) × IsPair v u c.in_ok-lower.lower m n × IsWide system.vars m u n c.in_ok-lower.lower)) (sym c.in_ok-upper.ensures)
    (subst (λ l. Contains rows c.in-Some.upper.now.row × Contains rows l × ((m : ℤ) × (n : ℤ) × IsPair v c.in-Some.upper.now.row l m n × IsWide system.vars m c.in-Some.upper.now.row n l)) (sym c.in_ok-lower.ensures) there)

pub returns-then-not-whole-clause-next : goal.returns-then-not-whole-clause-next
returns-then-not-whole-clause-next c =
    let v = c.args.variable in
    let level = c.args.level.rows.items in
    let us = c.as_slice-above.result.now in
    let ls = c.as_slice-below.result.now in
    let split = split_by c.as_slice-above.ensures.value c.as_slice-below.ensures.value c.in_ok-apart.ensures.split in
    let system = c.args.system.now in
    let log = c.args.log.now.items in
    let many = parted v level us ls split system log c.requires.held c.requires.useful c.in_ok-apart.field-0.apart.rows.items c.join_all.new.table.rows.items c.in_ok-apart.ensures.apart c.in_ok-whole.whole c.in_ok-whole.ensures.joined c.if-not-whole.true in
    (many_there v level us ls split system log c.requires.held many, nowhere_wide v level us ls split system log c.requires.held c.in_default.ensures)

pub returns-then-len-gt-MOST_ROWS-clause-next : goal.returns-then-len-gt-MOST_ROWS-clause-next
returns-then-len-gt-MOST_ROWS-clause-next c =
    let v = c.args.variable in
    let level = c.args.level.rows.items in
    let us = c.as_slice-above.result.now in
    let ls = c.as_slice-below.result.now in
    let split = split_by c.as_slice-above.ensures.value c.as_slice-below.ensures.value c.in_ok-apart.ensures.split in
    let system = c.args.system.now in
    let log = c.args.log.now.items in
    let table = c.join_all.new.table.rows.items in
    let all = gathered v level us ls split system log c.requires.held c.requires.useful c.in_ok-apart.field-0.apart.rows.items table c.in_ok-apart.ensures.apart c.in_ok-whole.whole c.in_ok-whole.ensures.joined c.if-not-whole.false in
    let long : 20000 < length table = omega (arith, c.if-len-gt-MOST_ROWS.true, c.len.ensures, c.join_all.new.table.rows.ok.0) in
    (next_many v level us ls split system log c.requires.held table all c.in_ok-whole.ensures.table.distinct long, nowhere_wide v level us ls split system log c.requires.held c.in_default.ensures)

pub numbered-requires-clause-founded : goal.numbered-requires-clause-founded
numbered-requires-clause-founded c =
    let v = c.args.variable in
    let level = c.args.level.rows.items in
    let us = c.as_slice-above.result.now in
    let ls = c.as_slice-below.result.now in
    let split = split_by c.as_slice-above.ensures.value c.as_slice-below.ensures.value c.in_ok-apart.ensures.split in
    let table = c.join_all.new.table.rows.items in
    let all = gathered v level us ls split c.args.system.now c.args.log.now.items c.requires.held c.requires.useful c.in_ok-apart.field-0.apart.rows.items table c.in_ok-apart.ensures.apart c.in_ok-whole.whole c.in_ok-whole.ensures.joined c.if-not-whole.false in
    next_founded v level us ls split c.args.system.now c.args.log.now.items c.requires.held table all c.in_ok-whole.ensures.table.distinct

pub numbered-requires-clause-lowest : goal.numbered-requires-clause-lowest
numbered-requires-clause-lowest c =
    let v = c.args.variable in
    let level = c.args.level.rows.items in
    let us = c.as_slice-above.result.now in
    let ls = c.as_slice-below.result.now in
    let split = split_by c.as_slice-above.ensures.value c.as_slice-below.ensures.value c.in_ok-apart.ensures.split in
    let table = c.join_all.new.table.rows.items in
    let all = gathered v level us ls split c.args.system.now c.args.log.now.items c.requires.held c.requires.useful c.in_ok-apart.field-0.apart.rows.items table c.in_ok-apart.ensures.apart c.in_ok-whole.whole c.in_ok-whole.ensures.joined c.if-not-whole.false in
    next_lowest v level us ls split c.args.system.now c.args.log.now.items c.requires.held table all c.in_ok-whole.ensures.table.distinct

pub returns-clause-next : goal.returns-clause-next
returns-clause-next c =
    let v = c.args.variable in
    let level = c.args.level.rows.items in
    let us = c.as_slice-above.result.now in
    let ls = c.as_slice-below.result.now in
    let split = split_by c.as_slice-above.ensures.value c.as_slice-below.ensures.value c.in_ok-apart.ensures.split in
    let system = c.args.system.now in
    let log = c.args.log.now.items in
    let table = c.join_all.new.table.rows.items in
    let all = gathered v level us ls split system log c.requires.held c.requires.useful c.in_ok-apart.field-0.apart.rows.items table c.in_ok-apart.ensures.apart c.in_ok-whole.whole c.in_ok-whole.ensures.joined c.if-not-whole.false in
    let next = c.in_ok-rows.rows.items in
    let rows = c.in_ok-rows.ensures.rows in
    let chains = c.join_all.new.table.chains in (
      record {
        formed = subst (IsFormed (IsRaw v (Contains (rows_of level)))) (sym rows) (next_formed v level us ls split system log c.requires.held table all c.in_ok-whole.ensures.table.distinct);
        held = c.in_ok-rows.ensures.held;
        narrow = nowhere_wide v level us ls split system log c.requires.held c.in_default.ensures;
        few = omega (arith, c.if-len-gt-MOST_ROWS.false, c.len.ensures, c.join_all.new.table.rows.ok.0, ap length rows, length-map next (λ (h : Held). h.row), length-map table (λ (k : Candidate). k.row));
      },
      subst (λ rs. IsTable rs chains.links.items chains.latest.items) (sym rows) c.in_ok-whole.ensures.table,
    )
