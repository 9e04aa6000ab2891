-- Two versions that have sums alike have good sums alike, and so with private scalars.
use Rattle.std.proofs.Common.{◌≡◌, ◌&&◌, ◌||◌, ◌==◌, not, nat_le, length, refl, ap, ◌∙◌}
use Rattle.std.specs.List.{list_all}
use Rattle.nest_tree.specs.Tree.{Statement, Statements, do_loop, work, continue, done, next}
use Rattle.own_scalars.specs.OwnScalars.{is_private, sum_scalars}
use Rattle.owner_partition.specs.declared.cut.Mark.{Mark}
use Rattle.owner_partition.specs.Cuts.{Cutting, privates_of}
use Rattle.owner_partition.specs.Marks.{is_doall, is_sum_mark, mark_of}
use Rattle.std.specs.Prelude.{List}
use Rattle.sync_plan.specs.declared.plan.Version.{Version}
use Rattle.sync_plan.specs.declared.plan.Version.TheVariants.{One, Two}
use Rattle.sync_plan.specs.Shape.{are_good_privates, do_rise, has_good_privates, has_good_sums, has_privates, has_sums, have_good_privates, have_good_sums, is_good_sum}

-- versions One and Two have neither
pub early_sums : has_sums Two ≡ has_sums One
early_sums = refl

pub early_privates : has_privates Two ≡ has_privates One
early_privates = refl

module _ (a b : Version) (alike : has_sums a ≡ has_sums b) (marks : List Mark) where
  mutual
    has_sums-alike : (s : Statement) → has_good_sums a marks s ≡ has_good_sums b marks s
    has_sums-alike (do_loop head body) =
        let mark = mark_of marks head.number in
        ap (λ has. (not (is_sum_mark mark) || (has && nat_le 1 (length (sum_scalars body)) && nat_le (length (sum_scalars body)) 16)) && have_good_sums a marks body) alike
        ∙ ap (λ rest. is_good_sum b mark body && rest) (have_sums-alike body)
    has_sums-alike (work w) = refl
    has_sums-alike (continue line) = refl

    pub have_sums-alike : (ss : Statements) → have_good_sums a marks ss ≡ have_good_sums b marks ss
    have_sums-alike done = refl
    have_sums-alike (next s rest) = ap (λ x. x && have_good_sums a marks rest) (has_sums-alike s) ∙ ap (λ x. has_good_sums b marks s && x) (have_sums-alike rest)

module _ (a b : Version) (alike : has_privates a ≡ has_privates b) (cut : Cutting) where
  mutual
    has_privates-alike : (s : Statement) → has_good_privates a cut s ≡ has_good_privates b cut s
    has_privates-alike (do_loop head body) =
        let mark = mark_of cut.marks head.number in
        let vs = privates_of cut.privates head.number in
        ap (λ has. (length vs == 0 || (has && is_doall mark && nat_le (length vs) 16 && do_rise 0 vs && list_all (λ v. is_private v body) vs)) && have_good_privates a cut body) alike
        ∙ ap (λ rest. are_good_privates b mark body vs && rest) (have_privates-alike body)
    has_privates-alike (work w) = refl
    has_privates-alike (continue line) = refl

    pub have_privates-alike : (ss : Statements) → have_good_privates a cut ss ≡ have_good_privates b cut ss
    have_privates-alike done = refl
    have_privates-alike (next s rest) = ap (λ x. x && have_good_privates a cut rest) (has_privates-alike s) ∙ ap (λ x. has_good_privates b cut s && x) (have_privates-alike rest)
