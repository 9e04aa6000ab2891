use Rattle.std.proofs.Common.{[], if◌then◌else◌, refl, ap, sym, ◌∙◌, subst}
use Rattle.plan_maker.specs.Asked.{AreRefuted}
use Rattle.plan_maker.specs.Cut.{cut_asked, cut_paths_asked}
use Rattle.plan_maker.specs.Loops.{IsLoopVerdict, LoopVerdict, own_in, tried_asked, tried_in}
use Rattle.plan_maker.proofs.LoopTrips.{none_asked}
use Rattle.plan_maker.proofs.loops.push_certificates.Goals as goal

pub returns-then-not-is_doall-clause-trips : goal.returns-then-not-is_doall-clause-trips
returns-then-not-is_doall-clause-trips c = λ tree number h. none_asked _ _ _ (ap (λ b. if b then tried_asked cut_asked tree number (tried_in c.args.verdict) (own_in c.args.verdict) else []) (sym c.is_doall.ensures ∙ c.if-not-is_doall.true)) refl

pub returns-then-not-is_doall-clause-paths : goal.returns-then-not-is_doall-clause-paths
returns-then-not-is_doall-clause-paths c = λ tree number h. none_asked _ _ _ (ap (λ b. if b then tried_asked cut_paths_asked tree number (tried_in c.args.verdict) (own_in c.args.verdict) else []) (sym c.is_doall.ensures ∙ c.if-not-is_doall.true)) refl

pub returns-clause-trips : goal.returns-clause-trips
returns-clause-trips c = λ tree number h.
    none_asked _ _ _ (ap (λ b. if b then tried_asked cut_asked tree number (tried_in c.args.verdict) (own_in c.args.verdict) else []) (sym c.is_doall.ensures ∙ c.if-not-is_doall.false) ∙ ap (λ (v : LoopVerdict). tried_asked cut_asked tree number (tried_in v) (own_in v)) c.in-Kept.is) refl

pub returns-clause-paths : goal.returns-clause-paths
returns-clause-paths c = λ tree number h.
    none_asked _ _ _ (ap (λ b. if b then tried_asked cut_paths_asked tree number (tried_in c.args.verdict) (own_in c.args.verdict) else []) (sym c.is_doall.ensures ∙ c.if-not-is_doall.false) ∙ ap (λ (v : LoopVerdict). tried_asked cut_paths_asked tree number (tried_in v) (own_in v)) c.in-Kept.is) refl

pub returns-in-Refuted-clause-trips : goal.returns-in-Refuted-clause-trips
returns-in-Refuted-clause-trips c = λ tree number h.
    let dealt = c.in-Refuted.dealt in
    let held = subst (IsLoopVerdict tree number) c.in-Refuted.is h in
    let asked = ap (λ b. if b then tried_asked cut_asked tree number (tried_in c.args.verdict) (own_in c.args.verdict) else []) (sym c.is_doall.ensures ∙ c.if-not-is_doall.false) ∙ ap (λ (v : LoopVerdict). tried_asked cut_asked tree number (tried_in v) (own_in v)) c.in-Refuted.is in
    record {
      more = dealt.trips.items;
      behind = c.in_ok-append-in-Refuted.ensures.items;
      refuted = subst (λ qs. AreRefuted qs dealt.trips.items) (sym asked) held.1.trips;
    }

pub returns-in-Refuted-clause-paths : goal.returns-in-Refuted-clause-paths
returns-in-Refuted-clause-paths c = λ tree number h.
    let dealt = c.in-Refuted.dealt in
    let held = subst (IsLoopVerdict tree number) c.in-Refuted.is h in
    let asked = ap (λ b. if b then tried_asked cut_paths_asked tree number (tried_in c.args.verdict) (own_in c.args.verdict) else []) (sym c.is_doall.ensures ∙ c.if-not-is_doall.false) ∙ ap (λ (v : LoopVerdict). tried_asked cut_paths_asked tree number (tried_in v) (own_in v)) c.in-Refuted.is in
    record {
      more = dealt.paths.items;
      behind = c.in_ok-append-in-Refuted-2.ensures.items;
      refuted = subst (λ qs. AreRefuted qs dealt.paths.items) (sym asked) held.1.paths;
    }
