use Rattle.std.proofs.Common.{◌≡◌, pos, Bool, [], ◌∷◌, ◌++◌, map, length, length-append, get_or, ap, sym, ◌∙◌, subst, arith}
use Rattle.std.specs.List.{All, filter}
use Rattle.std.specs.Prelude.{int_lt}
use Rattle.std.specs.Ordering.{int_eq}
use Rattle.std.proofs.lemmas.List.{get_or-map, map-append, length-map}
use Rattle.std.proofs.lemmas.List.Elements.{filter-append}
use Rattle.std.proofs.lemmas.Iterator.Adapters.{YieldsList-from_vec}
use Rattle.std.proofs.lemmas.Iterator.Consumers.{YieldsList-turn}
use Rattle.elim_level.specs.declared.level.Held.{Held}
use Rattle.elim_rows.specs.Pairs.{coef_of}
use Rattle.elim_level.specs.Logs.{rows_of}
use Rattle.elim_rows.specs.Candidates.{rows_among}
use Rattle.elim_level.specs.Gathering.{candidate_of}
use Rattle.elim_level.proofs.Splitting.{All-kept}
use Rattle.elim_level.proofs.forming.split_by_sign.Goals as goal

pub loop-held-preserved : goal.loop-held-preserved
loop-held-preserved c =
    let level = c.args.level.items in
    let done = c.loop-held.yielded in
    let x = c.in-Some.held in
    let v = c.args.variable in
    let old = c.loop-held.split.apart.rows.items in
    let zero : Held → Bool = λ h. int_eq (coef_of v h.row) (pos 0) in
    let above : Held → Bool = λ h. int_lt (pos 0) (coef_of v h.row) in
    let below : Held → Bool = λ h. int_lt (coef_of v h.row) (pos 0) in
    let into = c.into_iter-held-iterator.ensures.into_iter_gives in
    let road = YieldsList-from_vec {s = c.into_iter-held-iterator.result} level into.0 (into.1 ∙ c.args.level.ok.0) in
    let turn = YieldsList-turn road done c.loop-held.held-iterator c.loop-held.yielded_by c.next.result c.next.new.self x c.in-Some.is c.next.ensures.steps in
    record {
      count = omega (arith, c.loop-held.invariant.count, length-append done (x ∷ []));
      table = c.in_ok-place.ensures.table;
      fresh = λ k d low high.
          let later = (get_or level k d).row.coefs in
          let at : get_or (rows_of level) (length done) x.row ≡ x.row = get_or-map (λ (h : Held). h.row) level (length done) x x.row turn.0 ∙ ap (λ (h : Held). h.row) (sym turn.1) in
          let there : get_or (rows_of level) k x.row ≡ (get_or level k d).row = get_or-map (λ (h : Held). h.row) level k d x.row high in
          let apart : x.row.coefs ≡ later → ⊥ = λ e. c.requires.table.distinct (length done) k x.row (omega (arith, low, c.loop-held.invariant.count)) (omega (arith, high, length-map level (λ (h : Held). h.row))) (ap (λ r. r.coefs) at ∙ e ∙ ap (λ r. r.coefs) (sym there)) in
          subst (λ cs. All (λ r. r.coefs ≡ later → ⊥) (rows_among cs)) (sym c.in_ok-place.ensures.apart)
          (All-kept (λ r. r.coefs ≡ later → ⊥) old x (int_eq (coef_of v x.row) (pos 0)) (c.loop-held.invariant.fresh k d (omega (arith, low)) high) apart);
      apart = c.in_ok-place.ensures.apart ∙ ap (λ cs. cs ++ map candidate_of (filter zero (x ∷ []))) c.loop-held.invariant.apart ∙ sym (ap (map candidate_of) (filter-append zero done (x ∷ [])) ∙ map-append candidate_of (filter zero done) (filter zero (x ∷ [])));
      uppers = c.in_ok-place.ensures.uppers ∙ ap (λ hs. hs ++ filter above (x ∷ [])) c.loop-held.invariant.uppers ∙ sym (filter-append above done (x ∷ []));
      lowers = c.in_ok-place.ensures.lowers ∙ ap (λ hs. hs ++ filter below (x ∷ [])) c.loop-held.invariant.lowers ∙ sym (filter-append below done (x ∷ []));
    }
