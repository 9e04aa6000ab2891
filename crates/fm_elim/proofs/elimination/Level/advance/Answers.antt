use Rattle.std.proofs.Common.{◌≡◌, ◌+◌, ◌<◌, ◌≤◌, IfNone, Fits, w32, length, get_or, subst, refl, ap, sym, ◌∙◌, arith}
use Rattle.std.specs.List.{All, Contains}
use Rattle.std.proofs.lemmas.List.Elements.{All-weaker}
use Rattle.elim_rows.specs.Candidates.{IsEmpty}
use Rattle.elim_level.specs.Logs.{IsHeld, rows_of}
use Rattle.fm_elim.specs.Advances.{IsLevel, system_of, order_of, gone_of}
use Rattle.fm_elim.specs.Answers.{IsFreeOfClashes, IsSoon}
use Rattle.fm_elim.specs.declared.elimination.Level.{Level}
use Rattle.elim_level.specs.Gathering.{pair_count}
use Rattle.elim_level.specs.Next.{IsNext}
use Rattle.fm_elim.proofs.Reached.{useful_here, order_length, order_within, order_names_last, reached_next, wide_here, many_here, work_here, free_here, open_here}
use Rattle.fm_elim.proofs.Work.{work_next}
use Rattle.fm_elim.proofs.elimination.Level.advance.Goals as goal

-- the pairs of the levels up to this one are few
soon_at : (level : Level) → IsLevel level → IsSoon (system_of level) (order_of level) (gone_of level)
soon_at level l = (level.pairs, l.work, l.soon)

pub refutation-requires-clause-useful : goal.refutation-requires-clause-useful
refutation-requires-clause-useful c =
    let level = c.args.self in
    useful_here level.system.now level.order.now level.gone level.most level.log.items level.rows c.requires.level.reached

pub returns-then-gone-order : goal.returns-then-gone-order
returns-then-gone-order c =
    let level = c.args.self in
    let none = subst (λ o. IfNone o (All (λ h. IsEmpty h.row → ⊥) level.rows.rows.items)) c.in_default.is c.in_ok-certificate.ensures.clear in
    let last : level.gone ≡ length level.order.now = c.if-gone-order.true in
    record {
      advance = record {
        decided = open_here level.system.now level.order.now level.gone level.most level.log.items level.rows c.requires.level.reached none (soon_at level c.requires.level) c.requires.level.order last;
        lean = tt;
        wide = tt;
        many = tt;
        work = tt;
      };
    }

pub overflow_cast-level : goal.overflow_cast-level
overflow_cast-level c =
    let vars = c.args.self.system.now.vars in
    let order = c.args.self.order.now in
    let count : length order ≡ vars = order_length vars order c.requires.level.order in
    let within : c.args.self.gone < length order = omega (arith, c.requires.level.gone, c.if-gone-order.false) in
    let last = order_names_last vars order c.requires.level.order (omega arith) in
    let fits : Fits w32 vars = subst (Fits w32) last.1 (c.type_inv.order last.0) in
    omega arith

pub overflow_add-level : goal.overflow_add-level
overflow_add-level c =
    let vars = c.args.self.system.now.vars in
    let order = c.args.self.order.now in
    let count : length order ≡ vars = order_length vars order c.requires.level.order in
    let within : c.args.self.gone < length order = omega (arith, c.requires.level.gone, c.if-gone-order.false) in
    let last = order_names_last vars order c.requires.level.order (omega arith) in
    let fits : Fits w32 vars = subst (Fits w32) last.1 (c.type_inv.order last.0) in
    omega arith

pub count_pairs-requires-clause-from_one : goal.count_pairs-requires-clause-from_one
count_pairs-requires-clause-from_one c = (order_within c.args.self.system.now.vars c.args.self.order.now c.args.self.gone c.requires.level.order (omega (arith, c.requires.level.gone, c.if-gone-order.false))).0

pub count_pairs-requires-clause-known : goal.count_pairs-requires-clause-known
count_pairs-requires-clause-known c =
    let level = c.args.self in
    let system = level.system.now in
    let v = get_or level.order.now level.gone 0 in
    let within = order_within system.vars level.order.now level.gone c.requires.level.order (omega (arith, c.requires.level.gone, c.if-gone-order.false)) in
    subst (All (λ h. v ≤ length h.row.coefs)) (sym c.as_slice.ensures.value)
    (All-weaker (IsHeld system level.log.items) (λ h. v ≤ length h.row.coefs) (λ h held. omega (arith, held.suited.full, within.1)) level.rows.rows.items c.requires.level.reached.held)

pub next_level-requires-clause-variable : goal.next_level-requires-clause-variable
next_level-requires-clause-variable c = order_within c.args.self.system.now.vars c.args.self.order.now c.args.self.gone c.requires.level.order (omega (arith, c.requires.level.gone, c.if-gone-order.false))

pub returns-in-Level : goal.returns-in-Level
returns-in-Level c =
    let level = c.args.self in
    let system = level.system.now in
    let v = get_or level.order.now level.gone 0 in
    let none = subst (λ o. IfNone o (All (λ h. IsEmpty h.row → ⊥) level.rows.rows.items)) c.in_default.is c.in_ok-certificate.ensures.clear in
    let next = subst (IsNext system v (rows_of level.rows.rows.items) c.next_level.new.log.items) c.in-Level.is c.in_ok-rows.ensures.next in
    let reached = reached_next system level.order.now level.gone level.most level.log.items level.rows c.requires.level.reached none (soon_at level c.requires.level) v c.len.result c.max.result c.next_level.new.log.items c.in-Level.rows refl (c.len.ensures ∙ c.in-Level.rows.rows.ok.0) (omega (arith, c.max.ensures)) next.0 next.1 c.in_ok-rows.ensures.log in
    let total = level.pairs + c.count_pairs.result in
    let counted = work_next system level.order.now level.gone level.most level.log.items level.rows c.requires.level.reached v level.pairs c.count_pairs.result refl (c.count_pairs.ensures.count ∙ ap (pair_count v) c.as_slice.ensures.value) c.requires.level.work in
    let few : total ≤ 65536 = omega (arith, c.if-pairs-gt-MOST_PAIRS.false) in
    record {
      advance = record {
        level = record { order = c.requires.level.order; gone = omega (arith, c.requires.level.gone, c.if-gone-order.false); reached = reached; work = counted; soon = few };
        system = refl;
        order = refl;
        gone = refl;
      };
    }

pub returns-in-Wide : goal.returns-in-Wide
returns-in-Wide c =
    let level = c.args.self in
    let system = level.system.now in
    let order = level.order.now in
    let v = get_or order level.gone 0 in
    let none = subst (λ o. IfNone o (All (λ h. IsEmpty h.row → ⊥) level.rows.rows.items)) c.in_default.is c.in_ok-certificate.ensures.clear in
    let free = subst (λ o. IfNone o (IsFreeOfClashes (λ r. Contains (rows_of level.rows.rows.items) r))) c.in_default.is c.in_ok-certificate.ensures.apart in
    let next = subst (IsNext system v (rows_of level.rows.rows.items) c.next_level.new.log.items) c.in-Wide.is c.in_ok-rows.ensures.next in
    let within : level.gone < system.vars = omega (arith, order_length system.vars order c.requires.level.order, c.requires.level.gone, c.if-gone-order.false) in
    let total = level.pairs + c.count_pairs.result in
    let counted = work_next system level.order.now level.gone level.most level.log.items level.rows c.requires.level.reached v level.pairs c.count_pairs.result refl (c.count_pairs.ensures.count ∙ ap (pair_count v) c.as_slice.ensures.value) c.requires.level.work in
    let few : total ≤ 65536 = omega (arith, c.if-pairs-gt-MOST_PAIRS.false) in
    record {
      advance = record {
        decided = wide_here system order level.gone level.most level.log.items level.rows c.requires.level.reached none (soon_at level c.requires.level) v (level.gone + 1) c.in-Wide.upper c.in-Wide.lower refl refl within (total, counted, few) next.0 next.1 next.2;
        lean = tt;
        wide = (refl, free_here system order level.gone level.most level.log.items level.rows c.requires.level.reached none (soon_at level c.requires.level) (level.gone + 1) refl free);
        many = tt;
        work = tt;
      };
    }

pub returns : goal.returns
returns c =
    let level = c.args.self in
    let system = level.system.now in
    let order = level.order.now in
    let v = get_or order level.gone 0 in
    let none = subst (λ o. IfNone o (All (λ h. IsEmpty h.row → ⊥) level.rows.rows.items)) c.in_default.is c.in_ok-certificate.ensures.clear in
    let free = subst (λ o. IfNone o (IsFreeOfClashes (λ r. Contains (rows_of level.rows.rows.items) r))) c.in_default.is c.in_ok-certificate.ensures.apart in
    let next = subst (IsNext system v (rows_of level.rows.rows.items) c.next_level.new.log.items) c.in-Many.is c.in_ok-rows.ensures.next in
    let within : level.gone < system.vars = omega (arith, order_length system.vars order c.requires.level.order, c.requires.level.gone, c.if-gone-order.false) in
    let total = level.pairs + c.count_pairs.result in
    let counted = work_next system level.order.now level.gone level.most level.log.items level.rows c.requires.level.reached v level.pairs c.count_pairs.result refl (c.count_pairs.ensures.count ∙ ap (pair_count v) c.as_slice.ensures.value) c.requires.level.work in
    let few : total ≤ 65536 = omega (arith, c.if-pairs-gt-MOST_PAIRS.false) in
    record {
      advance = record {
        decided = many_here system order level.gone level.most level.log.items level.rows c.requires.level.reached none (soon_at level c.requires.level) v (level.gone + 1) 20001 refl refl within (total, counted, few) refl next.0 next.1;
        lean = tt;
        wide = tt;
        work = tt;
        many = (refl, free_here system order level.gone level.most level.log.items level.rows c.requires.level.reached none (soon_at level c.requires.level) (level.gone + 1) refl free);
      };
    }

pub returns-then-pairs-gt-MOST_PAIRS : goal.returns-then-pairs-gt-MOST_PAIRS
returns-then-pairs-gt-MOST_PAIRS c =
    let level = c.args.self in
    let system = level.system.now in
    let order = level.order.now in
    let v = get_or order level.gone 0 in
    let none = subst (λ o. IfNone o (All (λ h. IsEmpty h.row → ⊥) level.rows.rows.items)) c.in_default.is c.in_ok-certificate.ensures.clear in
    let free = subst (λ o. IfNone o (IsFreeOfClashes (λ r. Contains (rows_of level.rows.rows.items) r))) c.in_default.is c.in_ok-certificate.ensures.apart in
    let within : level.gone < system.vars = omega (arith, order_length system.vars order c.requires.level.order, c.requires.level.gone, c.if-gone-order.false) in
    let counted = work_next system level.order.now level.gone level.most level.log.items level.rows c.requires.level.reached v level.pairs c.count_pairs.result refl (c.count_pairs.ensures.count ∙ ap (pair_count v) c.as_slice.ensures.value) c.requires.level.work in
    record {
      advance = record {
        decided = work_here system order level.gone level.most level.log.items level.rows c.requires.level.reached none (soon_at level c.requires.level) (level.gone + 1) (level.pairs + c.count_pairs.result) refl within counted (omega (arith, c.if-pairs-gt-MOST_PAIRS.true));
        lean = tt;
        wide = tt;
        many = tt;
        work = (refl, free_here system order level.gone level.most level.log.items level.rows c.requires.level.reached none (soon_at level c.requires.level) (level.gone + 1) refl free);
      };
    }
