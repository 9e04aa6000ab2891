use Rattle.std.proofs.Common.{rules, ◌≡◌, ℕ, ◌+◌, ◌-◌, ◌<◌, ◌≤◌, ◌++◌, ◌⊎◌, drop, map, length, length-append, get_or, ap, sym, ◌∙◌, subst, arith}
use Rattle.std.specs.List.{All, Contains}
use Rattle.std.proofs.Math.Seq.{drop-append_seam}
use Rattle.std.proofs.lemmas.List.Elements.{All-weaker}
use Rattle.elim_rows.specs.declared.derivation.Derivation.{Derivation}
use Rattle.elim_level.specs.Forming.{IsFormed}
use Rattle.fm_elim.specs.Lean.{renamed}
use Rattle.fm_elim.specs.Moved.{moved_by}
use Rattle.elim_level.specs.Logs.{step_of, rows_of}
use Rattle.fm_elim.specs.Reached.{IsReached}
use Rattle.fm_elim.proofs.Reached.{order_length}
use Rattle.fm_elim.proofs.Extending.{reached_extended, log_moved, held_moved, moved_terms}
use Rattle.fm_elim.proofs.Work.{work_agree, work_extended}
use Rattle.fm_elim.proofs.elimination.Level.extend.Goals as goal

pub moved_log-requires : goal.moved_log-requires
moved_log-requires c =
    let level = c.args.self.now in
    let small = level.system.now in
    let log = level.log.items in
    let ext = c.requires.extension in
    let given = length c.rows-given.result.now in
    let more = length c.rows.result.now - given in
    let g : given ≡ length small.rows = ap length c.rows-given.ensures.rows in
    let within : given ≤ length c.rows.result.now = omega (arith, g, ap length c.rows.ensures.rows, ap length ext.rows, length-append small.rows ext.further) in
    let fits : length c.rows.result.now + length log < 18446744073709551616 = search rules in
    subst (λ ds. (i : ℕ) (d : Derivation) → i < length ds → All (λ t. moved_by given more t.0 < 18446744073709551616) (step_of (get_or ds i d)).terms) (sym c.as_slice.ensures.value)
    (λ i d h. All-weaker (λ t. moved_by given more t.0 ≤ given + length log + more) (λ t. moved_by given more t.0 < 18446744073709551616) (λ t le. omega (arith, le, fits, within)) (step_of (get_or log i d)).terms
    (moved_terms small c.args.whole.now level.order.now c.args.order.now level.gone level.most log level.rows c.requires.level.reached ext.further ext.rows ext.vars given more g i d h))

pub extended_rows-requires-clause-log : goal.extended_rows-requires-clause-log
extended_rows-requires-clause-log c =
    let level = c.args.self.now in
    let small = level.system.now in
    let ext = c.requires.extension in
    let given = length c.rows-given.result.now in
    let more = length c.rows.result.now - given in
    let g : given ≡ length small.rows = ap length c.rows-given.ensures.rows in
    let m : more ≡ length ext.further = omega (arith, g, ap length c.rows.ensures.rows, ap length ext.rows, length-append small.rows ext.further) in
    let moved = c.in_ok-log.ensures ∙ ap (λ ds. map (renamed (moved_by given more)) (map step_of ds)) c.as_slice.ensures.value in
    log_moved small c.args.whole.now level.order.now c.args.order.now level.gone level.most level.log.items level.rows c.requires.level.reached ext.further ext.rows ext.vars given more c.in_ok-log.log.items g m moved

pub extended_rows-requires-clause-held : goal.extended_rows-requires-clause-held
extended_rows-requires-clause-held c =
    let level = c.args.self.now in
    let small = level.system.now in
    let whole = c.args.whole.now in
    let ext = c.requires.extension in
    let given = length c.rows-given.result.now in
    let more = length whole.rows - given in
    let g : given ≡ length small.rows = ap length c.rows-given.ensures.rows in
    let same : length c.rows.result.now - given ≡ more = ap (λ rows. length rows - given) c.rows.ensures.rows in
    let m : more ≡ length ext.further = omega (arith, g, ap length ext.rows, length-append small.rows ext.further) in
    let moved = c.in_ok-log.ensures ∙ ap (λ ds. map (renamed (moved_by given (length c.rows.result.now - given))) (map step_of ds)) c.as_slice.ensures.value in
    held_moved small whole level.order.now c.args.order.now level.gone level.most level.log.items level.rows c.requires.level.reached ext.further ext.rows ext.vars given more c.in_ok-log.log.items g m
    (subst (λ n. map step_of c.in_ok-log.log.items ≡ map (renamed (moved_by given n)) (map step_of level.log.items)) same moved)

pub returns-clause-level : goal.returns-clause-level
returns-clause-level c =
    let level = c.args.self.now in
    let small = level.system.now in
    let whole = c.args.whole.now in
    let order = c.args.order.now in
    let ext = c.requires.extension in
    let made = c.in_ok-rows.ensures in
    let given = length c.rows-given.result.now in
    let more = length c.rows.result.now - given in
    let g : given ≡ length small.rows = ap length c.rows-given.ensures.rows in
    let m : more ≡ length ext.further = omega (arith, g, ap length c.rows.ensures.rows, ap length ext.rows, length-append small.rows ext.further) in
    let rest : drop given whole.rows ≡ ext.further = ap (drop given) ext.rows ∙ ap (λ n. drop n (small.rows ++ ext.further)) g ∙ drop-append_seam small.rows ext.further in
    let formed = subst (λ rows. IsFormed (λ r. Contains (rows_of level.rows.rows.items) r ⊎ Contains rows r) (rows_of c.in_ok-rows.rows.rows.items)) rest made.formed in
    let reached = reached_extended small whole level.order.now order level.gone level.most level.log.items level.rows c.requires.level.reached ext.further ext.rows ext.vars c.in_ok-rows.rows c.extended_rows.new.log.items ext.begins ext.without ext.few c.rows.ensures.full formed made.table made.log made.held in
    record {
      order = c.requires.order;
      gone = omega (arith, c.requires.level.gone, order_length small.vars level.order.now c.requires.level.order, order_length whole.vars order c.requires.order, ext.vars);
      reached = subst (λ n. IsReached whole order level.gone (level.most + n) c.extended_rows.new.log.items c.in_ok-rows.rows) (sym m) reached;
      work = work_extended small whole order ext.further ext.rows level.gone ext.without level.pairs (work_agree small level.order.now order level.gone ext.begins level.pairs c.requires.level.work);
      soon = c.requires.level.soon;
    }
