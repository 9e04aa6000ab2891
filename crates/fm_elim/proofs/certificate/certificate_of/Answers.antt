use Rattle.std.proofs.Common.{◌≡◌, ◌+◌, ◌-◌, ◌≤◌, length, take, get_or, ap, sym, ◌∙◌, subst, arith}
use Rattle.std.specs.List.{All}
use Rattle.farkas_cert.specs.Good.{IsGood}
use Rattle.elim_level.specs.Logs.{step_of}
use Rattle.fm_elim.proofs.Walks.{derivation_at}
use Rattle.fm_elim.proofs.Endings.{given_number, IsLog-take, used_length, used_row, good_from_steps}
use Rattle.fm_elim.proofs.certificate.certificate_of.Goals as goal
use Rattle.fm_elim.proofs.certificate.certificate_of.Goals.{then-number-given+in_ok-steps, else-number-given+in_ok-needed+in_ok-steps-2}

pub steps_to_given-requires : goal.steps_to_given-requires
steps_to_given-requires c =
    let r = c.requires.number in
    let high : c.args.number ≤ length c.args.system.now.rows = omega (arith, c.if-number-given.true, ap length c.rows-given.ensures.rows) in
    (r.0, given_number c.args.system.now c.args.log.now c.args.number r.0 high r.1, r.2, r.3)

pub slice_bounds-log-length : goal.slice_bounds-log-length
slice_bounds-log-length c =
    used_length c.args.system.now c.args.log.now c.args.number c.requires.number.0 c.requires.number.1 (length c.rows-given.result.now) (ap length c.rows-given.ensures.rows) c.if-number-given.false

pub needed_rows-requires-clause-named : goal.needed_rows-requires-clause-named
needed_rows-requires-clause-named c k d h =
    let system = c.args.system.now in
    let used = take (c.args.number - length c.rows-given.result.now) c.args.log.now in
    let at = derivation_at system used k d (IsLog-take system c.args.log.now (c.args.number - length c.rows-given.result.now) c.requires.log) h in
    subst (λ n. All (λ t. (1 ≤ t.0) × (t.0 ≤ n + k)) (step_of (get_or used k d)).terms) (sym (ap length c.rows-given.ensures.rows)) at.named

pub needed_steps-requires-clause-log : goal.needed_steps-requires-clause-log
needed_steps-requires-clause-log c = IsLog-take c.args.system.now c.args.log.now (c.args.number - length c.rows-given.result.now) c.requires.log

pub returns-clause-good : goal.returns-clause-good
returns-clause-good c =
    elim c.if-number-given.branch [
      | then-number-given+in_ok-steps w ↦ w.in_ok-steps.ensures.good (record { steps = c.from_vec.result }) (c.from_vec.ensures ∙ ap (λ v. v.items) w.steps-is)
      | else-number-given+in_ok-needed+in_ok-steps-2 w ↦
          let system = c.args.system.now in
          let made = w.in_ok-steps-2.ensures in
          let steps = w.in_ok-steps-2.steps.items in
          let same : c.from_vec.result ≡ steps = c.from_vec.ensures ∙ ap (λ v. v.items) w.steps-is in
          let r = c.requires.number in
          let row = used_row system c.args.log.now c.args.number r.0 r.1 (length c.rows-given.result.now) (ap length c.rows-given.ensures.rows) w.if-number-given.false in
          subst (λ xs. IsGood system (record { steps = xs })) (sym same) (good_from_steps system (record { steps = steps }) r.0 made.good made.last.0 (made.last.1 ∙ row) r.3)
    ]

pub returns-clause-lean : goal.returns-clause-lean
returns-clause-lean c =
    elim c.if-number-given.branch [
      | then-number-given+in_ok-steps w ↦ w.in_ok-steps.ensures.lean (record { steps = c.from_vec.result }) (c.from_vec.ensures ∙ ap (λ v. v.items) w.steps-is)
      | else-number-given+in_ok-needed+in_ok-steps-2 w ↦ w.in_ok-steps-2.ensures.lean (record { steps = c.from_vec.result }) (c.from_vec.ensures ∙ ap (λ v. v.items) w.steps-is)
    ]
