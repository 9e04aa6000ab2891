-- Where a plan has no own scalars a processor is settled at all times.
use Rattle.std.proofs.Common.{◌≡◌, ℕ, ◌<◌, nat_lt, false, List, [], ◌∷◌, length, get_or, refl, subst, sym, ◌∙◌, arith}
use Rattle.std.specs.List.{All}
use Rattle.std.proofs.lemmas.List.Elements.{All-head}
use Rattle.list_lemmas.proofs.Each.{All-right}
use Rattle.spmd_model.specs.Deeds.{Deed}
use Rattle.spmd_model.specs.Quiet.{past_quiet, quiet_next}
use Rattle.turns.specs.Turns.{has_own}
use Rattle.turns.proofs.KnownOwn.{none_at}
use Rattle.spmd_machine.specs.Machines.{IsMachine, model_of, plan_in, shared_in, shown, style_in, tree_in}
use Rattle.spmd_machine.specs.Processors.{left_of}
use Rattle.spmd_machine.specs.declared.parts.Parts.{Parts}
use Rattle.spmd_machine.specs.declared.processor.Processor.{Processor}
use Rattle.spmd_machine.proofs.Kept.{picked}
use Rattle.spmd_machine.proofs.LoudDeeds.{IsLoud, all_loud}
use Rattle.spmd_machine.proofs.Quiets.{quiet_is, quiet_over}
use Rattle.spmd_machine.proofs.Ready.{kept_here, shown_count}
use Rattle.spmd_machine.proofs.Settles.{quiet_none}

module _ (m : Parts) (ready : IsMachine m) (none : has_own (plan_in m) ≡ false) where
  none_quiet : (p : ℕ) → p < length m.processors.items → nat_lt 0 (quiet_next (model_of m) (shared_in m) (shown m) p) ≡ false
  none_quiet p lt =
      let (x, read) = picked m.processors.items p lt in
      let s = (kept_here m ready p x x lt read).behind in
      let P = IsLoud (tree_in m) (plan_in m) p (λ place. none_at (tree_in m) (plan_in m) place none) in
      let all = all_loud (tree_in m) (plan_in m) p (λ place. none_at (tree_in m) (plan_in m) place none) ready.formed ready.fits ready.ranges (style_in m) in
      by x lt read (left_of x) refl (All-right P s.front (left_of x) (subst (All P) s.is all))
    where
      by : (x : Processor) (lt : p < length m.processors.items) → x ≡ get_or m.processors.items p x → (ds : List Deed) → left_of x ≡ ds → All (IsLoud (tree_in m) (plan_in m) p (λ place. none_at (tree_in m) (plan_in m) place none)) (left_of x) →
          nat_lt 0 (quiet_next (model_of m) (shared_in m) (shown m) p) ≡ false
      by x lt read [] left all = quiet_over m ready p x lt read left
      by x lt read (d ∷ rest) left all =
          let P = IsLoud (tree_in m) (plan_in m) p (λ place. none_at (tree_in m) (plan_in m) place none) in
          quiet_is m ready p x lt read d rest left ∙ All-head P d rest (subst (All P) left all)

  -- so nothing is to be done there
  pub settled_without : (p : ℕ) → p < length m.processors.items → shown m ≡ past_quiet (model_of m) (shared_in m) (shown m) p
  settled_without p lt = sym (quiet_none (model_of m) (shared_in m) (shown m) p (omega (arith, lt, shown_count m)) (none_quiet p lt))
