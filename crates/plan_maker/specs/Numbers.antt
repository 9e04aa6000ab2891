-- The numbers of plans, as their types hold them.
use Rattle.std.specs.Prelude.{ℕ, ℤ, ◌≡◌, Bool, true, ◌&&◌, List, length}
use Rattle.std.specs.List.{list_all}
use Rattle.std.specs.Option.{option_map_or}
use Rattle.owner_partition.specs.declared.anchor.Anchor.{Anchor}
use Rattle.sync_plan.specs.declared.plan.Kind.{Kind}
use Rattle.sync_plan.specs.declared.plan.Plan.{Plan}
use Rattle.sync_plan.specs.Kinds.{anchor_in}
use Rattle.sync_plan.specs.Numbers.{is_32, is_64, is_certificate_shown, is_dist_shown}

-- what a form names, an anchor, and the anchor of a kind, if it has one
abbrev pub is_pair_held : ℕ × ℤ → Bool
is_pair_held p = is_32 p.0

abbrev pub is_anchor_held : Anchor → Bool
is_anchor_held a = list_all is_pair_held a.form.loops && list_all is_pair_held a.form.params
    && is_dist_shown a.dist

abbrev pub is_kind_held : Kind → Bool
is_kind_held kind = option_map_or is_anchor_held (anchor_in kind) true

abbrev pub are_privates_held : List ℕ → Bool
are_privates_held vs = list_all is_32 vs

-- the numbers of a plan
pub record IsHeld (plan : Plan) : Type 0 where
  pub anchors : list_all is_anchor_held plan.anchors ≡ true
  pub kinds : list_all is_kind_held plan.kinds ≡ true
  pub privates : list_all are_privates_held plan.cut.privates ≡ true
  pub count : is_64 (length plan.certificates) ≡ true
  pub certificates : list_all is_certificate_shown plan.certificates ≡ true
