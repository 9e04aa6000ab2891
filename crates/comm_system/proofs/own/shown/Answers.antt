use Rattle.std.proofs.Common.{◌≡◌, ◌+◌, ◌++◌, [], ◌∷◌, drop, map, ap, sym, ◌∙◌}
use Rattle.std.proofs.lemmas.List.{map-append}
use Rattle.comm_system.specs.KeptViews.{kept_seen}
use Rattle.conflict_rules.specs.Seen.{reference_seen}
use Rattle.comm_system.specs.Shown.{is_among, shown_among}
use Rattle.comm_system.proofs.RowSteps.{left_more, list_more}
use Rattle.comm_system.proofs.ShownLists.{shown_left_out, shown_other, shown_taken}
use Rattle.comm_system.proofs.own.shown.Goals.{then-contains+else-contains-2+in_ok-push, else-contains}
use Rattle.comm_system.proofs.own.shown.Goals as goal

pub loop-reference-preserved-then-contains-2 : goal.loop-reference-preserved-then-contains-2
loop-reference-preserved-then-contains-2 c =
    let refs = c.as_slice-references.result.now in
    let k = c.loop-reference.reference-index in
    let r = c.reference-item.result in
    let ps = c.privates_in-privates.result.now in
    let ts = c.loop-reference.taken.items in
    let variable = sym c.variable-variable.ensures in
    let left = left_more reference_seen refs k r c.loop-reference-test.true c.reference-item.is in
    let private = ap (is_among ps) variable ∙ sym c.contains.ensures.value ∙ c.if-contains.true in
    let before = ap (is_among ts) variable ∙ ap (λ xs. is_among xs c.variable-variable.result) (sym c.deref.ensures.value) ∙ sym c.contains-then-contains.ensures.value ∙ c.if-contains-2.true in
    ap (λ xs. map kept_seen c.loop-reference.found.items ++ xs) (sym (ap (shown_among ps ts) left ∙ shown_left_out ps ts (reference_seen r) (map reference_seen (drop (k + 1) refs)) private before)) ∙ c.loop-reference.invariant

pub loop-reference-preserved : goal.loop-reference-preserved
loop-reference-preserved c =
    let refs = c.as_slice-references.result.now in
    let k = c.loop-reference.reference-index in
    let r = c.reference-item.result in
    let ps = c.privates_in-privates.result.now in
    let ts = c.loop-reference.taken.items in
    let rest = map reference_seen (drop (k + 1) refs) in
    let variable = sym c.variable-variable.ensures in
    let left = ap (shown_among ps ts) (left_more reference_seen refs k r c.loop-reference-test.true c.reference-item.is) in
    let more : shown_among ps ts (map reference_seen (drop k refs)) ≡ reference_seen r ∷ shown_among ps c.if-contains.taken.items rest = elim c.if-contains.branch [
      | then-contains+else-contains-2+in_ok-push w ↦
          let private = ap (is_among ps) variable ∙ sym c.contains.ensures.value ∙ w.if-contains.true in
          let fresh = ap (is_among ts) variable ∙ ap (λ xs. is_among xs c.variable-variable.result) (sym w.deref.ensures.value) ∙ sym w.contains-then-contains.ensures.value ∙ w.if-contains-2.false in
          left ∙ shown_taken ps ts (reference_seen r) rest private fresh ∙ ap (λ v. reference_seen r ∷ shown_among ps (ts ++ v ∷ []) rest) variable ∙ ap (λ xs. reference_seen r ∷ shown_among ps xs rest) (sym w.in_ok-push.ensures.items ∙ ap (λ t. t.items) (sym w.taken-is))
      | else-contains w ↦
          let plain = ap (is_among ps) variable ∙ sym c.contains.ensures.value ∙ w.if-contains.false in
          left ∙ shown_other ps ts (reference_seen r) rest plain ∙ ap (λ t. reference_seen r ∷ shown_among ps t.items rest) (sym w.taken-is)
    ] in
    list_more (shown_among ps [] (map reference_seen refs)) (map kept_seen c.loop-reference.found.items) (map kept_seen c.push-in-loop-reference.new.self.items) (shown_among ps ts (map reference_seen (drop k refs))) (shown_among ps c.if-contains.taken.items rest) (reference_seen r)
    c.loop-reference.invariant more (ap (map kept_seen) c.in_ok-push-2.ensures.items ∙ map-append kept_seen c.loop-reference.found.items _)
