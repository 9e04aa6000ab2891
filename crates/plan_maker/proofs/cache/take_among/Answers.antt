use Rattle.std.proofs.lemmas.List.{nil_from_length}
use Rattle.std.proofs.Common.{◌≡◌, true, false, [], sym, ◌∙◌, subst, arith}
use Rattle.std.specs.Global.{Vec}
use Rattle.farkas_cert.specs.declared.certificate.Certificate.{Certificate}
use Rattle.plan_maker.specs.Asked.{AreRefuted, slot_asked}
use Rattle.plan_maker.specs.Caches.{IsEntry, IsHeld, key_seen, waits_seen}
use Rattle.plan_maker.specs.Judged.{IsVerdict}
use Rattle.plan_maker.specs.declared.verdict.Verdict.TheVariants.{Refuted, Kept}
use Rattle.plan_maker.proofs.Caches.{held_less, none_held}
use Rattle.plan_maker.proofs.Lists.{front_of, last_of}
use Rattle.plan_maker.proofs.cache.take_among.Goals as goal
use Rattle.plan_maker.proofs.cache.take_among.Goals.{then-is_of+in_default-verdict, else-is_of}

pub returns-in-Refuted : goal.returns-in-Refuted
returns-in-Refuted c tree plan slot all held =
    let e = c.in-Some.entry in
    let here : IsEntry tree plan slot e = last_of (IsEntry tree plan slot) c.pop.new.self.items c.loop-entry.left.items e c.in-Some.ensures.items (c.loop-entry.invariant.entries tree plan slot all) in
    let verdict = subst (IsVerdict (slot_asked tree plan slot (key_seen e.key))) c.in-Refuted.is here in
    subst (λ g. AreRefuted (slot_asked tree plan slot g) c.in-Refuted.certificates.items) (c.is_of.ensures.0 c.if-is_of.true) verdict

pub loop-entry-preserved : goal.loop-entry-preserved
loop-entry-preserved c =
    let e = c.in-Some.entry in
    let left = c.pop.new.self.items in
    let other : (cs : Vec Certificate) → key_seen e.key ≡ waits_seen c.args.waits.now → e.verdict ≡ Refuted cs → ⊥ =
    λ cs key is. elim c.if-is_of.branch [
      | then-is_of+in_default-verdict w ↦ let clash : Kept w.in_default-verdict.field-0 ≡ Refuted cs = sym w.in_default-verdict.is ∙ is in absurd (cc)
      | else-is_of w ↦ let clash : true ≡ false = sym (c.is_of.ensures.1 key) ∙ w.if-is_of.false in absurd (cc)
    ] in
    record {
      entries = λ tree plan slot all. front_of (IsEntry tree plan slot) left c.loop-entry.left.items e c.in-Some.ensures.items (c.loop-entry.invariant.entries tree plan slot all);
      held = λ tree plan slot h. held_less tree plan slot (waits_seen c.args.waits.now) c.loop-entry.left.items left e c.in-Some.ensures.items other (c.loop-entry.invariant.held tree plan slot h);
    }

pub returns : goal.returns
returns c tree plan slot all held =
    let empty : c.loop-entry.left.items ≡ [] = nil_from_length c.loop-entry.left.items (omega (arith, c.loop-entry.left.ok.0, c.in_default.ensures.cases)) in
    let none = none_held tree plan slot (waits_seen c.args.waits.now) (subst (IsHeld tree plan slot (waits_seen c.args.waits.now)) empty (c.loop-entry.invariant.held tree plan slot held)) in
    subst (λ qs. AreRefuted qs c.new.result.items) (sym none) (subst (AreRefuted []) (sym c.new.ensures.items) tt)
