-- Verdicts on slots that are remembered.
use Rattle.std.proofs.Common.{◌≡◌, ℕ, List, [], ◌∷◌, ◌++◌, length, Some, None, refl, ap, sym, ◌∙◌, subst, inl, inr}
use Rattle.std.specs.Global.{Vec}
use Rattle.std.specs.Prelude.{slice_get}
use Rattle.list_lemmas.proofs.Gets.{get-front}
use Rattle.farkas_cert.specs.declared.certificate.Certificate.{Certificate}
use Rattle.nest_tree.specs.Tree.{Tree}
use Rattle.sync_plan.specs.declared.plan.Plan.{Plan}
use Rattle.comm_system.specs.Obligations.{Slot}
use Rattle.comm_system.specs.Signatures.{Signature}
use Rattle.plan_maker.specs.declared.cache.Entry.{Entry}
use Rattle.plan_maker.specs.declared.verdict.Verdict.TheVariants.{Refuted, Kept}
use Rattle.plan_maker.specs.Asked.{slot_asked}
use Rattle.plan_maker.specs.Caches.{IsEntry, IsHeld, IsRecalled, key_seen}
use Rattle.plan_maker.specs.Judged.{IsVerdict, Judged, cause_in}
use Rattle.std.proofs.lemmas.Option.{slice_get_within}
use Rattle.plan_maker.proofs.Lists.{get_pushed}

pub got_last : {X : Type 0} (xs : List X) (x : X) → slice_get (xs ++ x ∷ []) (length xs) ≡ Some x
got_last [] x = refl
got_last (y ∷ xs) x = got_last xs x

-- the verdict of an entry is what is remembered of its signature
pub entry_recalled : (tree : Tree) (plan : Plan) (slot : Slot) (g : Signature) (entries : List Entry) (k : ℕ) (e : Entry) → slice_get entries k ≡ Some e → key_seen e.key ≡ g → IsEntry tree plan slot e → IsRecalled tree plan slot g entries (cause_in e.verdict)
entry_recalled tree plan slot g entries k e at key h = by e.verdict refl
  where
    by : (v : Judged) → e.verdict ≡ v → IsRecalled tree plan slot g entries (cause_in v)
    by (Refuted certificates) is = inr (record { place = k; entry = e; at = at; key = key; certificates = certificates; refuted = is })
    by (Kept cause) is = subst (λ x. IsVerdict (slot_asked tree plan slot x) (Kept cause)) key (subst (IsVerdict (slot_asked tree plan slot (key_seen e.key))) is h)

-- with more verdicts it still is
pub held_more : (tree : Tree) (plan : Plan) (slot : Slot) (g : Signature) (old new more : List Entry) → new ≡ old ++ more → IsHeld tree plan slot g old → IsHeld tree plan slot g new
held_more tree plan slot g old new more behind (inl none) = inl none
held_more tree plan slot g old new more behind (inr h) = inr (record {
  place = h.place;
  entry = h.entry;
  at = ap (λ es. slice_get es h.place) behind ∙ get-front old more h.place (slice_get_within old h.place h.entry h.at) ∙ h.at;
  key = h.key;
  certificates = h.certificates;
  refuted = h.refuted;
})

-- without its last verdict, where that is another one
pub held_less : (tree : Tree) (plan : Plan) (slot : Slot) (g : Signature) (entries left : List Entry) (e : Entry) → entries ≡ left ++ e ∷ [] → ((certificates : Vec Certificate) → key_seen e.key ≡ g → e.verdict ≡ Refuted certificates → ⊥) →
    IsHeld tree plan slot g entries → IsHeld tree plan slot g left
held_less tree plan slot g entries left e is other (inl none) = inl none
held_less tree plan slot g entries left e is other (inr h) =
    elim (get_pushed left e h.place h.entry (ap (λ es. slice_get es h.place) (sym is) ∙ h.at)) [
      | inl old ↦ inr (record { place = h.place; entry = h.entry; at = old; key = h.key; certificates = h.certificates; refuted = h.refuted })
      | inr new ↦ absurd (other h.certificates (ap (λ (x : Entry). key_seen x.key) new.1 ∙ h.key) (ap (λ (x : Entry). x.verdict) new.1 ∙ h.refuted))
    ]

-- without any there are no systems
pub none_held : (tree : Tree) (plan : Plan) (slot : Slot) (g : Signature) → IsHeld tree plan slot g [] → slot_asked tree plan slot g ≡ []
none_held tree plan slot g (inl none) = none
none_held tree plan slot g (inr h) = absurd (let no : None ≡ Some h.entry = h.at in cc)
