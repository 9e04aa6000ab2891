use Rattle.std.proofs.Common.{◌≡◌, length, refl, sym, subst}
use Rattle.std.specs.Prelude.{Some, slice_get}
use Rattle.std.proofs.lemmas.Option.{slice_get_read}
use Rattle.plan_maker.specs.Caches.{IsEntry, IsRecalled, waits_seen}
use Rattle.plan_maker.proofs.Caches.{entry_recalled}
use Rattle.plan_maker.proofs.cache.recall.Goals as goal

pub returns-then-is_of : goal.returns-then-is_of
returns-then-is_of c = λ tree plan slot mem.
    let e = c.entry-item.result in
    let g = waits_seen c.args.waits.now in
    let entries = c.args.entries.now in
    let k = c.loop-entry.entry-index in
    let at : slice_get entries k ≡ Some e = slice_get_read entries (length entries) k e refl c.loop-entry-test.true c.entry-item.is in
    let here = subst (IsEntry tree plan slot) (sym c.entry-item.is) (mem k e c.loop-entry-test.true) in
    subst (IsRecalled tree plan slot g entries) (sym c.cause_of.ensures) (entry_recalled tree plan slot g entries k e at (c.is_of.ensures.0 c.if-is_of.true) here)
