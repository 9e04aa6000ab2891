use Rattle.std.proofs.Common.{OnOk, string_bytes, sym, subst}
use Rattle.nest_tree.specs.View.{tree_of}
use Rattle.owner_partition.specs.declared.anchor.Dist.TheVariants.{Block, Cyclic}
use Rattle.c_statements.specs.Texts.{Written}
use Rattle.c_owners.specs.Owners.{SpotOwner, place_at}
use Rattle.c_owners.proofs.Owning.{spot_is}
use Rattle.c_owners.proofs.layout.Layout.put_owner.Goals as goal

pub returns-in-Block : goal.returns-in-Block
returns-in-Block c =
    let tree = tree_of c.args.self.now.program.now in
    let workers = c.args.self.now.workers in
    let form = c.args.anchor.now.form in
    let spot = c.of_form-spot.result in
    let s = c.of_form-spot.ensures in
    let old = string_bytes c.args.out.now in
    let new = string_bytes c.put_in_block.new.out in
    subst (λ d. OnOk c.put_in_block.result (Written (SpotOwner workers d (place_at tree c.args.last form)) old new)) (sym c.in-Block.is)
    (subst (λ p. OnOk c.put_in_block.result (Written (SpotOwner workers (Block c.in-Block.length) p) old new)) (spot_is tree form c.args.last spot.constant spot.loops.now spot.params.now spot.last s.constant s.loops s.params s.last) c.put_in_block.ensures)

pub returns-in-Cyclic : goal.returns-in-Cyclic
returns-in-Cyclic c =
    let tree = tree_of c.args.self.now.program.now in
    let workers = c.args.self.now.workers in
    let form = c.args.anchor.now.form in
    let spot = c.of_form-spot.result in
    let s = c.of_form-spot.ensures in
    let old = string_bytes c.args.out.now in
    let new = string_bytes c.put_in_turn.new.out in
    subst (λ d. OnOk c.put_in_turn.result (Written (SpotOwner workers d (place_at tree c.args.last form)) old new)) (sym c.in-Cyclic.is)
    (subst (λ p. OnOk c.put_in_turn.result (Written (SpotOwner workers Cyclic p) old new)) (spot_is tree form c.args.last spot.constant spot.loops.now spot.params.now spot.last s.constant s.loops s.params s.last) c.put_in_turn.ensures)
