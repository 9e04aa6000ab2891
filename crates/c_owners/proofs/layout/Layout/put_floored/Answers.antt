use Rattle.std.proofs.Common.{◌≡◌, ◌++◌, ◌<◌, ◌^◌, string_bytes, arith, subst}
use Rattle.std.specs.Fmt.{decimal}
use Rattle.std.proofs.lemmas.Result.{on_ok_weaker}
use Rattle.nest_tree.specs.View.{tree_of}
use Rattle.c_owners.specs.Owners.{spot_at}
use Rattle.c_owners.proofs.Owning.{block_owner_written}
use Rattle.c_owners.proofs.layout.Layout.put_floored.Goals as goal

pub returns : goal.returns
returns c =
    let all = spot_at (tree_of c.args.self.now.program.now) c.args.spot.now.constant c.args.spot.now.loops.now c.args.spot.now.params.now c.args.spot.now.last in
    let small : c.args.length < 2 ^ 63 = let fits = c.ranges.length in omega (arith, fits) in
    let written = subst (λ n. string_bytes c.put_natural.new.out ≡ string_bytes c.put_text-2.new.out ++ decimal n) c.from.ensures c.in_ok-put_natural.ensures in
    on_ok_weaker c.put_text-3.result
    (λ e. block_owner_written c.args.self.now.workers c.args.length all c.args.place.now _ _ _ _ _ _ small c.requires c.in_ok-put_text.ensures c.in_ok-put_sum.ensures c.in_ok-put_text-2.ensures written e)
    c.put_text-3.ensures
