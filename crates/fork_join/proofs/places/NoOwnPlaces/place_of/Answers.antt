use Rattle.std.proofs.Common.{sym}
use Rattle.spmd_model.proofs.NoOwnDeeds.{no_slot}
use Rattle.fork_join.proofs.places.NoOwnPlaces.place_of.Goals as goal

pub returns : goal.returns
returns c = λ tree plan place none. sym (no_slot tree plan place c.args.cell none)
