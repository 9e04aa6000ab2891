use Rattle.turns.proofs.TurnsAct.{turns_act}
use Rattle.turns.proofs.laws.turns_are_acts.Goals as goal

pub returns : goal.returns
returns c = turns_act
