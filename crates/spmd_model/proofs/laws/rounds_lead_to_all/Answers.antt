use Rattle.spmd_model.proofs.RoundChains.{posted_by_all, rounds_lead}
use Rattle.spmd_model.proofs.laws.rounds_lead_to_all.Goals as goal

pub returns-clause-chain : goal.returns-clause-chain
returns-clause-chain c m place first rounds q p t u there enough some lt lt' here behind = rounds_lead m place first rounds u there some behind q p t enough.least enough.reach here lt lt'

pub returns-clause-posted : goal.returns-clause-posted
returns-clause-posted c = posted_by_all
