use Rattle.spmd_model.proofs.OwnPhases.{by_keep, by_none_left, by_private_store, by_shared_store, by_sum, by_total, loads_give}
use Rattle.spmd_model.proofs.laws.own_cells_follow.Goals as goal

pub returns-clause-loads : goal.returns-clause-loads
returns-clause-loads c o m f last assigned p cells apart come good = loads_give o apart m f last assigned come p cells good

pub returns-clause-shared : goal.returns-clause-shared
returns-clause-shared c o m f last assigned j cell apart come good plain store inside slot = by_shared_store o apart m f last assigned come j good plain cell store inside slot

pub returns-clause-private : goal.returns-clause-private
returns-clause-private c o m f last assigned j cell k apart come good plain store inside slot private = by_private_store o apart m f last assigned come j good plain cell store inside k slot private

pub returns-clause-kept : goal.returns-clause-kept
returns-clause-kept c o m f last assigned cell k p j apart come slot private was keeps = by_keep o apart m f last assigned come cell k slot p j private was keeps

pub returns-clause-total : goal.returns-clause-total
returns-clause-total c o m f last assigned cell k p i j apart come slot sum inside some adds clear = by_total o apart m f last assigned come cell k slot p i j sum inside some adds clear

pub returns-clause-none_left : goal.returns-clause-none_left
returns-clause-none_left c o m f last assigned cell k apart come slot sum none = by_none_left o apart m f last assigned come cell k slot sum none

pub returns-clause-sum : goal.returns-clause-sum
returns-clause-sum c o m f last assigned j cell k apart come sum plain worker good = by_sum o apart m f last assigned come j cell k sum plain worker good
