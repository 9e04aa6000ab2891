use Rattle.obligation_numbers.proofs.scene.Both.+carried_count.Given as goal

abbrev pub decreases-carried_count : goal.decreases-carried_count
decreases-carried_count l = l.left
