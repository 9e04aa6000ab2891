use Rattle.std.proofs.Common.{◌≡◌, ◌++◌, drop}
use Rattle.nest_tree.specs.View.{statements_from}
use Rattle.maker_marks.specs.Privates.{own_at, privates_of}
use Rattle.maker_marks.specs.Tries.{tried_at}
use Rattle.maker_marks.proofs.privates.+privates.Given as goal

abbrev pub invariant-push_privates-loop-item : goal.invariant-push_privates-loop-item
invariant-push_privates-loop-item l =
    l.lists.items ++ privates_of (tried_at l.dealt.tries.now) (own_at l.dealt.privates.now) (statements_from (drop l.item-index l.items)) ≡ l.initial.lists.items ++ privates_of (tried_at l.dealt.tries.now) (own_at l.dealt.privates.now) (statements_from l.items)
