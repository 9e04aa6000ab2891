use Rattle.std.proofs.Common.{true, refl, codes, List, ℕ, ◌≡◌}
use Rattle.plan_text.specs.Loose.{count_32_said}
use Rattle.plan_text.specs.PlanText.{alone, headed, is_32, is_loop_shown, numbered}
use Rattle.plan_text.specs.Stops.{AreItems, RefusesPart}
use Rattle.plan_text.specs.Words.{count_line, loop_line}
use Rattle.plan_text.proofs.Frees.{AreCounted, err_map, header_refused, items_refused}
use Rattle.plan_text.proofs.LineLaws.{count_32-law, line_free}
use Rattle.plan_text.proofs.read.read_cut.Goals as goal

abbrev word : List ℕ
word = codes "LOOPS"

apart : (m n : ℕ) → is_32 m ≡ true → is_32 n ≡ true → count_line word m ≡ count_line word n → m ≡ n
apart m n h h' e = line_free (count_line word) is_32 count_32_said (count_32-law word refl) m n h h' e

pub returns-in-Err-clause-refused : goal.returns-in-Err-clause-refused
returns-in-Err-clause-refused c = header_refused (count_line word) is_32 apart refl (alone loop_line) (is_loop_shown c.args.version) c.args.lines.now.rest.now c.args.lines.now.taken c.in-Err.refusal c.in-Err.ensures.refused

pub returns-clause-refused : goal.returns-clause-refused
returns-clause-refused c =
    let n = c.in-Ok.count in
    err_map (RefusesPart (numbered (alone loop_line) 1) (AreItems (is_loop_shown c.args.version) n) c.read_count_32.new.lines.rest.now c.read_count_32.new.lines.taken)
    (RefusesPart (headed (count_line word) (alone loop_line)) (AreCounted (count_line word) is_32 apart refl (alone loop_line) (is_loop_shown c.args.version)) c.args.lines.now.rest.now c.args.lines.now.taken) c.read_loops.result c.read_loops.ensures.refused
    (λ e. items_refused (count_line word) is_32 apart refl (alone loop_line) (is_loop_shown c.args.version) n c.in-Ok.ensures.fits c.args.lines.now.rest.now c.read_count_32.new.lines.rest.now c.args.lines.now.taken c.read_count_32.new.lines.taken e c.in-Ok.ensures.ok c.in-Ok.ensures.taken)
