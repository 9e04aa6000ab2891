use Rattle.std.proofs.Common.{true, refl, codes, List, ℕ, ◌≡◌}
use Rattle.plan_text.specs.Loose.{count_64_said}
use Rattle.plan_text.specs.PlanText.{cert_lines, headed, is_64, is_certificate_shown, numbered}
use Rattle.plan_text.specs.Stops.{AreItems, RefusesPart}
use Rattle.plan_text.specs.Words.{count_line}
use Rattle.plan_text.proofs.Frees.{AreCounted, err_map, header_refused, items_refused}
use Rattle.plan_text.proofs.LineLaws.{count_64-law, line_free}
use Rattle.plan_text.proofs.read.read_proofs.Goals as goal

abbrev word : List ℕ
word = codes "CERTIFICATES"

apart : (m n : ℕ) → is_64 m ≡ true → is_64 n ≡ true → count_line word m ≡ count_line word n → m ≡ n
apart m n h h' e = line_free (count_line word) is_64 count_64_said (count_64-law word refl) m n h h' e

pub returns-in-Err-clause-refused : goal.returns-in-Err-clause-refused
returns-in-Err-clause-refused c = header_refused (count_line word) is_64 apart refl cert_lines is_certificate_shown c.args.lines.now.rest.now c.args.lines.now.taken c.in-Err.refusal c.in-Err.ensures.refused

pub returns-clause-refused : goal.returns-clause-refused
returns-clause-refused c =
    let n = c.in-Ok.count in
    err_map (RefusesPart (numbered cert_lines 1) (AreItems is_certificate_shown n) c.read_count_64.new.lines.rest.now c.read_count_64.new.lines.taken)
    (RefusesPart (headed (count_line word) cert_lines) (AreCounted (count_line word) is_64 apart refl cert_lines is_certificate_shown) c.args.lines.now.rest.now c.args.lines.now.taken) c.read_certificates.result c.read_certificates.ensures.refused
    (λ e. items_refused (count_line word) is_64 apart refl cert_lines is_certificate_shown n c.in-Ok.ensures.fits c.args.lines.now.rest.now c.read_count_64.new.lines.rest.now c.args.lines.now.taken c.read_count_64.new.lines.taken e c.in-Ok.ensures.ok c.in-Ok.ensures.taken)
