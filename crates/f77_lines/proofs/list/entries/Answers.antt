use Rattle.std.proofs.Common.{◌≡◌, ◌<◌, ◌+◌, ◌++◌, map, length, arith, sym, ap, ◌∙◌, false, true, [], ◌∷◌, List, refl, inl, inr}
use Rattle.std.proofs.lemmas.List.{append-nil}
use Rattle.f77_lines.specs.declared.row.Kind.{Kind}
use Rattle.f77_lines.specs.declared.row.Kind.TheVariants.{Comment, Directive, Initial, Continuation}
use Rattle.f77_lines.specs.Columns.{columns_of, kind_of, lines_of}
use Rattle.f77_lines.specs.Statements.{is_end, begun, entries_from, Entry}
use Rattle.f77_lines.specs.Listing.{entry_of}
use Rattle.f77_lines.specs.Walk.{first_of}
use Rattle.f77_lines.proofs.Cuts.{is_end-initial, is_end-other, entries_from-none, entries_from-on, entries_from-end}
use Rattle.f77_lines.proofs.Entries.{listed-pushed, listed-kept, listed-ended}
use Rattle.f77_lines.proofs.list.entries.Goals as goal
use Rattle.f77_lines.proofs.list.entries.Goals.{in-Initial-2+in_ok-statement-in-Initial-2+in_ok-push-in-Initial-2, in-Directive+in_ok-directive-in-Directive+in_ok-push-in-Directive, in-Comment}

pub returns-in-Initial : goal.returns-in-Initial
returns-in-Initial c =
    let rest = c.loop-rest.rest.now in
    let columns = c.columns_of-columns.result.now in
    let some : 0 < length rest = grind arith in
    let first : columns ≡ columns_of (first_of rest) = cc in
    let kind : kind_of columns ≡ Initial = sym c.kind_of.ensures ∙ c.in-Initial.is in
    let ends : is_end columns ≡ true = is_end-initial columns kind ∙ sym c.reads_end.ensures ∙ c.if-reads_end.true in
    listed-ended c.loop-rest.entries.items c.push.new.self.items c.in_ok-ending-in-Initial.field-0 _ _ _ c.loop-rest.invariant.listed (entries_from-end rest columns c.loop-rest.number some first ends) c.in_ok-ending-in-Initial.ensures c.in_ok-push-in-Initial.ensures.items

pub loop-rest-preserved : goal.loop-rest-preserved
loop-rest-preserved c =
    let rest = c.loop-rest.rest.now in
    let columns = c.columns_of-columns.result.now in
    let number = c.loop-rest.number in
    let behind = lines_of c.first_line.result.1.now in
    let some : 0 < length rest = grind arith in
    let first : columns ≡ columns_of (first_of rest) = cc in
    let here = begun (kind_of columns) number columns behind in
    let more = entries_from (number + 1) behind in
    let cut : is_end columns ≡ false → entries_from number (lines_of rest) ≡ here ++ more = λ goes_on. (let listed = entries_from-on rest columns some first goes_on number in cc) in
    let is : (k : Kind) → c.kind_of.result ≡ k → kind_of columns ≡ k = λ k e. sym c.kind_of.ensures ∙ e in
    let begins : (k : Kind) → kind_of columns ≡ k → begun k number columns behind ≡ here = λ k e. ap (λ x. begun x number columns behind) (sym e) in
    let front = c.loop-rest.entries.items in
    let whole = c.loop-rest.invariant.listed in
    record {
      listed = elim c.match-kind_of.branch [
        | in-Initial-2+in_ok-statement-in-Initial-2+in_ok-push-in-Initial-2 w ↦ (
            let kind = is Initial w.in-Initial-2.is in
            let goes_on : is_end columns ≡ false = is_end-initial columns kind ∙ sym w.reads_end.ensures ∙ w.if-reads_end.false in
            rw w.entries-is (listed-pushed front here more _ _ whole (cut goes_on) w.push-in-Initial-2.new.self.items w.in_ok-statement-in-Initial-2.field-0
            (ap (λ (x : Entry). x ∷ []) w.in_ok-statement-in-Initial-2.ensures ∙ begins Initial kind) w.in_ok-push-in-Initial-2.ensures.items))
        | in-Directive+in_ok-directive-in-Directive+in_ok-push-in-Directive w ↦ (
            let kind = is Directive w.in-Directive.is in
            rw w.entries-is (listed-pushed front here more _ _ whole (cut (is_end-other columns Directive kind refl)) w.push-in-Directive.new.self.items w.in_ok-directive-in-Directive.field-0
            (ap (λ (x : Entry). x ∷ []) w.in_ok-directive-in-Directive.ensures ∙ begins Directive kind) w.in_ok-push-in-Directive.ensures.items))
        | in-Comment w ↦ rw w.entries-is (elim w.in-Comment.is [
          | inl e ↦ listed-kept front here more _ _ whole (cut (is_end-other columns Comment (is Comment e) refl)) (begins Comment (is Comment e))
          | inr e ↦ listed-kept front here more _ _ whole (cut (is_end-other columns Continuation (is Continuation e) refl)) (begins Continuation (is Continuation e))
        ])
      ];
      within = grind arith;
    }

pub returns : goal.returns
returns c =
    let none : length c.loop-rest.rest.now ≡ 0 = grind arith in
    let listed = entries_from-none c.loop-rest.number c.loop-rest.rest.now none in
    let whole = c.loop-rest.invariant.listed in
    sym (append-nil (map entry_of c.loop-rest.entries.items)) ∙ ap (λ (es : List Entry). map entry_of c.loop-rest.entries.items ++ es) (sym listed) ∙ whole
