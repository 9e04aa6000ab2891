use Rattle.std.proofs.Common.{◌≡◌, ◌-◌, true≢false, ◌++◌, ℤ, take, drop, length, length-drop, length-take, ap, sym, ◌∙◌, rules, arith, drop-drop}
use Rattle.std.specs.List.{flat_map}
use Rattle.std.proofs.lemmas.List.{take_all}
use Rattle.nest_tree.proofs.Cells.{declared-numbered}
use Rattle.nest_model.specs.Memory.{number_text}
use Rattle.seq_meaning.proofs.PrintedItems.{whole_array}
use Rattle.seq_meaning.proofs.output.Output.push_array.Goals as goal

pub element_count-count-requires : goal.element_count-count-requires
element_count-count-requires c =
    (declared-numbered c.args.program.now c.args.variable c.index.result.now c.args.program.now.formed c.requires.low c.requires.high c.index.ensures).good

pub overflow_cast-count : goal.overflow_cast-count
overflow_cast-count c =
    let array = whole_array c.args.program.now c.args.variable c.element_count-count.result c.args.at.now c.args.given.now.loaded.now c.index.result.now c.args.program.now.formed c.requires.low c.requires.high c.index.ensures c.element_count-count.ensures.count c.requires.loads in
    search (rules, array.within)

pub offset_bounds-given-at : goal.offset_bounds-given-at
offset_bounds-given-at c =
    let array = whole_array c.args.program.now c.args.variable c.element_count-count.result c.args.at.now c.args.given.now.loaded.now c.index.result.now c.args.program.now.formed c.requires.low c.requires.high c.index.ensures c.element_count-count.ensures.count c.requires.loads in
    search (rules, array.within)

pub slice_bounds-push_numbers-count : goal.slice_bounds-push_numbers-count
slice_bounds-push_numbers-count c =
    let array = whole_array c.args.program.now c.args.variable c.element_count-count.result c.args.at.now c.args.given.now.loaded.now c.index.result.now c.args.program.now.formed c.requires.low c.requires.high c.index.ensures c.element_count-count.ensures.count c.requires.loads in
    omega (arith, array.within)

pub slice_bounds-push_numbers-start : goal.slice_bounds-push_numbers-start
slice_bounds-push_numbers-start c =
    let array = whole_array c.args.program.now c.args.variable c.element_count-count.result c.args.at.now c.args.given.now.loaded.now c.index.result.now c.args.program.now.formed c.requires.low c.requires.high c.index.ensures c.element_count-count.ensures.count c.requires.loads in
    search (rules, array.within)

pub slice_bounds-push_numbers-end-2 : goal.slice_bounds-push_numbers-end-2
slice_bounds-push_numbers-end-2 c =
    let array = whole_array c.args.program.now c.args.variable c.element_count-count.result c.args.at.now c.args.given.now.loaded.now c.index.result.now c.args.program.now.formed c.requires.low c.requires.high c.index.ensures c.element_count-count.ensures.count c.requires.loads in
    omega (arith, array.within, length-take {A = ℤ}, length-drop {A = ℤ})

pub overflow_add-at : goal.overflow_add-at
overflow_add-at c =
    let array = whole_array c.args.program.now c.args.variable c.element_count-count.result c.args.at.now c.args.given.now.loaded.now c.index.result.now c.args.program.now.formed c.requires.low c.requires.high c.index.ensures c.element_count-count.ensures.count c.requires.loads in
    search (rules, array.within)

pub returns-clause-text : goal.returns-clause-text
returns-clause-text c =
    let array = whole_array c.args.program.now c.args.variable c.element_count-count.result c.args.at.now c.args.given.now.loaded.now c.index.result.now c.args.program.now.formed c.requires.low c.requires.high c.index.ensures c.element_count-count.ensures.count c.requires.loads in
    let rest = drop c.args.at.now c.args.given.now.loaded.now in
    let whole : take (length c.args.given.now.loaded.now - c.args.at.now) rest ≡ rest = take_all (length c.args.given.now.loaded.now - c.args.at.now) rest (omega (arith, length-drop {A = ℤ})) in
    c.in_ok-push_numbers.ensures.text ∙ ap (λ xs. c.args.self.now.bytes ++ flat_map number_text (take c.element_count-count.result xs)) whole
    ∙ ap (λ n. c.args.self.now.bytes ++ flat_map number_text (take n rest)) array.count_is

pub returns-clause-rest : goal.returns-clause-rest
returns-clause-rest c =
    let array = whole_array c.args.program.now c.args.variable c.element_count-count.result c.args.at.now c.args.given.now.loaded.now c.index.result.now c.args.program.now.formed c.requires.low c.requires.high c.index.ensures c.element_count-count.ensures.count c.requires.loads in
    let rest = drop c.args.at.now c.args.given.now.loaded.now in
    sym (drop-drop c.element_count-count.result c.args.at.now c.args.given.now.loaded.now) ∙ ap (λ n. drop n rest) array.count_is

pub returns-in_err-push_numbers-clause-fits : goal.returns-in_err-push_numbers-clause-fits
returns-in_err-push_numbers-clause-fits c = λ room.
    let array = whole_array c.args.program.now c.args.variable c.element_count-count.result c.args.at.now c.args.given.now.loaded.now c.index.result.now c.args.program.now.formed c.requires.low c.requires.high c.index.ensures c.element_count-count.ensures.count c.requires.loads in
    absurd (true≢false (sym (c.in_err-push_numbers.ensures.fits (omega (arith, room, array.within, array.count_is, length-take {A = ℤ}, length-drop {A = ℤ})))))

pub returns-in_err-push_numbers-clause-grown : goal.returns-in_err-push_numbers-clause-grown
returns-in_err-push_numbers-clause-grown c =
    let array = whole_array c.args.program.now c.args.variable c.element_count-count.result c.args.at.now c.args.given.now.loaded.now c.index.result.now c.args.program.now.formed c.requires.low c.requires.high c.index.ensures c.element_count-count.ensures.count c.requires.loads in
    omega (arith, c.push_numbers.ensures.grown, array.within, array.count_is, length-take {A = ℤ}, length-drop {A = ℤ})

pub returns-clause-grown : goal.returns-clause-grown
returns-clause-grown c =
    let array = whole_array c.args.program.now c.args.variable c.element_count-count.result c.args.at.now c.args.given.now.loaded.now c.index.result.now c.args.program.now.formed c.requires.low c.requires.high c.index.ensures c.element_count-count.ensures.count c.requires.loads in
    omega (arith, c.push_numbers.ensures.grown, array.within, array.count_is, length-take {A = ℤ}, length-drop {A = ℤ})
