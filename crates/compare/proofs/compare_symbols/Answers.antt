-- One symbol is never refused, has no more differences than cells, and the list has room for as many.
use Rattle.std.proofs.Common.{◌≡◌, ◌≤◌, sym, rules, arith, length}
use Rattle.std.proofs.lemmas.List.{length-take-le}
use Rattle.compare.proofs.One.{done, found}
use Rattle.compare.proofs.compare_symbols.Goals.{After-unwrap-count}
use Rattle.compare.proofs.compare_symbols.Goals as goal

few : (c : After-unwrap-count) → c.unwrap-count.result ≤ 4096
few c = (found c.compare_from.result c.unwrap-count.result c.unwrap-count.ensures (search rules) c.compare_from.ensures).1

room : (c : After-unwrap-count) → length c.compare_from.new.differences ≡ 24576
room c = search rules

pub unwrap-count-requires : goal.unwrap-count-requires
unwrap-count-requires c = done c.compare_from.result (search rules) c.compare_from.ensures

pub overflow_mul-list : goal.overflow_mul-list
overflow_mul-list c = search (rules, few (goal.at.overflow_mul-list c).After-unwrap-count)

pub slice_bounds-list-end : goal.slice_bounds-list-end
slice_bounds-list-end c =
    let at = (goal.at.slice_bounds-list-end c).After-unwrap-count in
    omega (arith, few at, room at)

pub slice_bounds-print_lines-end : goal.slice_bounds-print_lines-end
slice_bounds-print_lines-end c =
    let at = (goal.at.slice_bounds-print_lines-end c).After-unwrap-count in
    sym (length-take-le _ _ (omega (arith, few at, room at)))

pub returns-clause-few : goal.returns-clause-few
returns-clause-few c = few (goal.at.returns-clause-few c).After-unwrap-count
