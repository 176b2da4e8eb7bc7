use Rattle.std.proofs.Common.{rules, ◌≡◌, false, true}
use Rattle.nz_reals.proofs.neighbours.is_joined.Goals as goal

-- what is noted and has a clause would be marked
pub returns-then-is_noted-clause-no : goal.returns-then-is_noted-clause-no
returns-then-is_noted-clause-no c = λ is first id has joins.
    let unmarked : c.is_marked.result ≡ false = search rules in
    let noted : c.is_noted.result ≡ true = search rules in
    c.is_marked.ensures.unmarked unmarked (c.requires.noted c.args.place first (c.is_noted.ensures.noted noted) id has joins)
